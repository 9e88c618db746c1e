-- The first wrong token of what is run.
use Rattle.std.specs.Prelude.{◌≡◌, ℕ, List, Option, IfSome, Ok}
use Rattle.mp_base.specs.declared.outcome.Outcome.{Outcome}
use Rattle.mp_base.specs.declared.outcome.Outcome.TheVariants.{Refused}
use Rattle.mp_base.specs.declared.refusal.Refusal.TheVariants as o
use Rattle.mp_base.specs.declared.refusal.Refusal.{Refusal}
use Rattle.mp_base.specs.declared.kinds.TextKind.TheVariants as t
use Rattle.mp_outside.specs.Outside.{Listing}
use Rattle.mp_words.specs.Words.{Request, request_of}
use Rattle.mp_macro.specs.Expansion.{expands}
use Rattle.mp_transform.specs.Wrong.{ShowsWrongToken}

-- this is the first wrong token of the expanded text of the file that the words name
pub record IsFirstWrong (words : List (List ℕ)) (l : Listing) (refusal : Refusal) : Type 0 where
  pub request : Request
  pub text : List ℕ
  pub asked : request_of words ≡ Ok request
  pub expanded : expands l request.file request.defines ≡ Ok text
  pub shows : ShowsWrongToken text refusal

-- a refusal of a token tells the first wrong one
abbrev pub TellsWrongToken : Option Listing → List (List ℕ) → Outcome → Type 0
TellsWrongToken told words (Refused (o.Text t.Token at token)) = IfSome told (λ l. IsFirstWrong words l (o.Text t.Token at token))
TellsWrongToken told words _ = Unit {0}
