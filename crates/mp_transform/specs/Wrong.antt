-- The first wrong token of a text.
use Rattle.std.specs.Prelude.{◌≡◌, ℕ, ◌-◌, List, length, drop, Ok}
use Rattle.mp_base.specs.declared.refusal.Refusal.{Refusal}
use Rattle.mp_base.specs.declared.refusal.Refusal.TheVariants as o
use Rattle.mp_base.specs.declared.kinds.TextKind.TheVariants as t
use Rattle.mp_tokens.specs.Tokens.{Tok, tokens}
use Rattle.mp_grammar.specs.Grammar.{FirstWrong}
use Rattle.mp_transform.specs.Text.{wrong_token}

-- the text has tokens, which are no file, and the refusal tells the first with which no file begins: its place and its bytes, or the end of the text where all of them begin one
pub record ShowsWrongToken (text : List ℕ) (refusal : Refusal) : Type 0 where
  pub ts : List Tok
  pub index : ℕ
  pub lexed : tokens text ≡ Ok ts
  pub first : FirstWrong ts index
  pub told : refusal ≡ wrong_token (length text) (drop (index - 1) ts)

-- a refusal of a token tells the first wrong one
abbrev pub IfWrongToken : List ℕ → Refusal → Type 0
IfWrongToken text (o.Text t.Token at token) = ShowsWrongToken text (o.Text t.Token at token)
IfWrongToken text _ = Unit {0}
