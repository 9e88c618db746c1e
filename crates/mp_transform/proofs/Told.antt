-- What each step of a text gives, and so the whole.
use Rattle.std.proofs.Common.{◌≡◌, ℕ, List, length, Result, Ok, Err, sym, ap, ◌∙◌, subst}
use Rattle.std.specs.Result.{IsErrAnd, IfOk, MatchResult}
use Rattle.mp_base.specs.declared.refusal.Refusal.{Refusal}
use Rattle.mp_base.specs.declared.refusal.Refusal.TheVariants as o
use Rattle.mp_tokens.specs.Tokens.{Tok, tokens}
use Rattle.mp_statements.specs.Statements.{Statement}
use Rattle.mp_grammar.specs.Grammar.{file_read}
use Rattle.mp_semantics.specs.Model.{Model}
use Rattle.mp_solutions.specs.Transformed.{transformed}
use Rattle.mp_canonical.specs.Printable.{HasFreeNames}
use Rattle.mp_transform.specs.Steps.{Step, and_then, Refuses, Says, TextShows}
use Rattle.mp_transform.specs.Text.{token_step, file_step, named_step, sourced, tested, tokens_give, model_of_text, output_of, output_gives}
use Rattle.mp_transform.specs.declared.output.Output.{Output}
use Rattle.mp_transform.specs.Canonical.{HasNames}

-- a refusal goes through
through : {X Y : Type 0} (r : Step X) (next : X → Step Y) (x : Refusal) → Refuses r x → Refuses (and_then r next) x
through r next o.NoMemory h = tt
through r next (o.ReadFault count) h = h
through r next (o.WriteFault count) h = h
through r next _ h = ap (λ s. and_then s next) h

-- what is written of the transformed model
abbrev bytes : Output → Model → Step (List ℕ)
bytes output M = output_of output (transformed M)

module _ (output : Output) (text : List ℕ) (end : ℕ) (ts : List Tok) (file : List Statement) (is_lexed : token_step (tokens text) ≡ Ok ts) (is_read : file_step end (file_read ts) ≡ Ok file) (ends : end ≡ length text) where
  steps : model_of_text text ≡ tested end ts file
  steps =
      ap (λ x. and_then x (tokens_give (length text))) is_lexed ∙ ap (λ (n : ℕ). tokens_give n ts) (sym ends) ∙ ap (λ x. and_then x (tested end ts)) is_read

  refuses : (x : Refusal) → Refuses (tested end ts file) x → Refuses (output_gives output text) x
  refuses x h = subst (λ (g : Step Model). Refuses (and_then g (bytes output)) x) (sym steps) (through (tested end ts file) (bytes output) x h)

  says_refused : (r : Result (List ℕ) Refusal) (x : Refusal) → IsErrAnd r (λ e. e ≡ x) → Refuses (tested end ts file) x → Says (λ b. b) (output_gives output text) r
  says_refused (Ok b) x same h = absurd same
  says_refused (Err y) x same h = subst (λ (z : Refusal). Refuses (output_gives output text) z) (sym same) (refuses x h)

  -- the source has a refusal
  pub source_refused : (r : Result (List ℕ) Refusal) (x : Refusal) → IsErrAnd r (λ e. e ≡ x) → Refuses (sourced end ts file) x → Says (λ b. b) (output_gives output text) r
  source_refused r x same h = says_refused r x same (through (sourced end ts file) (named_step file) x h)

  module _ (M : Model) (is_source : sourced end ts file ≡ Ok M) where
    -- the names of its auxiliaries have one
    pub names_refused : (r : Result (List ℕ) Refusal) (x : Refusal) → IsErrAnd r (λ e. e ≡ x) → Refuses (named_step file M) x → Says (λ b. b) (output_gives output text) r
    names_refused r x same h = says_refused r x same (subst (λ (g : Step Model). Refuses (and_then g (named_step file)) x) (sym is_source) h)

    module _ (is_named : named_step file M ≡ Ok M) where
      is_tested : model_of_text text ≡ Ok M
      is_tested = steps ∙ ap (λ g. and_then g (named_step file)) is_source ∙ is_named

      -- neither has
      pub text_told : (r : Result (List ℕ) Refusal) → Says (λ b. b) (output_of output (transformed M)) r → Says (λ b. b) (output_gives output text) r
      text_told r says = subst (λ g. Says (λ b. b) g r) (sym (ap (λ g. and_then g (bytes output)) is_tested)) says

      pub names_told : (r : Result (List ℕ) Refusal) → HasFreeNames M → IfOk r (λ b. HasNames (model_of_text text))
      names_told (Ok b) names = subst HasNames (sym is_tested) names
      names_told (Err x) names = tt

-- a refusal that is shown is shown further on
pub shown_further : (r : Result (List ℕ) Refusal) (x : Refusal) → IsErrAnd r (λ e. e ≡ x) → TextShows x → MatchResult r (λ b. Unit {0}) TextShows
shown_further (Ok b) x same h = tt
shown_further (Err y) x same h = subst TextShows (sym same) h
