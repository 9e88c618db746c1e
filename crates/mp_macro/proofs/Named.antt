-- A name with a new value.
use Rattle.std.proofs.Common.{◌≡◌, ℕ, ◌+◌, ◌<◌, List, ◌∷◌, drop, length, get_or, Option, Some, sym, ap, ◌∙◌}
use Rattle.std.proofs.lemmas.List.{drop_more}
use Rattle.mp_mvalue.specs.Environments.{Environment, value_in, Has}
use Rattle.mp_mvalue.specs.declared.value.Value.{Value}
use Rattle.mp_mvalue.specs.declared.defines.Define.{Define}
use Rattle.mp_mvalue.specs.Environments.{Names}
use Rattle.mp_macro.specs.States.{with_name}
use Rattle.mp_macro.specs.Expansion.{defined}

pub named-is : (old new : Environment) (name : List ℕ) (v : Option Value) → Has old new name v → value_in new ≡ with_name (value_in old) name v
named-is old new name v h = λ i. λ other. h other i

-- one define more
pub define-turn : (old new : Environment) (name : List ℕ) (v : Value) (d : Define) (ds all : List Define) (at : ℕ) (t : Names) → Has old new name (Some v) → name ≡ d.name → v ≡ d.value → at < length all → d ≡ get_or all at d → defined (value_in old) (drop at all) ≡ t → defined (value_in new) (drop (at + 1) all) ≡ t
define-turn old new name v d ds all at t h n w lt is told =
    ap (λ x. defined x (drop (at + 1) all)) (named-is old new name (Some v) h ∙ ap (λ x. with_name (value_in old) x (Some v)) n ∙ ap (λ x. with_name (value_in old) d.name (Some x)) w)
    ∙ sym (ap (defined (value_in old)) (drop_more all at d lt ∙ ap (λ x. x ∷ drop (at + 1) all) (sym is)))
    ∙ told
