-- The names of auxiliaries that the code has found are free.
use Rattle.std.proofs.Common.{◌≡◌, ℕ, ◌≤◌, List, [], ◌∷◌, map, length, Bool, true, false, cond, Option, Some, None, bytes_eq, refl, subst}
use Rattle.std.specs.List.{AllByRecursion, list_any}
use Rattle.std.specs.List as std
use Rattle.mp_statements.specs.declared.kind.NameKind.{NameKind}
use Rattle.mp_statements.specs.declared.kind.NameKind.TheVariants as kind
use Rattle.mp_semantics.specs.Model.{Model}
use Rattle.mp_solutions.specs.Auxiliaries as a
use Rattle.mp_solutions.specs.Auxiliaries.{auxiliaries_of, auxiliary_name}
use Rattle.mp_values.specs.Names.{Names}
use Rattle.mp_names.specs.Named.{kind_in}
use Rattle.mp_canonical.specs.Printable.{IsFree, HasFreeNames}
use Rattle.mp_shift.specs.Called.{Called, call, names_in, AreOf}
use Rattle.mp_shift.proofs.Named.{distinct_places}

free_by : (x y z : Bool) → (let k : Option NameKind = cond x (Some kind.Endogenous) (cond y (Some kind.Exogenous) (cond z (Some kind.Parameter) None)) in k ≡ None) → (x ≡ false) × (y ≡ false) × (z ≡ false)
free_by true y z e = absurd cc
free_by false true z e = absurd cc
free_by false false true e = absurd cc
free_by false false false e = (refl, refl, refl)

-- a name that has no kind is free
free : (ns : Names) (name : List ℕ) → kind_in ns name ≡ None → IsFree ns name
free ns name e =
    free_by (list_any (bytes_eq name) ns.endogenous) (list_any (bytes_eq name) ns.exogenous) (list_any (bytes_eq name) ns.parameters) e

all_free : (ns : Names) (names : List (List ℕ)) (xs : List a.Auxiliary) → AllByRecursion (λ (x : Called). kind_in ns x.name ≡ None) (map (call names) xs) → AllByRecursion (IsFree ns) (map (auxiliary_name names) xs)
all_free ns names [] h = tt
all_free ns names (x ∷ xs) h = (free ns (auxiliary_name names x) h.0, all_free ns names xs h.1)

all_short : (names : List (List ℕ)) (xs : List a.Auxiliary) → AllByRecursion (λ (x : Called). length x.name ≤ 128) (map (call names) xs) → AllByRecursion (λ (name : List ℕ). length name ≤ 128) (map (auxiliary_name names) xs)
all_short names [] h = tt
all_short names (x ∷ xs) h = (h.0, all_short names xs h.1)

pub free_names : (M : Model) (xs : List Called) → AreOf M xs → std.IsDistinct bytes_eq M.endogenous_names → HasFreeNames M
free_names M xs are distinct =
    record {
      distinct = distinct_places M.endogenous_names distinct;
      free = all_free (names_in M) M.endogenous_names (auxiliaries_of M) (subst (AllByRecursion (λ (x : Called). kind_in (names_in M) x.name ≡ None)) are.all are.free);
      short = all_short M.endogenous_names (auxiliaries_of M) (subst (AllByRecursion (λ (x : Called). length x.name ≤ 128)) are.all are.short);
    }
