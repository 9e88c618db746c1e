-- Auxiliaries with their names.
use Rattle.std.specs.Prelude.{◌≡◌, ◌≤◌, ℕ, zero, suc, List, None, ◌++◌, length, map, slice_range, refl}
use Rattle.std.specs.List.{AllByRecursion}
use Rattle.std.proofs.Common.{ap}
use Rattle.std.specs.Coded.{Coded, code_by, coded×, coded_ℕ, coded_list}
use Rattle.mp_semantics.specs.Model as m
use Rattle.mp_values.specs.Names.{Names}
use Rattle.mp_names.specs.Named.{kind_in}
use Rattle.mp_solutions.specs.Auxiliaries as a
use Rattle.mp_solutions.specs.Auxiliaries.{auxiliaries_of, auxiliary_name}
use Rattle.mp_solutions.specs.Laws.{IsDistinct}
use Rattle.mp_shift.specs.declared.parts.Direction.{Direction}
use Rattle.mp_shift.specs.declared.parts.Direction.TheVariants.{Lead, Lag}
use Rattle.mp_shift.specs.declared.parts.Auxiliary.{Auxiliary}
use Rattle.mp_shift.specs.declared.list.Entry.{Entry}
use Rattle.mp_shift.specs.declared.list.Called as lent

abbrev pub direction_of : Direction → a.Direction
direction_of Lead = a.lead
direction_of Lag = a.lag

abbrev pub auxiliary_of : Auxiliary → a.Auxiliary
auxiliary_of x = record { place = x.place; direction = direction_of x.direction; index = x.index }

-- an auxiliary with its name
pub record Called : Type 0 where
  pub auxiliary : a.Auxiliary
  pub name : List ℕ

abbrev pub called_of : lent.Called → Called
called_of x = record { auxiliary = auxiliary_of x.auxiliary; name = x.name.now }

-- its name stands in the text
abbrev pub called_in : List ℕ → Entry → Called
called_in text x = record { auxiliary = auxiliary_of x.auxiliary; name = slice_range text x.start x.end }

pub record IsInside (size : ℕ) (x : Entry) : Type 0 where
  pub order : x.start ≤ x.end
  pub end : x.end ≤ size

abbrev pub direction_number : a.Direction → ℕ
direction_number a.lead = 0
direction_number a.lag = 1

abbrev pub numbered_direction : ℕ → a.Direction
numbered_direction zero = a.lead
numbered_direction (suc n) = a.lag

pub numbered-direction : (d : a.Direction) → numbered_direction (direction_number d) ≡ d
numbered-direction a.lead = refl
numbered-direction a.lag = refl

abbrev pub called_code : Coded Called
called_code =
    code_by (ℕ × (ℕ × (ℕ × List ℕ))) (coded× coded_ℕ (coded× coded_ℕ (coded× coded_ℕ (coded_list coded_ℕ)))) (λ x. (x.auxiliary.place, (direction_number x.auxiliary.direction, (x.auxiliary.index, x.name)))) (λ p. record { auxiliary = record { place = p.0; direction = numbered_direction p.1.0; index = p.1.1.0 }; name = p.1.1.1 }) (λ x. ap (λ d. record { auxiliary = record { place = x.auxiliary.place; direction = d; index = x.auxiliary.index }; name = x.name }) (numbered-direction x.auxiliary.direction))

-- the auxiliary with the name that it has where these are the variables
abbrev pub call : List (List ℕ) → a.Auxiliary → Called
call names x = record { auxiliary = x; name = auxiliary_name names x }

-- the auxiliaries of the model with their names, in order
abbrev pub called : m.Model → List Called
called M = map (call M.endogenous_names) (auxiliaries_of M)

-- the names of a model
abbrev pub names_in : m.Model → Names
names_in M = record {
  endogenous = M.endogenous_names;
  exogenous = M.exogenous_names;
  parameters = map (λ (p : m.Parameter). p.name) M.parameters;
}

-- they are those of the model, each with a name that the model does not have and that is short enough
pub record AreOf (M : m.Model) (xs : List Called) : Type 0 where
  pub all : xs ≡ called M
  pub free : AllByRecursion (λ (x : Called). kind_in (names_in M) x.name ≡ None) xs
  pub short : AllByRecursion (λ (x : Called). length x.name ≤ 128) xs

-- no name is there under any kind, and none stands at two places
pub record AreNew (ns : Names) (xs : List Called) : Type 0 where
  pub free : AllByRecursion (λ (x : Called). kind_in ns x.name ≡ None) xs
  pub distinct : IsDistinct (map (λ (x : Called). x.name) xs)

-- the names with these too
abbrev pub with_names : List Called → Names → Names
with_names xs ns = record ns { endogenous = ns.endogenous ++ map (λ (x : Called). x.name) xs }
