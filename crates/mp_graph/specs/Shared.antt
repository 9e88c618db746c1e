-- What a graph says.
use Rattle.std.specs.Prelude.{◌≡◌, ◌≤◌, ◌<◌, ◌++◌, ◌⊎◌, ℕ, List, [], ◌∷◌, length, slice_index_or, refl}
use Rattle.std.specs.Coded.{Coded, code_by, coded×, coded_ℕ, coded_list}
use Rattle.mp_semantics.specs.Term.{Term, number, leaf}
use Rattle.mp_values.specs.Names.{Names}
use Rattle.mp_graph.specs.Code.{term_code}

-- the names, and the terms of the nodes in order
pub record Shared : Type 0 where
  pub names : Names
  pub terms : List Term

abbrev pub texts_code : Coded (List (List ℕ))
texts_code = coded_list (coded_list coded_ℕ)

abbrev pub names_code : Coded Names
names_code =
    code_by (List (List ℕ) × (List (List ℕ) × List (List ℕ))) (coded× texts_code (coded× texts_code texts_code)) (λ n. (n.endogenous, (n.exogenous, n.parameters))) (λ p. record { endogenous = p.0; exogenous = p.1.0; parameters = p.1.1 }) (λ _. refl)

abbrev pub shared_code : Coded Shared
shared_code =
    code_by (Names × List Term) (coded× names_code (coded_list term_code)) (λ g. (g.names, g.terms)) (λ p. record { names = p.0; terms = p.1 }) (λ _. refl)

-- the term of a number in a list of terms
abbrev pub term_at : List Term → ℕ → Term
term_at ts i = slice_index_or ts i (leaf (number 0 0))

-- this number has this term
pub record Says (g : Shared) (id : ℕ) (t : Term) : Type 0 where
  pub within : id < length g.terms
  pub term : term_at g.terms id ≡ t

-- the names stay, and every number keeps its term
pub record Keeps (old new : Shared) : Type 0 where
  pub names : new.names ≡ old.names
  pub longer : length old.terms ≤ length new.terms
  pub each : (i : ℕ) → i < length old.terms → term_at new.terms i ≡ term_at old.terms i

-- nothing is new, or this term alone, at this number
abbrev pub GrowsBy : Term → ℕ → List Term → List Term → Type 0
GrowsBy t id old new = (new ≡ old) ⊎ ((new ≡ old ++ t ∷ []) × (id ≡ length old))

-- no term stands at two numbers
abbrev pub IsEachOnce : List Term → Type 0
IsEachOnce ts = (i j : ℕ) → i < length ts → j < length ts → term_at ts i ≡ term_at ts j → i ≡ j
