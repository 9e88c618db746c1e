-- The places that the nodes of a graph stand for.
use Rattle.std.specs.Prelude.{◌≡◌, ◌==◌, ℕ, ℤ, List, [], ◌∷◌, if◌then◌else◌, refl}
use Rattle.std.specs.Coded.{Coded, code_by, coded×, coded_ℕ, coded_ℤ, coded_list}
use Rattle.mp_semantics.specs.Term.{Variable, endogenous, exogenous, Term, leaf, negative, binary, power_of, pick}
use Rattle.mp_graph.specs.Shared.{term_at}
use Rattle.mp_slopes.specs.Places.{Place, leaf_place}
use Rattle.mp_diff.specs.declared.places.Place as code

-- ---- how places are told apart

abbrev pub Word : Type 0
Word = ℕ × (ℕ × ℤ)

abbrev pub word_of : Variable → ℤ → Word
word_of (endogenous n) k = (0, (n, k))
word_of (exogenous n) k = (1, (n, k))

abbrev pub place_of_word : Word → Place
place_of_word w = record { x = if w.0 == 0 then endogenous w.1.0 else exogenous w.1.0; shift = w.1.1 }

pub place_of_word-word : (x : Variable) (k : ℤ) → place_of_word (word_of x k) ≡ record { x = x; shift = k }
place_of_word-word (endogenous n) k = refl
place_of_word-word (exogenous n) k = refl

abbrev pub places_code : Coded (List Place)
places_code =
    coded_list (code_by Word (coded× coded_ℕ (coded× coded_ℕ coded_ℤ)) (λ p. word_of p.x p.shift) place_of_word (λ p. place_of_word-word p.x p.shift))

-- ---- places and nodes

-- the place that the code writes so
abbrev pub place_shown : code.Place → Place
place_shown p = record { x = if p.exogenous then exogenous p.number else endogenous p.number; shift = p.shift }

-- one more place, where the expression is one
abbrev pub with_place : Term → List Place → List Place
with_place (leaf l) ps = leaf_place l ps
with_place (negative a) ps = ps
with_place (binary op a b) ps = ps
with_place (power_of a k) ps = ps
with_place (pick a b c d) ps = ps

-- these places, and those that the nodes of these numbers are
abbrev pub with_nodes : List Term → List Place → List ℕ → List Place
with_nodes ts ps [] = ps
with_nodes ts ps (id ∷ ids) = with_nodes ts (with_place (term_at ts id) ps) ids
