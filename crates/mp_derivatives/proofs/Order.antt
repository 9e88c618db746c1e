-- The derivatives of a model stand in order, each once.
use Rattle.std.proofs.Common.{◌≡◌, ℕ, suc, ◌<◌, List, [], ◌∷◌, ◌++◌, map, sym, ap, ◌∙◌, refl, arith}
use Rattle.std.specs.Cmp.{nat_cmp_is}
use Rattle.std.specs.List.{AllByRecursion}
use Rattle.std.specs.List.Sorted.{IsStrictlySortedBy}
use Rattle.std.specs.Ordering.{ordering_then}
use Rattle.std.specs.declared.cmp.Ordering.TheVariants.{Less, Equal}
use Rattle.mp_semantics.specs.Term.{Term}
use Rattle.mp_semantics.specs.Model.{Equation}
use Rattle.mp_slopes.specs.Derivative.{derivative_of}
use Rattle.mp_slopes.specs.Places.{Place, place_cmp, places}
use Rattle.mp_derivatives.specs.Derivatives.{residual, Derivative, derivatives_from}
use Rattle.mp_derivatives.specs.Listed.{derivative_cmp}

-- the derivative of this residual by this place
abbrev pub derivative_at : ℕ → Term → Place → Derivative
derivative_at i F p = record { equation = i; place = p; term = derivative_of F p.x p.shift }

-- of an equation of a greater number
abbrev Beyond : ℕ → List Derivative → Type 0
Beyond i ds = AllByRecursion (λ (d : Derivative). i < d.equation) ds

equation-beyond : (i j : ℕ) (F : Term) (ps : List Place) (rest : List Derivative) → i < j → Beyond i rest → Beyond i (map (derivative_at j F) ps ++ rest)
equation-beyond i j F [] rest less above = above
equation-beyond i j F (p ∷ ps) rest less above = (less, equation-beyond i j F ps rest less above)

all-beyond : (i j : ℕ) (es : List Equation) → i < j → Beyond i (derivatives_from j es)
all-beyond i j [] less = tt
all-beyond i j (e ∷ es) less =
    equation-beyond i j (residual e) (places (residual e)) (derivatives_from (suc j) es) less (all-beyond i (suc j) es (omega arith))

-- before all of what stands beyond its equation
beyond-less : (d : Derivative) (ds : List Derivative) → Beyond d.equation ds → AllByRecursion (λ c. derivative_cmp d c ≡ Less) ds
beyond-less d [] above = tt
beyond-less d (c ∷ ds) above =
    (ap (λ o. ordering_then o (place_cmp d.place c.place)) (sym (nat_cmp_is d.equation c.equation Less above.0)), beyond-less d ds above.1)

-- those of one equation, and then others
equation-sorted : (i : ℕ) (F : Term) (ps : List Place) (rest : List Derivative) → IsStrictlySortedBy place_cmp ps → IsStrictlySortedBy derivative_cmp rest → Beyond i rest → IsStrictlySortedBy derivative_cmp (map (derivative_at i F) ps ++ rest)
unfolding IsStrictlySortedBy
equation-sorted i F [] rest rising sorted above = sorted
equation-sorted i F (p ∷ ps) rest rising sorted above =
    (later ps rising.0, equation-sorted i F ps rest rising.1 sorted above)
  where
    later : (qs : List Place) → AllByRecursion (λ q. place_cmp p q ≡ Less) qs → AllByRecursion (λ c. derivative_cmp (derivative_at i F p) c ≡ Less) (map (derivative_at i F) qs ++ rest)
    later [] h = beyond-less (derivative_at i F p) rest above
    later (q ∷ qs) h =
        (ap (λ o. ordering_then o (place_cmp p q)) (sym (nat_cmp_is i i Equal refl)) ∙ h.0, later qs h.1)

pub derivatives-sorted : ((t : Term) → IsStrictlySortedBy place_cmp (places t)) → (i : ℕ) (es : List Equation) → IsStrictlySortedBy derivative_cmp (derivatives_from i es)
unfolding IsStrictlySortedBy
derivatives-sorted rising i [] = tt
derivatives-sorted rising i (e ∷ es) =
    equation-sorted i (residual e) (places (residual e)) (derivatives_from (suc i) es) (rising (residual e)) (derivatives-sorted rising (suc i) es) (all-beyond i (suc i) es (omega arith))
