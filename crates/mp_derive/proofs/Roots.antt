-- Nodes of a graph that grows.
use Rattle.std.proofs.Common.{◌≡◌, ℕ, ◌<◌, List, [], ◌∷◌, ◌++◌, map, length, append_assoc, refl, ap, sym, ◌∙◌, subst, arith}
use Rattle.std.specs.List.{AllByRecursion}
use Rattle.std.proofs.lemmas.List.{map-append}
use Rattle.mp_semantics.specs.Term.{Term, binary, minus}
use Rattle.mp_graph.specs.Shared.{Shared, Keeps, Says, term_at}
use Rattle.mp_model_data.specs.Shown.{Sides, IsWithin, equation_in}
use Rattle.mp_derivatives.specs.Derivatives.{residual}

abbrev pub Within : Shared → List ℕ → Type 0
Within g rs = AllByRecursion (λ (r : ℕ). r < length g.terms) rs

still_within : (old new : Shared) (rs : List ℕ) → Keeps old new → Within old rs → Within new rs
still_within old new [] k w = tt
still_within old new (r ∷ rs) k w = (omega (arith, w.0, k.longer), still_within old new rs k w.1)

still_terms : (old new : Shared) (rs : List ℕ) → Keeps old new → Within old rs → map (term_at new.terms) rs ≡ map (term_at old.terms) rs
still_terms old new [] k w = refl
still_terms old new (r ∷ rs) k w =
    ap (λ t. t ∷ map (term_at new.terms) rs) (k.each r w.0) ∙ ap (λ ts. term_at old.terms r ∷ ts) (still_terms old new rs k w.1)

within_push : (g : Shared) (rs : List ℕ) (r : ℕ) → Within g rs → r < length g.terms → Within g (rs ++ r ∷ [])
within_push g [] r w l = (l, tt)
within_push g (x ∷ rs) r w l = (w.0, within_push g rs r w.1 l)

pub still_sides : (old new : Shared) (x : Sides) → Keeps old new → IsWithin old x → IsWithin new x
still_sides old new x k w = record { left = omega (arith, w.left, k.longer); right = omega (arith, w.right, k.longer) }

-- the residual of an equation whose sides keep their terms
pub residual_kept : (old new : Shared) (x : Sides) → Keeps old new → IsWithin old x → residual (equation_in new.terms x) ≡ residual (equation_in old.terms x)
residual_kept old new x k w = ap (λ (t : Term). binary minus t (term_at new.terms x.right)) (k.each x.left w.left) ∙ ap (λ (t : Term). binary minus (term_at old.terms x.left) t) (k.each x.right w.right)

module _ (old new : Shared) (k : Keeps old new) (rs more : List ℕ) (r : ℕ) (w : Within old rs) (is : more ≡ rs ++ r ∷ []) where
  pub within_more : r < length new.terms → Within new more
  within_more l = subst (Within new) (sym is) (within_push new rs r (still_within old new rs k w) l)

  -- one more node, whose term stood first among those to come
  pub terms_turn : (t : Term) (next rest whole : List Term) → Says new r t → next ≡ t ∷ rest → map (term_at old.terms) rs ++ next ≡ whole → map (term_at new.terms) more ++ rest ≡ whole
  terms_turn t next rest whole says q so_far =
      ap (λ l. map (term_at new.terms) l ++ rest) is
      ∙ ap (λ l. l ++ rest) (map-append (term_at new.terms) rs (r ∷ []) ∙ ap (λ l. l ++ term_at new.terms r ∷ []) (still_terms old new rs k w) ∙ ap (λ u. map (term_at old.terms) rs ++ u ∷ []) says.term)
      ∙ append_assoc (map (term_at old.terms) rs) (t ∷ []) rest
      ∙ ap (λ l. map (term_at old.terms) rs ++ l) (sym q)
      ∙ so_far
