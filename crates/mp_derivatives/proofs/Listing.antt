-- What is written of the derivatives of a model that can be written, lists its derivatives.
use Rattle.std.proofs.Common.{◌≡◌, ◌↔◌, ℕ, ◌+◌, ℤ, Some, sym, ap, ◌∙◌, subst, arith}
use Rattle.std.specs.List.{Contains}
use Rattle.std.specs.List.Sorted.{IsStrictlySortedBy}
use Rattle.mp_semantics.specs.Term.{Term, Variable}
use Rattle.mp_semantics.specs.Value.{Environment, val}
use Rattle.mp_semantics.specs.Model.{Model, Equation}
use Rattle.mp_slopes.specs.Derivative.{derivative_of}
use Rattle.mp_slopes.specs.Dual.{Dual, dual}
use Rattle.mp_slopes.specs.Places.{Place, Occurs, place_cmp, places}
use Rattle.mp_values.specs.Names.{Names}
use Rattle.mp_canonical.specs.Printable.{model_names, IsPrintableEquation, IsPrintable}
use Rattle.mp_canonical.proofs.Writable.{IsWritable, writable}
use Rattle.mp_derivatives.specs.Derivatives.{residual, Derivative, derivatives, derivatives_text}
use Rattle.mp_derivatives.specs.Meant.{IsPrintableDerivative, MeansTerm, term_text}
use Rattle.mp_derivatives.specs.Listed.{HasDerivativeAt, OccursIn, IsDerivative, ListsDerivatives}
use Rattle.mp_derivatives.proofs.Order.{derivatives-sorted}
use Rattle.mp_derivatives.proofs.Printable.{writable_printable}
use Rattle.mp_derivatives.proofs.Origins.{ComesFrom, all-weaker, all-got, all-come, come-contained, all-have}
use Rattle.mp_derivatives.proofs.ReadRecords.{records_read}
use Rattle.mp_derivatives.proofs.Written.{derivative-can}

-- the laws of derivatives and places that this needs
pub record Slopes : Type 0 where
  pub slope : (e : Term) (v : Variable) (k : ℤ) (env : Environment) (t : ℤ) (x : Dual) → dual e v k env t ≡ Some x → val (derivative_of e v k) env t ≡ Some x.slope
  pub rising : (t : Term) → IsStrictlySortedBy place_cmp (places t)
  pub exact : (t : Term) (p : Place) → Contains (places t) p ↔ Occurs p t

module _ (text_means : (ns : Names) (t : Term) → IsPrintableDerivative ns t → MeansTerm ns (term_text ns t) t) (slopes : Slopes) (room : ℕ) (M : Model) (is : IsPrintable room M) where
  -- the residual of an equation that can be written can be written
  residual-can : (e : Equation) → IsPrintableEquation room (model_names M) e → IsWritable (Unit {0}) (model_names M) (residual e)
  residual-can e h =
      (writable (Unit {0}) (model_names M) e.left h.left_side.0, writable (Unit {0}) (model_names M) e.right h.right_side.0)

  each-means : (d : Derivative) → ComesFrom 0 M.equations d → IsDerivative M d
  each-means d from =
      let ns = model_names M in
      let F = residual from.e in
      let can = derivative-can ns F d.place.x d.place.shift (residual-can from.e (all-got (IsPrintableEquation room ns) M.equations from.n from.e is.equations from.got)) in
      record {
        e = from.e;
        numbered = (from.n, from.number ∙ plain from.n, from.got);
        reads = subst (λ t. MeansTerm ns (term_text ns t) t) (sym from.term) (text_means ns (derivative_of F d.place.x d.place.shift) (writable_printable ns (derivative_of F d.place.x d.place.shift) can));
        slope = λ env t x h. ap (λ f. val f env t) from.term ∙ slopes.slope F d.place.x d.place.shift env t x h;
      }
    where
      plain : (n : ℕ) → 0 + n + 1 ≡ n + 1
      plain n = omega arith

  places-occur : (i : ℕ) (p : Place) → HasDerivativeAt (derivatives M) i p → OccursIn M i p
  places-occur i p h =
      let from = come-contained 0 M.equations h.0 h.1 in
      let number : i ≡ from.n + 1 = omega (arith, from.number, h.2) in
      (from.e, (from.n, number, from.got), (slopes.exact (residual from.e) p).0 (subst (Contains (places (residual from.e))) h.3 from.place))

  places-have : (i : ℕ) (p : Place) → OccursIn M i p → HasDerivativeAt (derivatives M) i p
  places-have i p h =
      let n = h.1.0 in
      let number : 0 + n + 1 ≡ i = omega (arith, h.1.1) in
      subst (λ (j : ℕ). HasDerivativeAt (derivatives M) j p) number (all-have 0 n M.equations h.0 p h.1.2 ((slopes.exact (residual h.0) p).1 h.2))

  pub lists : ListsDerivatives M (derivatives_text M)
  lists = record {
    ds = derivatives M;
    read = records_read _;
    order = derivatives-sorted slopes.rising 1 M.equations;
    places = λ i p. (places-occur i p, places-have i p);
    each = all-weaker (ComesFrom 0 M.equations) (IsDerivative M) each-means (derivatives M) (all-come 0 M.equations);
  }
