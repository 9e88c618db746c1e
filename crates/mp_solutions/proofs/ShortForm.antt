-- The transformed model is its source with long leads and lags replaced.
use Rattle.std.proofs.Common.{◌≡◌, ℕ, map, slice_get, option_map, Some, refl, sym, ap, ◌∙◌, subst}
use Rattle.std.proofs.lemmas.Option.{same_Some, slice_get-map}
use Rattle.mp_semantics.specs.Model.{Model, Equation}
use Rattle.mp_solutions.specs.Auxiliaries.{auxiliaries_of, stand_in_of}
use Rattle.mp_solutions.specs.Transformed.{short_equation, auxiliary_equation, transformed}
use Rattle.mp_solutions.specs.Laws.{IsClosed, IsSameAt}
use Rattle.mp_solutions.specs.ShortForm.{IsWorth, HaveSides, IsShortForm}
use Rattle.mp_solutions.proofs.Lists.{each_get, get_left}
use Rattle.mp_solutions.proofs.Shape.{equations_count, keeps_tags, short_shifts, unchanged}
use Rattle.mp_solutions.proofs.Which.{needed, in_order}
use Rattle.mp_solutions.proofs.Solutions.{has_same_solutions, has_same_sides}
use Rattle.mp_solutions.proofs.Edges.{reads_own_part}

-- the equation of the transformed model at a place where the source has one
equation_there : (M : Model) (i : ℕ) (e f : Equation) → slice_get M.equations i ≡ Some e → slice_get (transformed M).equations i ≡ Some f → short_equation (stand_in_of M) e ≡ f
equation_there M i e f there shifted =
    let one : slice_get (map (short_equation (stand_in_of M)) M.equations) i ≡ Some (short_equation (stand_in_of M) e) =
    slice_get-map (short_equation (stand_in_of M)) M.equations i ∙ ap (option_map (short_equation (stand_in_of M))) there in
    same_Some _ _ (sym (get_left (map (short_equation (stand_in_of M)) M.equations) (map (auxiliary_equation (stand_in_of M)) (auxiliaries_of M)) i _ one) ∙ shifted)

have_sides : (M : Model) → IsClosed M → HaveSides M (transformed M)
have_sides M closed T b q has t low high i e f there shifted =
    let each = each_get (λ (e : Equation). IsSameAt M T b q t e.left × IsSameAt M T b q t e.right) M.equations i e (has_same_sides M closed T b q has t low high) there in
    let is = equation_there M i e f there shifted in
    subst (λ (f : Equation). IsWorth M (transformed M) T b q t f.left e.left × IsWorth M (transformed M) T b q t f.right e.right) is each

pub short_form : (M : Model) → IsClosed M → IsShortForm M (transformed M)
short_form M closed = record {
  auxiliaries = record { needed = needed M; order = in_order M };
  names = refl;
  exogenous_names = refl;
  parameters = refl;
  constraints = refl;
  equations = equations_count M;
  tags = record { kept = (keeps_tags M).0; none = (keeps_tags M).1 };
  short = short_shifts M;
  unchanged = unchanged M;
  solutions = λ T R b q. has_same_solutions M closed T R b q;
  own_part = reads_own_part M;
  sides = have_sides M closed;
}
