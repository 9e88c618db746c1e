-- What the text of a transformed model keeps.
use Rattle.std.proofs.Common.{◌≡◌, ◌↔◌, ℕ, ◌+◌, List, map, length, slice_get, option_map, Some, refl, sym, ap, ◌∙◌, subst}
use Rattle.std.specs.List.{Contains}
use Rattle.std.proofs.lemmas.Option.{same_Some, slice_get-map}
use Rattle.mp_statements.specs.Statements.{Statement}
use Rattle.mp_semantics.specs.Model.{Model, Equation}
use Rattle.mp_solutions.specs.Leaves.{AllModelLeaves}
use Rattle.mp_solutions.specs.Auxiliaries.{Auxiliary, auxiliaries_of, stand_in_of, IsNeeded}
use Rattle.mp_solutions.specs.Transformed.{short_equation, auxiliary_equation, transformed}
use Rattle.mp_solutions.specs.Laws.{KeepsTags, IsShort, IsInOrder, IsSameAt, ReadsOwnPart, HasSameSolutions, HasSameSides}
use Rattle.mp_solutions.proofs.Lists.{each_get, get_left}
use Rattle.mp_values.specs.ModelOf.{model_of}
use Rattle.mp_canonical.specs.Means.{MeansModel}
use Rattle.mp_model.specs.Headline.{IsWorth, HaveSides, KeepsSolutions}

-- the laws of transformed models that this needs
pub record Transforms : Type 0 where
  pub needed : (M : Model) (a : Auxiliary) → Contains (auxiliaries_of M) a ↔ IsNeeded M a
  pub order : (M : Model) → IsInOrder (auxiliaries_of M)
  pub equations : (M : Model) → length (transformed M).equations ≡ length M.equations + length (auxiliaries_of M)
  pub tags : (M : Model) → KeepsTags M
  pub short : (M : Model) → AllModelLeaves IsShort (transformed M)
  pub own_part : (M : Model) → ReadsOwnPart M
  pub unchanged : (M : Model) → AllModelLeaves IsShort M → transformed M ≡ M

-- the equation of the transformed model at a place where the source has one
equation_there : (M : Model) (i : ℕ) (e f : Equation) → slice_get M.equations i ≡ Some e → slice_get (transformed M).equations i ≡ Some f → short_equation (stand_in_of M) e ≡ f
equation_there M i e f there printed =
    let one : slice_get (map (short_equation (stand_in_of M)) M.equations) i ≡ Some (short_equation (stand_in_of M) e) =
    slice_get-map (short_equation (stand_in_of M)) M.equations i ∙ ap (option_map (short_equation (stand_in_of M))) there in
    same_Some _ _ (sym (get_left (map (short_equation (stand_in_of M)) M.equations) (map (auxiliary_equation (stand_in_of M)) (auxiliaries_of M)) i _ one) ∙ printed)

have_sides : (M : Model) → HasSameSides M → HaveSides M (transformed M)
have_sides M same T b q has t low high i e f there printed =
    let each = each_get (λ (e : Equation). IsSameAt M T b q t e.left × IsSameAt M T b q t e.right) M.equations i e (same T b q has t low high) there in
    let is = equation_there M i e f there printed in
    subst (λ (f : Equation). IsWorth M T b q t f.left e.left × IsWorth M T b q t f.right e.right) is each

pub keeps : Transforms → (file : List Statement) (text : List ℕ) (M : Model) → model_of file ≡ Some M → MeansModel text (transformed M) → HasSameSolutions M → HasSameSides M → KeepsSolutions file text
keeps its file text M means t solutions sides = record {
  source = M;
  means = means;
  again_tokens = t.ts;
  again = t.file;
  lexed = t.lexed;
  reads = t.reads;
  only = t.only;
  printed = transformed M;
  means_again = t.means;
  is_transformed = refl;
  auxiliaries = record { needed = its.needed M; order = its.order M };
  names = refl;
  exogenous_names = refl;
  parameters = refl;
  constraints = refl;
  equations = its.equations M;
  tags = record { kept = (its.tags M).0; none = (its.tags M).1 };
  short = its.short M;
  unchanged = its.unchanged M;
  solutions = λ T some R long b q. solutions T R b q;
  own_part = its.own_part M;
  sides = have_sides M sides;
}
