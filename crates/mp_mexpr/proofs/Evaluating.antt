-- The value of a chain or an array, step by step.
use Rattle.std.proofs.Common.{◌≡◌, ℕ, ◌+◌, ◌<◌, ◌≤◌, List, [], ◌∷◌, drop, get_or, length, Option, Some, None, Ok, Err, refl, sym, ap, ◌∙◌, arith}
use Rattle.std.proofs.lemmas.List.{drop_more}
use Rattle.std.proofs.lemmas.Grind.{common_steps}
use Rattle.mp_base.specs.Answers.{Refuses}
use Rattle.mp_base.specs.declared.kinds.MacroKind.{MacroKind}
use Rattle.mp_mvalue.specs.declared.value.Value.{Value}
use Rattle.mp_mvalue.specs.Environments.{Names}
use Rattle.mp_mvalue.specs.Made.{Valued, made}
use Rattle.mp_mexpr.specs.declared.operator.Operator.TheVariants as o
use Rattle.mp_mexpr.specs.declared.expression.Expr.{Expr}
use Rattle.mp_mexpr.specs.declared.expression.Step.{Step}
use Rattle.mp_mexpr.specs.declared.expression.Step.TheVariants.{Apply, Index}
use Rattle.mp_mexpr.specs.Meaning.{with_element, array_value}
use Rattle.mp_mexpr.specs.Shown.{expr_of, stepped, after, all_stepped}
use Rattle.mp_mexpr.specs.Steps.{step_value, steps_value, values_after}
use Rattle.mp_mexpr.specs.Syntax as s
use Rattle.mp_mexpr.specs.Syntax.{value_of, values_of}

step-is : (names : Names) (e : s.Expr) (x : Step) → value_of names (stepped e x) ≡ step_value names (value_of names e) x
step-is names e (Apply operator right) = refl
step-is names e (Index place) = refl

pub steps-are : (names : Names) (e : s.Expr) (xs : List Step) → value_of names (all_stepped e xs) ≡ steps_value names (value_of names e) xs
steps-are names e [] = refl
steps-are names e (x ∷ xs) = steps-are names (stepped e x) xs ∙ ap (λ v. steps_value names v xs) (step-is names e x)

pub values-are : (names : Names) (front : s.Exprs) (xs : List Expr) → values_of names (after front xs) ≡ values_after names (values_of names front) xs
values-are names front [] = refl
values-are names front (x ∷ xs) = values-are names (s.With front (expr_of x)) xs

step-fails : (names : Names) (kind : MacroKind) (x : Step) → step_value names (Err kind) x ≡ Err kind
step-fails names kind (Apply o.Or right) = refl
step-fails names kind (Apply o.And right) = refl
step-fails names kind (Apply o.Equal right) = refl
step-fails names kind (Apply o.Different right) = refl
step-fails names kind (Apply o.Less right) = refl
step-fails names kind (Apply o.Greater right) = refl
step-fails names kind (Apply o.AtMost right) = refl
step-fails names kind (Apply o.AtLeast right) = refl
step-fails names kind (Apply o.In right) = refl
step-fails names kind (Apply o.Range right) = refl
step-fails names kind (Apply o.Add right) = refl
step-fails names kind (Apply o.Subtract right) = refl
step-fails names kind (Apply o.Multiply right) = refl
step-fails names kind (Index place) = refl

pub steps-fail : (names : Names) (kind : MacroKind) (xs : List Step) → steps_value names (Err kind) xs ≡ Err kind
steps-fail names kind [] = refl
steps-fail names kind (x ∷ xs) = ap (λ v. steps_value names v xs) (step-fails names kind x) ∙ steps-fail names kind xs

pub values-fail : (names : Names) (kind : MacroKind) (xs : List Expr) → values_after names (Err kind) xs ≡ Err kind
values-fail names kind [] = refl
values-fail names kind (x ∷ xs) = values-fail names kind xs

-- a step or an element that has no value ends what follows it
pub steps-stop : (names : Names) (first found : Valued) (steps : List Step) (i : ℕ) (x : Step) (t : Option MacroKind) → i < length steps → x ≡ get_or steps i x → steps_value names found (drop i steps) ≡ steps_value names first steps → Refuses t (step_value names found x) → Refuses t (steps_value names first steps)
steps-stop names first found steps i x (Some kind) lt is told g =
    sym told ∙ ap (steps_value names found) (drop_more steps i x lt ∙ ap (λ y. y ∷ drop (i + 1) steps) (sym is))
    ∙ ap (λ v. steps_value names v (drop (i + 1) steps)) g
    ∙ steps-fail names kind (drop (i + 1) steps)
steps-stop names first found steps i x None lt is told g = tt

pub elements-stop : (names : Names) (xs : List Value) (elements : List Expr) (i : ℕ) (x : Expr) (t : Option MacroKind) → i < length elements → x ≡ get_or elements i x → values_after names (Ok xs) (drop i elements) ≡ values_after names (Ok []) elements → Refuses t (value_of names (expr_of x)) → Refuses t (array_value (values_of names (after s.Empty elements)))
elements-stop names xs elements i x (Some kind) lt is told g =
    ap array_value (values-are names s.Empty elements ∙ sym told ∙ ap (values_after names (Ok xs)) (drop_more elements i x lt ∙ ap (λ y. y ∷ drop (i + 1) elements) (sym is)) ∙ ap (λ v. values_after names (with_element (Ok xs) v) (drop (i + 1) elements)) g ∙ values-fail names kind (drop (i + 1) elements))
elements-stop names xs elements i x None lt is told g = tt

none-left : (n : ℕ) (xs : List Expr) → length xs ≤ n → drop n xs ≡ []
none-left n xs le = grind (arith, common_steps)

pub elements-end : (names : Names) (xs : List Value) (elements : List Expr) (i : ℕ) → length elements ≤ i → values_after names (Ok xs) (drop i elements) ≡ values_after names (Ok []) elements → made xs ≡ array_value (values_of names (after s.Empty elements))
elements-end names xs elements i le told =
    ap array_value (sym (ap (values_after names (Ok xs)) (none-left i elements le)) ∙ told ∙ sym (values-are names s.Empty elements))

pub first-stops : (names : Names) (first : s.Expr) (steps : List Step) (t : Option MacroKind) → Refuses t (value_of names first) → Refuses t (value_of names (all_stepped first steps))
first-stops names first steps (Some kind) g =
    steps-are names first steps ∙ ap (λ v. steps_value names v steps) g ∙ steps-fail names kind steps
first-stops names first steps None g = tt
