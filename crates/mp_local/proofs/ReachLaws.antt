-- What comes from the names that are read, together and by the shape of an expression.
use Rattle.std.proofs.Common.{◌≡◌, inl, inr, ℕ, zero, suc, ℤ, nat_le, Bool, true, false, cond, List, [], ◌∷◌, ◌++◌, Option, Some, None, option_map, Result, Ok, Err, refl, sym, ap, subst, ◌∙◌, append-nil, append_assoc, arith}
use Rattle.std.specs.List.{flat_map}
use Rattle.std.proofs.lemmas.Bool.Decides.{nat_tests}
use Rattle.std.proofs.lemmas.Grind.{flat_map-append}
use Rattle.mp_syntax.specs.declared.operator.Sign.{Sign}
use Rattle.mp_syntax.specs.declared.operator.Function.{Function}
use Rattle.mp_syntax.specs.Syntax.{Expr, Number, Variable, Signed, Binary, Power, Paren, Call, Diff, Further, with_further, Named, Shift}
use Rattle.mp_statements.specs.Sides.{right_side, sides}
use Rattle.mp_file.specs.declared.Expression.{Expression}
use Rattle.mp_file.specs.declared.Equation.{Equation}
use Rattle.mp_file.specs.Shown.{expr_of, equation_of}
use Rattle.mp_values.specs.Shifts as v
use Rattle.mp_values.specs.Shifts.{Shifts, Reading, readings, shifts_from, greatest_shift, first_far, differenced}
use Rattle.mp_local.specs.declared.ends.Ends.{Ends}
use Rattle.mp_local.specs.declared.far.FarName.{FarName}
use Rattle.mp_local.specs.Ends.{Spans, Tells, Leads}
use Rattle.mp_local.specs.Reaches.{far_of, stopped_far, Reaches}

-- ---- the first far name

pub first_far-none : (limit : ℕ) (s : Shifts) (rs qs : List Reading) → first_far limit s rs ≡ None → first_far limit s (rs ++ qs) ≡ first_far limit s qs
first_far-none limit s [] qs none = refl
first_far-none limit s (r ∷ rs) qs none = by (nat_le (greatest_shift (shifts_from s r)) limit) (first_far-none limit s rs qs) none
  where
    by : (b : Bool) → (first_far limit s rs ≡ None → first_far limit s (rs ++ qs) ≡ first_far limit s qs) → cond b (first_far limit s rs) (Some (record { name = r.name; greatest = greatest_shift (shifts_from s r) })) ≡ None → cond b (first_far limit s (rs ++ qs)) (Some (record { name = r.name; greatest = greatest_shift (shifts_from s r) })) ≡ first_far limit s qs
    by true further h = further h
    by false further h = absurd cc

pub first_far-some : (limit : ℕ) (s : Shifts) (x : v.FarName) (rs qs : List Reading) → first_far limit s rs ≡ Some x → first_far limit s (rs ++ qs) ≡ Some x
first_far-some limit s x [] qs some = absurd cc
first_far-some limit s x (r ∷ rs) qs some = by (nat_le (greatest_shift (shifts_from s r)) limit) (first_far-some limit s x rs qs) some
  where
    by : (b : Bool) → (first_far limit s rs ≡ Some x → first_far limit s (rs ++ qs) ≡ Some x) → cond b (first_far limit s rs) (Some (record { name = r.name; greatest = greatest_shift (shifts_from s r) })) ≡ Some x → cond b (first_far limit s (rs ++ qs)) (Some (record { name = r.name; greatest = greatest_shift (shifts_from s r) })) ≡ Some x
    by true further h = further h
    by false further h = h

-- ---- one name

pub reaches_near : (limit : ℕ) (s : Shifts) (r : Reading) (e : Ends) → Leads limit (Ok e) (shifts_from s r) → Reaches limit s (r ∷ []) (Ok (Some e))
reaches_near limit s r e h =
    let low : nat_le (greatest_shift (shifts_from s r)) limit ≡ true = grind (arith, nat_tests, h.0) in
    (ap (λ (b : Bool). cond b None (Some (record { name = r.name; greatest = greatest_shift (shifts_from s r) }))) low, rw append-nil h.1)

pub reaches_far : (limit : ℕ) (s : Shifts) (r : Reading) (far : FarName) → (far_of far).name ≡ r.name → Leads limit (Err far.greatest) (shifts_from s r) → Reaches limit s (r ∷ []) (Err far)
reaches_far limit s r far named h =
    let high : nat_le (greatest_shift (shifts_from s r)) limit ≡ false = grind (arith, nat_tests, h.0) in
    ap (λ (b : Bool). option_map stopped_far (cond b None (Some (record { name = r.name; greatest = greatest_shift (shifts_from s r) })))) high
    ∙ (λ i. Some (record { name = sym named i; greatest = sym h.1 i }))

-- no shift is far
differenced_nothing : (d : ℕ) → differenced d [] ≡ []
differenced_nothing zero = refl
differenced_nothing (suc d) = differenced_nothing d

pub reaches_nothing : (limit : ℕ) (s : Shifts) (r : Reading) (own : List ℤ) → shifts_from s r ≡ differenced r.depth own → Tells None own → Reaches limit s (r ∷ []) (Ok None)
reaches_nothing limit s r own is (inr beyond) = absurd beyond
reaches_nothing limit s r own is (inl none) =
    let empty : shifts_from s r ≡ [] = is ∙ ap (differenced r.depth) none ∙ differenced_nothing r.depth in
    let low : nat_le (greatest_shift (shifts_from s r)) limit ≡ true =
    ap (λ (ks : List ℤ). nat_le (greatest_shift ks) limit) empty ∙ grind (arith, nat_tests) in
    (ap (λ (b : Bool). cond b None (Some (record { name = r.name; greatest = greatest_shift (shifts_from s r) }))) low, append-nil (shifts_from s r) ∙ empty)

-- ---- the names of two lists

pub reaches_both : (limit : ℕ) (s : Shifts) (rs qs : List Reading) (a b r : Option Ends) → ((ks js : List ℤ) → Spans a ks → Spans b js → Spans r (ks ++ js)) → Reaches limit s rs (Ok a) → Reaches limit s qs (Ok b) → Reaches limit s (rs ++ qs) (Ok r)
reaches_both limit s rs qs a b r joins x y =
    (first_far-none limit s rs qs x.0 ∙ y.0, rw (flat_map-append (shifts_from s) rs qs) (joins (flat_map (shifts_from s) rs) (flat_map (shifts_from s) qs) x.1 y.1))

pub reaches_second : (limit : ℕ) (s : Shifts) (rs qs : List Reading) (a : Option Ends) (far : FarName) → Reaches limit s rs (Ok a) → Reaches limit s qs (Err far) → Reaches limit s (rs ++ qs) (Err far)
reaches_second limit s rs qs a far x y = ap (option_map stopped_far) (first_far-none limit s rs qs x.0) ∙ y

pub reaches_first : (limit : ℕ) (s : Shifts) (rs qs : List Reading) (far : FarName) → Reaches limit s rs (Err far) → Reaches limit s (rs ++ qs) (Err far)
reaches_first limit s rs qs far x = by (first_far limit s rs) refl x
  where
    by : (found : Option v.FarName) → first_far limit s rs ≡ found → option_map stopped_far found ≡ Some (far_of far) → option_map stopped_far (first_far limit s (rs ++ qs)) ≡ Some (far_of far)
    by None is h = absurd cc
    by (Some y) is h = ap (option_map stopped_far) (first_far-some limit s y rs qs is) ∙ h

-- ---- by the shape of an expression

pub readings_signed : (d : ℕ) (sign : Sign) (e : Expr) → readings d (Signed sign e) ≡ readings d e
unfolding readings
readings_signed d sign e = refl

pub readings_paren : (d : ℕ) (e : Expr) → readings d (Paren e) ≡ readings d e
unfolding readings
readings_paren d e = refl

pub readings_power : (d : ℕ) (e : Expr) (at : ℕ) (sign : Option Sign) (f : Expr) → readings d (Power e at sign f) ≡ readings d e
unfolding readings
readings_power d e at sign f = refl

pub readings_call : (d : ℕ) (function : Function) (e f : Expr) → readings d (Call function e f) ≡ readings d e ++ readings d f
unfolding readings
readings_call d function e f = refl

pub readings_diff : (d : ℕ) (at : ℕ) (e : Expr) → readings d (Diff at e) ≡ readings (suc d) e
unfolding readings
readings_diff d at e = refl

pub readings_chain : (d : ℕ) (e : Expr) (more : List Further) → readings d (with_further e more) ≡ readings d e ++ flat_map (λ x. readings d x.operand) more
unfolding readings
readings_chain d e [] = sym (append-nil (readings d e))
readings_chain d e (x ∷ more) =
    readings_chain d (Binary x.op e x.at x.operand) more ∙ append_assoc (readings d e) (readings d x.operand) (flat_map (λ y. readings d y.operand) more)

pub readings_number : (d : ℕ) (literal : List ℕ) (at : ℕ) → readings d (Number literal at) ≡ []
unfolding readings
readings_number d literal at = refl

pub readings_variable : (d : ℕ) (name : Named) (shift : Option Shift) → readings d (Variable name shift) ≡ record { name = name; shift = shift; depth = d } ∷ []
unfolding readings
readings_variable d name shift = refl

-- the same names under another expression
pub same_reach : (limit : ℕ) (s : Shifts) (rs qs : List Reading) (r : Result (Option Ends) FarName) → rs ≡ qs → Reaches limit s qs r → Reaches limit s rs r
same_reach limit s rs qs r is h = subst (λ (l : List Reading). Reaches limit s l r) (sym is) h

-- ---- both sides of an equation

pub sides_none : (x : Equation) → x.right ≡ None → flat_map (readings 0) (sides (equation_of x)) ≡ readings 0 (expr_of x.left)
unfolding readings
sides_none x none =
    ap (λ right. readings 0 (expr_of x.left) ++ (readings 0 (right_side (option_map expr_of right)) ++ [])) none ∙ append-nil (readings 0 (expr_of x.left))

pub sides_some : (x : Equation) (right : Expression) → x.right ≡ Some right → flat_map (readings 0) (sides (equation_of x)) ≡ readings 0 (expr_of x.left) ++ readings 0 (expr_of right)
sides_some x right some =
    ap (λ r. readings 0 (expr_of x.left) ++ (readings 0 (right_side (option_map expr_of r)) ++ [])) some
    ∙ ap (λ l. readings 0 (expr_of x.left) ++ l) (append-nil (readings 0 (expr_of right)))
