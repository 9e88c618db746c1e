-- The expressions that a file means within the limits of numbers have derivatives, and so have those of the transformed model.
use Rattle.std.proofs.Common.{◌≡◌, ℕ, ℤ, pos, negsuc, ◌≤ℤ◌, List, [], ◌∷◌, ◌++◌, map, Bool, true, false, cond, nat_le, bytes_eq, Option, Some, None, option_map, Ok, Err, refl, subst, arith}
use Rattle.std.specs.Int.RustNames.{unsigned_abs}
use Rattle.std.specs.List.{AllByRecursion}
use Rattle.std.specs.Option.{option_or}
use Rattle.std.proofs.lemmas.Bool.Decides.{nat_tests}
use Rattle.mp_base.specs.declared.kinds.DataKind.TheVariants as d
use Rattle.mp_rational.specs.Fraction.{Fraction, whole}
use Rattle.mp_tokens.specs.Literals.{decimal_of}
use Rattle.mp_syntax.specs.declared.operator.Sign.{Sign}
use Rattle.mp_syntax.specs.declared.operator.Sign.TheVariants as sign
use Rattle.mp_syntax.specs.Syntax.{Expr, Number, Variable, Signed, Binary, Power, Paren, Call, Diff, Pick}
use Rattle.mp_statements.specs.Statements.{Equation, Item, Local, Equates, Statement}
use Rattle.mp_statements.specs.Parts.{items_of, name_of}
use Rattle.mp_semantics.specs.Term as term
use Rattle.mp_semantics.specs.Term.{endogenous, exogenous, Leaf, number, parameter, variable, Term, leaf, negative, binary, power_of, pick}
use Rattle.mp_semantics.specs.Model as m
use Rattle.mp_semantics.specs.Shifted.{with_leaves, earlier_leaf, difference}
use Rattle.mp_solutions.specs.Auxiliaries.{Auxiliary, StandIns, auxiliaries_of, stand_in_of}
use Rattle.mp_solutions.specs.Transformed.{short_leaf, short_equation, auxiliary_equation, transformed}
use Rattle.mp_slopes.specs.Derivative.{HasDerivative}
use Rattle.mp_values.specs.Table.{Table}
use Rattle.mp_values.specs.Names.{Names, names_of, place_of, named_term, shift_of}
use Rattle.mp_values.specs.Limits.{Refused, Folded, ◌>>=◌, known, binary_of, limited, near_exponent, whole_of}
use Rattle.mp_values.specs.Values.{value_by, with_sign_if, exponent_at, values_by}
use Rattle.mp_values.specs.ModelOf.{number_by, signed_term, binary_called, Locals, local_in, meaning_of, term_by, right_by, equation_named, equation_by, items_by, equations_by, parameters_given, model_with, model_given}
use Rattle.mp_canonical.proofs.Results.{ok_is, some_is, before, known_is}
use Rattle.mp_derivatives.specs.Derived.{SidesHaveDerivatives, HaveDerivatives}

-- an exponent within the limits
near : (k : ℤ) → nat_le (unsigned_abs k) 16 ≡ true → (negsuc 15 ≤ℤ k) × (k ≤ℤ pos 16)
near (pos n) h = (omega arith, grind (arith, nat_tests, h))
near (negsuc n) h = (grind (arith, nat_tests, h), omega arith)

exponent_near : (at : ℕ) (x : Fraction) (u : Option ℤ) (k : ℤ) → near_exponent at x u ≡ Ok k → (negsuc 15 ≤ℤ k) × (k ≤ℤ pos 16)
exponent_near at x None k e = absurd cc
exponent_near at x (Some j) k e = by (nat_le (unsigned_abs j) 16) refl e
  where
    by : (b : Bool) → nat_le (unsigned_abs j) 16 ≡ b → (let r : Folded ℤ = cond b (Ok j) (Err (Refused d.Exponent at x (whole (pos 16)))) in r ≡ Ok k) → (negsuc 15 ≤ℤ k) × (k ≤ℤ pos 16)
    by true h e = subst (λ i. (negsuc 15 ≤ℤ i) × (i ≤ℤ pos 16)) (ok_is j k e) (near j h)
    by false h e = absurd cc

-- other leaves change nothing
leaves_have : (f : Leaf → Leaf) (t : Term) → HasDerivative t → HasDerivative (with_leaves f t)
leaves_have f (leaf l) h = tt
leaves_have f (negative a) h = leaves_have f a h
leaves_have f (binary op a b) h = (leaves_have f a h.0, leaves_have f b h.1)
leaves_have f (power_of a k) h = (leaves_have f a h.0, h.1, h.2)
leaves_have f (pick a b c e) h = absurd h

-- what a declared name stands for is a leaf
named_has : (ns : Names) (name : List ℕ) (k : ℤ) (t : Term) → named_term ns name k ≡ Some t → HasDerivative t
named_has ns name k t = by (place_of ns.endogenous name) (place_of ns.exogenous name) (place_of ns.parameters name)
  where
    by : (u v w : Option ℕ) → option_or (option_map (λ p. leaf (variable (endogenous p) k)) u) (option_or (option_map (λ p. leaf (variable (exogenous p) k)) v) (option_map (λ p. leaf (parameter p)) w)) ≡ Some t → HasDerivative t
    by (Some p) v w e = subst HasDerivative (some_is (leaf (variable (endogenous p) k)) t e) tt
    by None (Some p) w e = subst HasDerivative (some_is (leaf (variable (exogenous p) k)) t e) tt
    by None None (Some p) e = subst HasDerivative (some_is (leaf (parameter p)) t e) tt
    by None None None e = absurd cc

-- what these locals stand for has a derivative
abbrev pub LocalsHave : Locals → Type 0
LocalsHave ls = AllByRecursion (λ (l : List ℕ × Term). HasDerivative l.1) ls

local_has : (ls : Locals) → LocalsHave ls → (name : List ℕ) (t : Term) → local_in ls name ≡ Some t → HasDerivative t
local_has [] have name t e = absurd cc
local_has (l ∷ ls) have name t e = by (bytes_eq name l.0) e (local_has ls have.1 name t)
  where
    by : (b : Bool) → cond b (Some l.1) (local_in ls name) ≡ Some t → (local_in ls name ≡ Some t → HasDerivative t) → HasDerivative t
    by true e more = subst HasDerivative (some_is l.1 t e) have.0
    by false e more = more e

module _ (ns : Names) (ls : Locals) (tbl : Table) (have : LocalsHave ls) where
  name_has : (name : List ℕ) (k : ℤ) (t : Term) → meaning_of ns ls name k ≡ Some t → HasDerivative t
  name_has name k t = by (local_in ls name) (local_has ls have name t)
    where
      by : (u : Option Term) → (u ≡ Some t → HasDerivative t) → option_or u (named_term ns name k) ≡ Some t → HasDerivative t
      by None one e = named_has ns name k t e
      by (Some x) one e = one e

  signed_has : (s : Sign) (x : Term) → HasDerivative x → HasDerivative (signed_term s x)
  signed_has sign.Plus x h = h
  signed_has sign.Minus x h = h

  both_have : (op : term.Binary) (u v : Folded Term) → ((x : Term) → u ≡ Ok x → HasDerivative x) → ((y : Term) → v ≡ Ok y → HasDerivative y) → (t : Term) → (u >>= λ x. v >>= λ y. Ok (binary op x y)) ≡ Ok t → HasDerivative t
  both_have op u v left right t e =
      let p = before u (λ x. v >>= λ y. Ok (binary op x y)) t e in
      let q = before v (λ y. Ok (binary op p.0 y)) t p.2 in
      subst HasDerivative (ok_is (binary op p.0 q.0) t q.2) (left p.0 p.1, right q.0 q.1)

  term_has : (e : Expr) (t : Term) → term_by limited ns ls tbl e ≡ Ok t → HasDerivative t
  term_has (Number literal at) t e =
      let q = before (limited.literal at (decimal_of literal)) (λ n. Ok (number_by n)) t e in
      subst HasDerivative (ok_is (number_by q.0) t q.2) tt
  term_has (Variable name shift) t e =
      let q = before (limited.shift name.at (shift_of shift)) (λ k. known name.name (meaning_of ns ls name.name k)) t e in
      name_has name.name q.0 t (known_is name.name _ t q.2)
  term_has (Signed s a) t e =
      let q = before (term_by limited ns ls tbl a) (λ x. Ok (signed_term s x)) t e in
      subst HasDerivative (ok_is (signed_term s q.0) t q.2) (signed_has s q.0 (term_has a q.0 q.1))
  term_has (Binary o a at b) t e = both_have (binary_of o) (term_by limited ns ls tbl a) (term_by limited ns ls tbl b) (term_has a) (term_has b) t e
  term_has (Power a at s b) t e =
      let p = before (term_by limited ns ls tbl a) (λ x. value_by limited tbl b >>= λ y. exponent_at limited at s y >>= λ k. Ok (power_of x k)) t e in
      let q = before (value_by limited tbl b) (λ y. exponent_at limited at s y >>= λ k. Ok (power_of p.0 k)) t p.2 in
      let r = before (exponent_at limited at s q.0) (λ k. Ok (power_of p.0 k)) t q.2 in
      let is = exponent_near at (with_sign_if s q.0) (whole_of (with_sign_if s q.0)) r.0 r.1 in
      subst HasDerivative (ok_is (power_of p.0 r.0) t r.2) (term_has a p.0 p.1, is.0, is.1)
  term_has (Paren a) t e = term_has a t e
  term_has (Call f a b) t e = both_have (binary_called f) (term_by limited ns ls tbl a) (term_by limited ns ls tbl b) (term_has a) (term_has b) t e
  term_has (Diff at a) t e =
      let q = before (term_by limited ns ls tbl a) (λ x. Ok (difference x)) t e in
      let h = term_has a q.0 q.1 in
      subst HasDerivative (ok_is (difference q.0) t q.2) (h, leaves_have earlier_leaf q.0 h)
  term_has (Pick a b c f) t e = absurd cc

  right_has : (right : Option Expr) (t : Term) → right_by limited ns ls tbl right ≡ Ok t → HasDerivative t
  right_has None t e = subst HasDerivative (ok_is (leaf (number 0 0)) t e) tt
  right_has (Some x) t e = term_has x t e

  equation_has : (x : Equation) (e : m.Equation) → equation_by limited ns ls tbl x ≡ Ok e → SidesHaveDerivatives e
  equation_has x e h =
      let p = before (term_by limited ns ls tbl x.left) (λ l. right_by limited ns ls tbl x.right >>= λ r. Ok (equation_named (name_of x) l r)) e h in
      let q = before (right_by limited ns ls tbl x.right) (λ r. Ok (equation_named (name_of x) p.0 r)) e p.2 in
      subst SidesHaveDerivatives (ok_is (equation_named (name_of x) p.0 q.0) e q.2) (term_has x.left p.0 p.1, right_has x.right q.0 q.1)

items_have : (ns : Names) (tbl : Table) (ls : Locals) → LocalsHave ls → (xs : List Item) (es : List m.Equation) → items_by limited ns tbl ls xs ≡ Ok es → AllByRecursion SidesHaveDerivatives es
items_have ns tbl ls have [] es e = subst (AllByRecursion SidesHaveDerivatives) (ok_is [] es e) tt
items_have ns tbl ls have (Local name value ∷ xs) es e =
    let q = before (term_by limited ns ls tbl value) (λ x. items_by limited ns tbl ((name.name, x) ∷ ls) xs) es e in
    items_have ns tbl ((name.name, q.0) ∷ ls) (term_has ns ls tbl have value q.0 q.1, have) xs es q.2
items_have ns tbl ls have (Equates x ∷ xs) es e =
    let rest = items_by limited ns tbl ls xs in
    let q = before (equation_by limited ns ls tbl x) (λ y. rest >>= λ ys. Ok (y ∷ ys)) es e in
    let r = before rest (λ ys. Ok (q.0 ∷ ys)) es q.2 in
    subst (AllByRecursion SidesHaveDerivatives) (ok_is (q.0 ∷ r.0) es r.2) (equation_has ns ls tbl have x q.0 q.1, items_have ns tbl ls have xs r.0 r.1)

pub model_has : (file : List Statement) (M : m.Model) → model_given file ≡ Ok M → HaveDerivatives M
model_has file M e =
    let ns = names_of file in
    let p = before (values_by limited file) (λ t. parameters_given t >>= λ ps. equations_by limited file t >>= λ es. Ok (model_with ns ps es)) M e in
    let q = before (parameters_given p.0) (λ ps. equations_by limited file p.0 >>= λ es. Ok (model_with ns ps es)) M p.2 in
    let r = before (equations_by limited file p.0) (λ es. Ok (model_with ns q.0 es)) M q.2 in
    subst HaveDerivatives (ok_is (model_with ns q.0 r.0) M r.2) (items_have ns p.0 [] tt (items_of file) r.0 r.1)

-- ---- the transformed model

short_have : (stand : StandIns) (es : List m.Equation) (more : List m.Equation) → AllByRecursion SidesHaveDerivatives es → AllByRecursion SidesHaveDerivatives more → AllByRecursion SidesHaveDerivatives (map (short_equation stand) es ++ more)
short_have stand [] more h rest = rest
short_have stand (e ∷ es) more h rest =
    ((leaves_have (short_leaf stand) e.left h.0.0, leaves_have (short_leaf stand) e.right h.0.1), short_have stand es more h.1 rest)

own_have : (stand : StandIns) (xs : List Auxiliary) → AllByRecursion SidesHaveDerivatives (map (auxiliary_equation stand) xs)
own_have stand [] = tt
own_have stand (x ∷ xs) = ((tt, tt), own_have stand xs)

pub transformed_has : (M : m.Model) → HaveDerivatives M → HaveDerivatives (transformed M)
transformed_has M h =
    short_have (stand_in_of M) M.equations (map (auxiliary_equation (stand_in_of M)) (auxiliaries_of M)) h (own_have (stand_in_of M) (auxiliaries_of M))
