-- The inductions over terms: values, and what holds of each leaf.
use Rattle.std.proofs.Common.{◌≡◌, ℕ, ℤ, ◌+ℤ◌, ◌≤◌, List, [], ◌∷◌, refl, ap, arith}
use Rattle.std.specs.List.{AllByRecursion as Each}
use Rattle.std.proofs.lemmas.Int.{ints}
use Rattle.mp_semantics.specs.Term.{Leaf, number, parameter, variable, steady_state, Term, leaf, negative, binary, power_of, pick}
use Rattle.mp_semantics.specs.Value.{Environment, val}
use Rattle.mp_semantics.specs.Model.{Equation}
use Rattle.mp_semantics.specs.Shifted.{with_leaves}
use Rattle.mp_solutions.specs.Leaves.{AllLeaves, AllEquationLeaves, shifted_leaf, shifted}
use Rattle.mp_solutions.specs.Auxiliaries.{Direction, leaf_shift, term_shift, equations_shift}
use Rattle.mp_solutions.specs.Laws.{IsSameLeaf}

module _ (f : Leaf → Leaf) (env old : Environment) (t s : ℤ) where
  pub val-with_leaves : (e : Term) → AllLeaves (IsSameLeaf f env t old s) e → val (with_leaves f e) env t ≡ val e old s
  val-with_leaves (leaf l) h = h
  val-with_leaves (negative a) h = rw (val-with_leaves a h) refl
  val-with_leaves (binary op a b) h = rw (val-with_leaves a h.0, val-with_leaves b h.1) refl
  val-with_leaves (power_of a k) h = rw (val-with_leaves a h) refl
  val-with_leaves (pick a b c d) h = rw (val-with_leaves a h.0, val-with_leaves b h.1, val-with_leaves c h.2, val-with_leaves d h.3) refl

-- what follows for each leaf, holds of each
pub all_leaves : (P Q : Leaf → Type 0) → ((l : Leaf) → P l → Q l) → (e : Term) → AllLeaves P e → AllLeaves Q e
all_leaves P Q g (leaf l) h = g l h
all_leaves P Q g (negative a) h = all_leaves P Q g a h
all_leaves P Q g (binary op a b) h = (all_leaves P Q g a h.0, all_leaves P Q g b h.1)
all_leaves P Q g (power_of a k) h = all_leaves P Q g a h
all_leaves P Q g (pick a b c d) h = (all_leaves P Q g a h.0, all_leaves P Q g b h.1, all_leaves P Q g c h.2, all_leaves P Q g d h.3)

-- what holds of each leaf, holds
pub each_leaf : (P : Leaf → Type 0) → ((l : Leaf) → P l) → (e : Term) → AllLeaves P e
each_leaf P g (leaf l) = g l
each_leaf P g (negative a) = each_leaf P g a
each_leaf P g (binary op a b) = (each_leaf P g a, each_leaf P g b)
each_leaf P g (power_of a k) = each_leaf P g a
each_leaf P g (pick a b c d) = (each_leaf P g a, each_leaf P g b, each_leaf P g c, each_leaf P g d)

-- two facts of each leaf are one
pub both_leaves : (P Q : Leaf → Type 0) (e : Term) → AllLeaves P e → AllLeaves Q e → AllLeaves (λ l. P l × Q l) e
both_leaves P Q (leaf l) h k = (h, k)
both_leaves P Q (negative a) h k = both_leaves P Q a h k
both_leaves P Q (binary op a b) h k = (both_leaves P Q a h.0 k.0, both_leaves P Q b h.1 k.1)
both_leaves P Q (power_of a j) h k = both_leaves P Q a h k
both_leaves P Q (pick a b c d) h k = (both_leaves P Q a h.0 k.0, both_leaves P Q b h.1 k.1, both_leaves P Q c h.2 k.2, both_leaves P Q d h.3 k.3)

-- the leaves of a term with others in their place
pub leaves_with : (Q : Leaf → Type 0) (f : Leaf → Leaf) (e : Term) → AllLeaves (λ l. Q (f l)) e → AllLeaves Q (with_leaves f e)
leaves_with Q f (leaf l) h = h
leaves_with Q f (negative a) h = leaves_with Q f a h
leaves_with Q f (binary op a b) h = (leaves_with Q f a h.0, leaves_with Q f b h.1)
leaves_with Q f (power_of a k) h = leaves_with Q f a h
leaves_with Q f (pick a b c d) h = (leaves_with Q f a h.0, leaves_with Q f b h.1, leaves_with Q f c h.2, leaves_with Q f d h.3)

-- where each leaf stays, the term does
pub with_same_leaves : (f : Leaf → Leaf) (e : Term) → AllLeaves (λ l. f l ≡ l) e → with_leaves f e ≡ e
with_same_leaves f (leaf l) h = ap leaf h
with_same_leaves f (negative a) h = rw (with_same_leaves f a h) refl
with_same_leaves f (binary op a b) h = rw (with_same_leaves f a h.0, with_same_leaves f b h.1) refl
with_same_leaves f (power_of a k) h = rw (with_same_leaves f a h) refl
with_same_leaves f (pick a b c d) h = rw (with_same_leaves f a h.0, with_same_leaves f b h.1, with_same_leaves f c h.2, with_same_leaves f d h.3) refl

-- what is put in is all that matters
pub with_equal_leaves : (f g : Leaf → Leaf) (e : Term) → AllLeaves (λ l. f l ≡ g l) e → with_leaves f e ≡ with_leaves g e
with_equal_leaves f g (leaf l) h = ap leaf h
with_equal_leaves f g (negative a) h = rw (with_equal_leaves f g a h) refl
with_equal_leaves f g (binary op a b) h = rw (with_equal_leaves f g a h.0, with_equal_leaves f g b h.1) refl
with_equal_leaves f g (power_of a k) h = rw (with_equal_leaves f g a h) refl
with_equal_leaves f g (pick a b c d) h = rw (with_equal_leaves f g a h.0, with_equal_leaves f g b h.1, with_equal_leaves f g c h.2, with_equal_leaves f g d h.3) refl

-- a term k periods later has the value of k periods later
pub val-shifted : (k : ℤ) (env : Environment) (t : ℤ) (e : Term) → val (shifted k e) env t ≡ val e env (t +ℤ k)
val-shifted k env t e = val-with_leaves (shifted_leaf k) env env t (t +ℤ k) e (each_leaf (IsSameLeaf (shifted_leaf k) env t env (t +ℤ k)) at e)
  where
    at : (l : Leaf) → IsSameLeaf (shifted_leaf k) env t env (t +ℤ k) l
    at (number m s) = refl
    at (parameter p) = refl
    at (variable x j) = let e : t +ℤ (j +ℤ k) ≡ (t +ℤ k) +ℤ j = omega (arith, ints) in ap (env.value x) e
    at (steady_state v) = refl

-- no leaf is shifted further than g says
abbrev pub IsWithin : (Direction → ℕ → ℕ) → Leaf → Type 0
IsWithin g l = (d : Direction) (v : ℕ) → leaf_shift d v l ≤ g d v

pub term_within : (g : Direction → ℕ → ℕ) (e : Term) → ((d : Direction) (v : ℕ) → term_shift d v e ≤ g d v) → AllLeaves (IsWithin g) e
term_within g (leaf l) h = h
term_within g (negative a) h = term_within g a h
term_within g (binary op a b) h = (term_within g a (λ d v. let k = h d v in omega arith), term_within g b (λ d v. let k = h d v in omega arith))
term_within g (power_of a j) h = term_within g a h
term_within g (pick a b c e) h = (
  term_within g a (λ d v. let k = h d v in omega arith),
  term_within g b (λ d v. let k = h d v in omega arith),
  term_within g c (λ d v. let k = h d v in omega arith),
  term_within g e (λ d v. let k = h d v in omega arith),
)

pub equations_within : (g : Direction → ℕ → ℕ) (es : List Equation) → ((d : Direction) (v : ℕ) → equations_shift d v es ≤ g d v) → Each (AllEquationLeaves (IsWithin g)) es
equations_within g [] h = tt
equations_within g (e ∷ es) h = (
  (term_within g e.left (λ d v. let k = h d v in omega arith), term_within g e.right (λ d v. let k = h d v in omega arith)),
  equations_within g es (λ d v. let k = h d v in omega arith),
)

-- and back: where each leaf is shifted by n at most, the equations are
pub term_shift-le : (d : Direction) (v n : ℕ) (e : Term) → AllLeaves (λ l. leaf_shift d v l ≤ n) e → term_shift d v e ≤ n
term_shift-le d v n (leaf l) h = h
term_shift-le d v n (negative a) h = term_shift-le d v n a h
term_shift-le d v n (binary op a b) h = omega (arith, term_shift-le d v n a h.0, term_shift-le d v n b h.1)
term_shift-le d v n (power_of a j) h = term_shift-le d v n a h
term_shift-le d v n (pick a b c e) h =
    omega (arith, term_shift-le d v n a h.0, term_shift-le d v n b h.1, term_shift-le d v n c h.2, term_shift-le d v n e h.3)

pub equations_shift-le : (d : Direction) (v n : ℕ) (es : List Equation) → Each (AllEquationLeaves (λ l. leaf_shift d v l ≤ n)) es → equations_shift d v es ≤ n
equations_shift-le d v n [] h = omega arith
equations_shift-le d v n (e ∷ es) h =
    omega (arith, term_shift-le d v n e.left h.0.0, term_shift-le d v n e.right h.0.1, equations_shift-le d v n es h.1)
