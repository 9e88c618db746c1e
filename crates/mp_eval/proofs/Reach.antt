-- What stands in the roots of a graph.
use Rattle.std.proofs.Common.{◌≡◌, ◌∙◌, ◌<◌, ◌≤◌, inl, inr, ℕ, zero, suc, ◌+◌, ◌^◌, List, length, Bool, true, false, cond, [], ◌∷◌, map, drop, Option, Some, Result, Ok, Err, refl, sym, ap, subst, arith}
use Rattle.std.specs.Prelude.{slice_index, IsTrue}
use Rattle.mp_semantics.specs.Term.{Leaf, Term, leaf, negative, binary, power_of, pick}
use Rattle.mp_walk.specs.Walk.{size}
use Rattle.mp_walk.specs.Cells.{Cell}
use Rattle.mp_graph.specs.declared.op.NodeOp.{NodeOp}
use Rattle.mp_graph.specs.declared.op.NodeOp.TheVariants as node
use Rattle.mp_graph.specs.Op.{arity, kid, over}
use Rattle.mp_graph.specs.Part.{IsPart, IsIn, whole, part}
use Rattle.mp_graph.specs.Shared.{term_at, IsEachOnce}
use Rattle.mp_eval.specs.Given.{is_marked, marked_of, IsGiven, AreMarked, AreReached, HoldAll}
use Rattle.mp_eval.specs.Roots.{first_fault}
use Rattle.mp_eval.proofs.Ready.{part_of}

-- an operand is one of the kids
pub kid_from : (ts : List Term) (o : NodeOp) (kids : List ℕ) (t : Term) → IsPart t (over ts o kids) → (a : ℕ) × (a < arity o) × (t ≡ kid ts kids a)
kid_from ts (node.Leaf l) kids t h = absurd h
kid_from ts node.Neg kids t h = (0, omega arith, h)
kid_from ts (node.Binary o) kids t (inl h) = (0, omega arith, h)
kid_from ts (node.Binary o) kids t (inr h) = (1, omega arith, h)
kid_from ts (node.Pow k) kids t h = (0, omega arith, h)
kid_from ts node.Pick kids t (inl (inl h)) = (0, omega arith, h)
kid_from ts node.Pick kids t (inl (inr h)) = (1, omega arith, h)
kid_from ts node.Pick kids t (inr (inl h)) = (2, omega arith, h)
kid_from ts node.Pick kids t (inr (inr h)) = (3, omega arith, h)

-- an operand of what stands in a term stands in it
pub in_through : (t u v : Term) → IsPart t u → IsIn u v → IsIn t v
in_through t _ _ p (whole u) = part t t u p (whole t)
in_through t _ _ p (part u w v q h) = part t w v q (in_through t u w p h)

-- a marked node with its kids
pub record Met (ts : List Term) (id number : ℕ) (o : NodeOp) (kids : List ℕ) : Type 0 where
  pub same : number ≡ id
  pub within : id < length ts
  pub term : term_at ts number ≡ over ts o kids
  pub count : length kids ≡ arity o
  pub below : (j : ℕ) → j < length kids → slice_index kids j < number

pub kid_met : (ts : List Term) (marks : List Bool) (id number j : ℕ) (o : NodeOp) (kids : List ℕ) → IsEachOnce ts → Met ts id number o kids
    → ((a : ℕ) → a < length kids → IsTrue (is_marked marks (slice_index kids a)))
    → j < id → IsPart (term_at ts j) (term_at ts id) → IsTrue (is_marked marks j)
kid_met ts marks id number j o kids once m each l q =
    let e : term_at ts id ≡ over ts o kids = ap (λ (n : ℕ). term_at ts n) (sym m.same) ∙ m.term in
    let k = kid_from ts o kids (term_at ts j) (subst (λ (t : Term). IsPart (term_at ts j) t) e q) in
    let here : k.0 < length kids = omega (arith, k.1, m.count) in
    let b : slice_index kids k.0 < number = m.below k.0 here in
    let w : id < length ts = m.within in
    let f : number ≡ id = m.same in
    let g : j ≡ slice_index kids k.0 = once j (slice_index kids k.0) (omega (arith, l, w)) (omega (arith, b, w, f)) k.2 in
    subst (λ (n : ℕ). IsTrue (is_marked marks n)) (sym g) (each k.0 here)

-- a kid of a node that stands in a root stands in it
pub kid_in : (ts : List Term) (id number k a : ℕ) (o : NodeOp) (kids : List ℕ) (root : Term) → Met ts id number o kids → a < length kids → slice_index kids a ≡ k
    → IsIn (term_at ts id) root → IsIn (term_at ts k) root
kid_in ts id number k a o kids root m l e h =
    let t : term_at ts id ≡ over ts o kids = ap (λ (n : ℕ). term_at ts n) (sym m.same) ∙ m.term in
    let p : IsPart (kid ts kids a) (over ts o kids) = part_of ts o kids a (omega (arith, l, m.count)) in
    in_through (term_at ts k) (term_at ts id) root
    (subst (λ (u : Term). IsPart (term_at ts k) u) (sym t) (subst (λ (n : ℕ). IsPart (term_at ts n) (over ts o kids)) e p)) h

given_part : (read : Leaf → Option Cell) (u v : Term) → IsPart u v → IsGiven read v → IsGiven read u
given_part read u (leaf l) p g = absurd p
given_part read u (negative a) p g = subst (λ (t : Term). IsGiven read t) (sym p) g
given_part read u (binary o a b) (inl p) g = subst (λ (t : Term). IsGiven read t) (sym p) g.0
given_part read u (binary o a b) (inr p) g = subst (λ (t : Term). IsGiven read t) (sym p) g.1
given_part read u (power_of a k) p g = subst (λ (t : Term). IsGiven read t) (sym p) g
given_part read u (pick a b c d) (inl (inl p)) g = subst (λ (t : Term). IsGiven read t) (sym p) g.0
given_part read u (pick a b c d) (inl (inr p)) g = subst (λ (t : Term). IsGiven read t) (sym p) g.1
given_part read u (pick a b c d) (inr (inl p)) g = subst (λ (t : Term). IsGiven read t) (sym p) g.2
given_part read u (pick a b c d) (inr (inr p)) g = subst (λ (t : Term). IsGiven read t) (sym p) g.3

given_in : (read : Leaf → Option Cell) (t v : Term) → IsIn t v → IsGiven read v → IsGiven read t
given_in read _ _ (whole u) g = g
given_in read _ _ (part t u v p h) g = given_in read t u h (given_part read u v p g)

size_part : (u v : Term) → IsPart u v → size u ≤ size v
size_part u (leaf l) p = absurd p
size_part u (negative a) p = let e = ap size p in omega (arith, e)
size_part u (binary o a b) (inl p) = let e = ap size p in omega (arith, e)
size_part u (binary o a b) (inr p) = let e = ap size p in omega (arith, e)
size_part u (power_of a k) p = let e = ap size p in omega (arith, e)
size_part u (pick a b c d) (inl (inl p)) = let e = ap size p in omega (arith, e)
size_part u (pick a b c d) (inl (inr p)) = let e = ap size p in omega (arith, e)
size_part u (pick a b c d) (inr (inl p)) = let e = ap size p in omega (arith, e)
size_part u (pick a b c d) (inr (inr p)) = let e = ap size p in omega (arith, e)

size_in : (t v : Term) → IsIn t v → size t ≤ size v
size_in _ _ (whole u) = omega arith
size_in _ _ (part t u v p h) = let a = size_in t u h in let b = size_part u v p in omega (arith, a, b)

-- marks of what stands in roots that are given and small
pub reached_marked : (read : Leaf → Option Cell) (ts : List Term) (roots : List ℕ) (marks : List Bool) → AreReached ts roots marks
    → ((r : ℕ) → r < length roots → IsGiven read (term_at ts (slice_index roots r))) → ((r : ℕ) → r < length roots → size (term_at ts (slice_index roots r)) < 2 ^ 32)
    → AreMarked read ts marks
reached_marked read ts roots marks h given small = record {
  closed = h.closed;
  given = λ k l m. let o = h.only k l m in given_in read (term_at ts k) (term_at ts (slice_index roots o.0)) o.2 (given o.0 o.1);
  small = λ k l m. let o = h.only k l m in let s = size_in (term_at ts k) (term_at ts (slice_index roots o.0)) o.2 in let b = small o.0 o.1 in omega (arith, s, b);
}

count_by : (a b : Bool) → (IsTrue a → IsTrue b) → cond a 1 0 ≤ cond b 1 0
count_by false b h = omega arith
count_by true true h = omega arith
count_by true false h = let e = h refl in cc

-- more marks are at least as many
pub marked_least : (marks other : List Bool) (n : ℕ) → ((k : ℕ) → k < n → IsTrue (is_marked marks k) → IsTrue (is_marked other k)) → marked_of marks n ≤ marked_of other n
marked_least marks other zero h = omega arith
marked_least marks other (suc n) h =
    let a = marked_least marks other n (λ k l. h k (omega (arith, l))) in
    let b = count_by (is_marked marks n) (is_marked other n) (h n (omega arith)) in
    omega (arith, a, b)

-- what stands in the roots is at most what any marks hold that hold all of it
pub reached_least : (ts : List Term) (roots : List ℕ) (marks other : List Bool) → AreReached ts roots marks → HoldAll ts roots other → marked_of marks (length ts) ≤ marked_of other (length ts)
reached_least ts roots marks other h all = marked_least marks other (length ts) (λ k l m. let o = h.only k l m in all k o.0 l o.1 o.2)

drop_item : (xs : List ℕ) (i : ℕ) → i < length xs → drop i xs ≡ slice_index xs i ∷ drop (suc i) xs
drop_item [] i h = absurd (omega (arith, h))
drop_item (x ∷ xs) zero h = refl
drop_item (x ∷ xs) (suc i) h = drop_item xs i (omega (arith, h))

-- a root that has a value is passed
pub root_passed : {X C : Type 0} (f : ℕ → Result X C) (xs : List ℕ) (n i : ℕ) (x : X) (p : Option (ℕ × C)) → i < length xs → f (slice_index xs i) ≡ Ok x
    → first_fault n (map f (drop i xs)) ≡ p → first_fault (n + 1) (map f (drop (i + 1) xs)) ≡ p
root_passed {X = X} {C = C} f xs n i x p l e h =
    let k : i + 1 ≡ suc i = omega arith in
    let d : first_fault n (map f (drop i xs)) ≡ first_fault n (f (slice_index xs i) ∷ map f (drop (suc i) xs)) = ap (λ (ys : List ℕ). first_fault n (map f ys)) (drop_item xs i l) in
    let g : first_fault n (f (slice_index xs i) ∷ map f (drop (suc i) xs)) ≡ first_fault (n + 1) (map f (drop (suc i) xs)) = ap (λ (r : Result X C). first_fault n (r ∷ map f (drop (suc i) xs))) e in
    ap (λ (j : ℕ). first_fault (n + 1) (map f (drop j xs))) k ∙ (sym (d ∙ g) ∙ h)

-- a root that has a fault ends them
pub root_ended : {X C : Type 0} (f : ℕ → Result X C) (xs : List ℕ) (n i : ℕ) (c : C) (p : Option (ℕ × C)) → i < length xs → f (slice_index xs i) ≡ Err c
    → first_fault n (map f (drop i xs)) ≡ p → Some (n, c) ≡ p
root_ended {X = X} {C = C} f xs n i c p l e h =
    let d : first_fault n (map f (drop i xs)) ≡ first_fault n (f (slice_index xs i) ∷ map f (drop (suc i) xs)) = ap (λ (ys : List ℕ). first_fault n (map f ys)) (drop_item xs i l) in
    let g : first_fault n (f (slice_index xs i) ∷ map f (drop (suc i) xs)) ≡ Some (n, c) = ap (λ (r : Result X C). first_fault n (r ∷ map f (drop (suc i) xs))) e in
    sym (d ∙ g) ∙ h

pub map_same : {R : Type 0} (f g : ℕ → R) (xs : List ℕ) → ((i : ℕ) → i < length xs → f (slice_index xs i) ≡ g (slice_index xs i)) → map f xs ≡ map g xs
map_same f g [] h = refl
map_same {R = R} f g (x ∷ xs) h =
    let a : f x ≡ g x = h 0 (omega arith) in
    let b : map f xs ≡ map g xs = map_same f g xs (λ i l. h (suc i) (omega (arith, l))) in
    ap (λ (y : R). y ∷ map f xs) a ∙ ap (λ (ys : List R). g x ∷ ys) b
