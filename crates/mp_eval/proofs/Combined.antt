-- What a node gives is the walk over its term.
use Rattle.std.proofs.Common.{◌≡◌, ◌∙◌, ◌<◌, ℕ, ◌+◌, List, Option, Result, Ok, Err, refl, sym, ap, arith}
use Rattle.std.specs.Prelude.{slice_index}
use Rattle.mp_base.specs.declared.kinds.Op.{Op}
use Rattle.mp_base.specs.declared.kinds.Op.TheVariants as op
use Rattle.mp_semantics.specs.Term.{Leaf, Term}
use Rattle.mp_walk.specs.Cells.{Cell}
use Rattle.mp_walk.specs.Walk.{Arithmetic, Fault, next, at_node, size, named, shifted, walk}
use Rattle.mp_walk.proofs.Shift.{walk_shift}
use Rattle.mp_graph.specs.declared.op.NodeOp.{NodeOp}
use Rattle.mp_graph.specs.declared.op.NodeOp.TheVariants as node
use Rattle.mp_graph.specs.Op.{arity, kid, over, binary_of}
use Rattle.mp_eval.specs.Rows.{pair, combined, size_over}

next_is : {X Y F : Type 0} (p q : Result X F) (f g : X → Result Y F) → p ≡ q → ((x : X) → f x ≡ g x) → next p f ≡ next q g
next_is p q f g e h = ap (λ r. next r f) e ∙ by q
  where
    by : (q : Result _ _) → next q f ≡ next q g
    by (Ok x) = h x
    by (Err e) = refl

at_is : {X C : Type 0} (m n : ℕ) (o : Op) (r : Result X C) → m ≡ n → at_node m o r ≡ at_node n o r
at_is m n o r e = ap (λ (i : ℕ). at_node i o r) e

kid_is : {X C : Type 0} (A : Arithmetic X C) (read : Leaf → Option Cell) (v : Result X (Fault C)) (e : Term) (k m : ℕ)
    → v ≡ walk A read e 0 → k ≡ m → shifted k v ≡ walk A read e m
kid_is A read v e k m h f = ap (shifted k) h ∙ sym (walk_shift A read e m 0 k (omega (arith, f)))

-- what follows two kids follows the second one
pair_next : {X Y C : Type 0} (v : ℕ → Result X (Fault C)) (s : ℕ → ℕ) (before a b : ℕ) (f : X × X → Result Y (Fault C))
    → next (pair v s before a b) f ≡ next (shifted before (v a)) (λ x. next (shifted (before + s a) (v b)) (λ y. f (x, y)))
pair_next v s before a b f = by_first (shifted before (v a))
  where
    by_second : (x : _) (r : Result _ _) → next (next r (λ y. Ok (x, y))) f ≡ next r (λ y. f (x, y))
    by_second x (Ok y) = refl
    by_second x (Err e) = refl

    by_first : (r : Result _ _) → next (next r (λ x. next (shifted (before + s a) (v b)) (λ y. Ok (x, y)))) f ≡ next r (λ x. next (shifted (before + s a) (v b)) (λ y. f (x, y)))
    by_first (Ok x) = by_second x (shifted (before + s a) (v b))
    by_first (Err e) = refl

-- what is known of the values and the sizes of the first n kids
pub record Known {X C : Type 0} (A : Arithmetic X C) (read : Leaf → Option Cell) (v : ℕ → Result X (Fault C)) (s : ℕ → ℕ) (ts : List Term) (kids : List ℕ) (n : ℕ) : Type 0 where
  pub value : (j : ℕ) → j < n → v (slice_index kids j) ≡ walk A read (kid ts kids j) 0
  pub sized : (j : ℕ) → j < n → size (kid ts kids j) ≡ s (slice_index kids j)

pub combined_is : {X C : Type 0} (A : Arithmetic X C) (read : Leaf → Option Cell) (v : ℕ → Result X (Fault C)) (s : ℕ → ℕ) (ts : List Term) (o : NodeOp) (kids : List ℕ)
    → Known A read v s ts kids (arity o) → combined A read v s o kids ≡ walk A read (over ts o kids) 0
combined_is A read v s ts (node.Leaf l) kids h = refl
combined_is A read v s ts node.Neg kids h = next_is _ _ _ _ (kid_is A read (v (slice_index kids 0)) (kid ts kids 0) 0 0 (h.value 0 (omega arith)) refl) (λ x. refl)
combined_is A read v s ts (node.Binary o) kids h =
    let p = h.sized 0 (omega arith) in
    let q = h.sized 1 (omega arith) in
    pair_next v s 0 (slice_index kids 0) (slice_index kids 1) _
    ∙ next_is _ _ _ _ (kid_is A read (v (slice_index kids 0)) (kid ts kids 0) 0 0 (h.value 0 (omega arith)) refl)
    (λ x. next_is _ _ _ _ (kid_is A read (v (slice_index kids 1)) (kid ts kids 1) (0 + s (slice_index kids 0)) (0 + size (kid ts kids 0)) (h.value 1 (omega arith)) (omega (arith, p)))
    (λ y. at_is _ _ (named (binary_of o)) (A.both (binary_of o) x y) (omega (arith, p, q))))
combined_is A read v s ts (node.Pow k) kids h =
    let p = h.sized 0 (omega arith) in
    next_is _ _ _ _ (kid_is A read (v (slice_index kids 0)) (kid ts kids 0) 0 0 (h.value 0 (omega arith)) refl)
    (λ x. at_is _ _ op.Pow (A.raised x k) (omega (arith, p)))
combined_is A read v s ts node.Pick kids h =
    let p = h.sized 0 (omega arith) in
    let q = h.sized 1 (omega arith) in
    let r = h.sized 2 (omega arith) in
    let t = h.sized 3 (omega arith) in
    pair_next v s 0 (slice_index kids 0) (slice_index kids 1) _
    ∙ next_is _ _ _ _ (kid_is A read (v (slice_index kids 0)) (kid ts kids 0) 0 0 (h.value 0 (omega arith)) refl)
    (λ x. next_is _ _ _ _ (kid_is A read (v (slice_index kids 1)) (kid ts kids 1) (0 + s (slice_index kids 0)) (0 + size (kid ts kids 0)) (h.value 1 (omega arith)) (omega (arith, p)))
    (λ y. pair_next v s (s (slice_index kids 0) + s (slice_index kids 1)) (slice_index kids 2) (slice_index kids 3) _
    ∙ next_is _ _ _ _ (kid_is A read (v (slice_index kids 2)) (kid ts kids 2) (s (slice_index kids 0) + s (slice_index kids 1)) (0 + size (kid ts kids 0) + size (kid ts kids 1)) (h.value 2 (omega arith)) (omega (arith, p, q)))
    (λ u. next_is _ _ _ _ (kid_is A read (v (slice_index kids 3)) (kid ts kids 3) (s (slice_index kids 0) + s (slice_index kids 1) + s (slice_index kids 2)) (0 + size (kid ts kids 0) + size (kid ts kids 1) + size (kid ts kids 2)) (h.value 3 (omega arith)) (omega (arith, p, q, r)))
    (λ w. at_is _ _ op.Pick (A.picked x y u w) (omega (arith, p, q, r, t))))))

pub size_is : {X C : Type 0} (A : Arithmetic X C) (read : Leaf → Option Cell) (v : ℕ → Result X (Fault C)) (s : ℕ → ℕ) (ts : List Term) (o : NodeOp) (kids : List ℕ)
    → Known A read v s ts kids (arity o) → size (over ts o kids) ≡ size_over s o kids
size_is A read v s ts (node.Leaf l) kids h = refl
size_is A read v s ts node.Neg kids h = let p = h.sized 0 (omega arith) in omega (arith, p)
size_is A read v s ts (node.Binary o) kids h = let p = h.sized 0 (omega arith) in let q = h.sized 1 (omega arith) in omega (arith, p, q)
size_is A read v s ts (node.Pow k) kids h = let p = h.sized 0 (omega arith) in omega (arith, p)
size_is A read v s ts node.Pick kids h =
    let p = h.sized 0 (omega arith) in
    let q = h.sized 1 (omega arith) in
    let r = h.sized 2 (omega arith) in
    let t = h.sized 3 (omega arith) in
    omega (arith, p, q, r, t)
