-- What a marked node has that is written in the order of numbers.
use Rattle.std.proofs.Common.{◌≡◌, ◌∙◌, ◌<◌, ◌≤◌, inl, inr, ℕ, zero, suc, ◌+◌, ◌^◌, List, length, Bool, cond, Option, Result, refl, sym, ap, subst, arith, get_or, set, get_or-set_other, get_or-set_same}
use Rattle.std.specs.Prelude.{slice_index, IsTrue}
use Rattle.std.proofs.lemmas.Bool.{cases_lt}
use Rattle.mp_semantics.specs.Term.{Leaf, Term}
use Rattle.mp_values.specs.Names.{Names}
use Rattle.mp_walk.specs.Cells.{Cell}
use Rattle.mp_walk.specs.Walk.{Arithmetic, size, walk}
use Rattle.mp_graph.specs.declared.op.LeafOp.{LeafOp}
use Rattle.mp_graph.specs.declared.op.LeafOp.TheVariants.{Num, Param, Var, Anchor}
use Rattle.mp_graph.specs.declared.op.NodeOp.{NodeOp}
use Rattle.mp_graph.specs.declared.op.NodeOp.TheVariants as node
use Rattle.mp_graph.specs.Op.{arity, kid, over, IsLawful, IsLawfulLeaf}
use Rattle.mp_graph.specs.Part.{IsPart}
use Rattle.mp_graph.specs.Shared.{term_at}
use Rattle.mp_base.specs.declared.kinds.FixFault.{FixFault}
use Rattle.mp_eval.specs.declared.fault.Fault as code
use Rattle.mp_eval.specs.Told.{told, IsWithin}
use Rattle.mp_eval.specs.Rows.{IsLimited, CanBeDone, IsKnown, none, value_at, size_at, size_over, combined}
use Rattle.mp_eval.specs.Given.{IsGiven, is_marked, marked_of, AreMarked}
use Rattle.mp_eval.proofs.Combined.{Known, combined_is, size_is}

-- each kid is an operand
pub part_of : (ts : List Term) (o : NodeOp) (kids : List ℕ) (j : ℕ) → j < arity o → IsPart (kid ts kids j) (over ts o kids)
part_of ts (node.Leaf l) kids j h = absurd (omega (arith, h))
part_of ts node.Neg kids zero h = refl
part_of ts node.Neg kids (suc j) h = absurd (omega (arith, h))
part_of ts (node.Binary o) kids zero h = inl refl
part_of ts (node.Binary o) kids (suc zero) h = inr refl
part_of ts (node.Binary o) kids (suc (suc j)) h = absurd (omega (arith, h))
part_of ts (node.Pow k) kids zero h = refl
part_of ts (node.Pow k) kids (suc j) h = absurd (omega (arith, h))
part_of ts node.Pick kids zero h = inl (inl refl)
part_of ts node.Pick kids (suc zero) h = inl (inr refl)
part_of ts node.Pick kids (suc (suc zero)) h = inr (inl refl)
part_of ts node.Pick kids (suc (suc (suc zero))) h = inr (inr refl)
part_of ts node.Pick kids (suc (suc (suc (suc j)))) h = absurd (omega (arith, h))

limited : (names : Names) (l : LeafOp) → IsLawfulLeaf names l → IsLimited l
limited names (Num m s) h = (h.size, h.digits)
limited names (Param p) h = tt
limited names (Var v k) h = tt
limited names (Anchor v) h = tt

-- a lawful node over given leaves can be done
pub done_is : (read : Leaf → Option Cell) (names : Names) (ts : List Term) (o : NodeOp) (kids : List ℕ) → IsLawful names o → IsGiven read (over ts o kids) → CanBeDone read o
done_is read names ts (node.Leaf l) kids h g = (limited names l h, g)
done_is read names ts node.Neg kids h g = tt
done_is read names ts (node.Binary o) kids h g = tt
done_is read names ts (node.Pow k) kids h g = h
done_is read names ts node.Pick kids h g = tt

-- what a number has that was done: the walk over its term, its size, and a fault within it
pub record Done {X : Type 0} (A : Arithmetic X FixFault) (read : Leaf → Option Cell) (ts : List Term) (sizes : List ℕ) (values : List (Result X code.Fault)) (k : ℕ) : Type 0 where
  pub value : value_at values k ≡ walk A read (term_at ts k) 0
  pub sized : size_at sizes k ≡ size (term_at ts k)
  pub within : IsWithin (size_at sizes k) (get_or values k none)

-- a write at a later number
pub done_stays : {X : Type 0} (A : Arithmetic X FixFault) (read : Leaf → Option Cell) (ts : List Term) (sizes : List ℕ) (values : List (Result X code.Fault)) (i k n : ℕ) (v : Result X code.Fault)
    → k < i → Done A read ts sizes values k → Done A read ts (set sizes i n) (set values i v) k
done_stays A read ts sizes values i k n v l d =
    let p : get_or (set sizes i n) k 0 ≡ get_or sizes k 0 = get_or-set_other sizes i k n 0 (λ e. omega (arith, l, e)) in
    let q : get_or (set values i v) k none ≡ get_or values k none = get_or-set_other values i k v none (λ e. omega (arith, l, e)) in
    record {
      value = ap told q ∙ d.value;
      sized = p ∙ d.sized;
      within = subst (λ (m : ℕ). IsWithin m (get_or (set values i v) k none)) (sym p) (subst (λ r. IsWithin (get_or sizes k 0) r) (sym q) d.within);
    }

-- the number that is written
pub done_here : {X : Type 0} (A : Arithmetic X FixFault) (read : Leaf → Option Cell) (ts : List Term) (sizes : List ℕ) (values : List (Result X code.Fault)) (i n : ℕ) (v : Result X code.Fault)
    → i < length sizes → i < length values → told v ≡ walk A read (term_at ts i) 0 → n ≡ size (term_at ts i) → IsWithin n v
    → Done A read ts (set sizes i n) (set values i v) i
done_here A read ts sizes values i n v ls lv hv hn hw =
    let p : get_or (set sizes i n) i 0 ≡ n = get_or-set_same sizes i n 0 ls in
    let q : get_or (set values i v) i none ≡ v = get_or-set_same values i v none lv in
    record {
      value = ap told q ∙ hv;
      sized = p ∙ hn;
      within = subst (λ (m : ℕ). IsWithin m (get_or (set values i v) i none)) (sym p) (subst (λ r. IsWithin n r) (sym q) hw);
    }

-- the kids of a marked node were done
pub record Kids (read : Leaf → Option Cell) (ts : List Term) (marks : List Bool) (id : ℕ) (o : NodeOp) (kids : List ℕ) : Type 0 where
  pub within : id < length ts
  pub marked : IsTrue (is_marked marks id)
  pub term : term_at ts id ≡ over ts o kids
  pub count : length kids ≡ arity o
  pub below : (j : ℕ) → j < length kids → slice_index kids j < id

pub kid_marked : (read : Leaf → Option Cell) (ts : List Term) (marks : List Bool) (id : ℕ) (o : NodeOp) (kids : List ℕ) → AreMarked read ts marks → Kids read ts marks id o kids
    → (j : ℕ) → j < arity o → IsTrue (is_marked marks (slice_index kids j))
kid_marked read ts marks id o kids m h j l =
    m.closed id (slice_index kids j) h.within (h.below j (omega (arith, l, h.count))) h.marked (subst (λ (t : Term). IsPart (kid ts kids j) t) (sym h.term) (part_of ts o kids j l))

pub kids_known : {X : Type 0} (A : Arithmetic X FixFault) (read : Leaf → Option Cell) (ts : List Term) (marks : List Bool) (sizes : List ℕ) (values : List (Result X code.Fault)) (id : ℕ) (o : NodeOp) (kids : List ℕ)
    → AreMarked read ts marks → Kids read ts marks id o kids → ((k : ℕ) → k < id → IsTrue (is_marked marks k) → Done A read ts sizes values k)
    → Known A read (value_at values) (size_at sizes) ts kids (arity o)
kids_known A read ts marks sizes values id o kids m h d = record {
  value = λ j l. (d (slice_index kids j) (h.below j (omega (arith, l, h.count))) (kid_marked read ts marks id o kids m h j l)).value;
  sized = λ j l. sym (d (slice_index kids j) (h.below j (omega (arith, l, h.count))) (kid_marked read ts marks id o kids m h j l)).sized;
}

pub kids_ready : {X : Type 0} (A : Arithmetic X FixFault) (read : Leaf → Option Cell) (ts : List Term) (marks : List Bool) (sizes : List ℕ) (values : List (Result X code.Fault)) (id : ℕ) (o : NodeOp) (kids : List ℕ)
    → AreMarked read ts marks → Kids read ts marks id o kids → ((k : ℕ) → k < id → IsTrue (is_marked marks k) → Done A read ts sizes values k)
    → length ts ≤ length sizes → length ts ≤ length values
    → (j : ℕ) → j < length kids → IsKnown sizes values (slice_index kids j)
kids_ready A read ts marks sizes values id o kids m h d ls lv j l =
    let b : slice_index kids j < id = h.below j l in
    let w : id < length ts = h.within in
    record {
      sized = omega (arith, b, w, ls);
      valued = omega (arith, b, w, lv);
      within = (d (slice_index kids j) b (kid_marked read ts marks id o kids m h j (omega (arith, l, h.count)))).within;
    }

pub node_small : {X : Type 0} (A : Arithmetic X FixFault) (read : Leaf → Option Cell) (ts : List Term) (marks : List Bool) (sizes : List ℕ) (values : List (Result X code.Fault)) (id : ℕ) (o : NodeOp) (kids : List ℕ)
    → AreMarked read ts marks → Kids read ts marks id o kids → ((k : ℕ) → k < id → IsTrue (is_marked marks k) → Done A read ts sizes values k)
    → size_over (size_at sizes) o kids < 2 ^ 32
node_small A read ts marks sizes values id o kids m h d =
    subst (λ (n : ℕ). n < 2 ^ 32) (ap size h.term ∙ size_is A read (value_at values) (size_at sizes) ts o kids (kids_known A read ts marks sizes values id o kids m h d)) (m.small id h.within h.marked)

pub node_done : (read : Leaf → Option Cell) (names : Names) (ts : List Term) (marks : List Bool) (id : ℕ) (o : NodeOp) (kids : List ℕ)
    → AreMarked read ts marks → Kids read ts marks id o kids → IsLawful names o → CanBeDone read o
node_done read names ts marks id o kids m h w = done_is read names ts o kids w (subst (λ (t : Term). IsGiven read t) h.term (m.given id h.within h.marked))

pub kids_of : (read : Leaf → Option Cell) (ts : List Term) (marks : List Bool) (id number : ℕ) (o : NodeOp) (kids : List ℕ)
    → number ≡ id → id < length ts → IsTrue (is_marked marks id) → term_at ts number ≡ over ts o kids → length kids ≡ arity o → ((j : ℕ) → j < length kids → slice_index kids j < number)
    → Kids read ts marks id o kids
kids_of read ts marks id number o kids e w m t c b = record {
  within = w;
  marked = m;
  term = ap (λ (n : ℕ). term_at ts n) (sym e) ∙ t;
  count = c;
  below = λ j l. subst (λ (n : ℕ). slice_index kids j < n) e (b j l);
}

-- a marked node whose value and size are written is done
pub node_written : {X : Type 0} (A : Arithmetic X FixFault) (read : Leaf → Option Cell) (ts : List Term) (marks : List Bool) (sizes : List ℕ) (values : List (Result X code.Fault)) (id n : ℕ) (v : Result X code.Fault) (o : NodeOp) (kids : List ℕ)
    → AreMarked read ts marks → Kids read ts marks id o kids → ((k : ℕ) → k < id → IsTrue (is_marked marks k) → Done A read ts sizes values k)
    → length ts ≤ length sizes → length ts ≤ length values → n ≡ size_over (size_at sizes) o kids
    → told v ≡ combined A read (value_at values) (size_at sizes) o kids → IsWithin (size_over (size_at sizes) o kids) v
    → Done A read ts (set sizes id n) (set values id v) id
node_written A read ts marks sizes values id n v o kids m h d ls lv hn hv hw =
    let w : id < length ts = h.within in
    let known = kids_known A read ts marks sizes values id o kids m h d in
    done_here A read ts sizes values id n v (omega (arith, w, ls)) (omega (arith, w, lv))
    (hv ∙ (combined_is A read (value_at values) (size_at sizes) ts o kids known ∙ ap (λ (t : Term). walk A read t 0) (sym h.term)))
    (hn ∙ (sym (size_is A read (value_at values) (size_at sizes) ts o kids known) ∙ ap size (sym h.term)))
    (subst (λ (k : ℕ). IsWithin k v) (sym hn) hw)

-- one number more is done
pub done_more : {X : Type 0} (A : Arithmetic X FixFault) (read : Leaf → Option Cell) (ts : List Term) (marks : List Bool) (sizes new_sizes : List ℕ) (values new_values : List (Result X code.Fault)) (id n : ℕ) (v : Result X code.Fault)
    → new_sizes ≡ set sizes id n → new_values ≡ set values id v
    → ((k : ℕ) → k < id → IsTrue (is_marked marks k) → Done A read ts sizes values k) → Done A read ts (set sizes id n) (set values id v) id
    → (k : ℕ) → k < id + 1 → IsTrue (is_marked marks k) → Done A read ts new_sizes new_values k
done_more {X = X} A read ts marks sizes new_sizes values new_values id n v es ev d here k l m =
    subst (λ (xs : List ℕ). Done A read ts xs new_values k) (sym es)
    (subst (λ (ys : List (Result X code.Fault)). Done A read ts (set sizes id n) ys k) (sym ev)
    (elim (cases_lt k id) [
      | inl p ↦ done_stays A read ts sizes values id k n v p (d k p m)
      | inr p ↦ let e : id ≡ k = omega (arith, p, l) in subst (λ (i : ℕ). Done A read ts (set sizes id n) (set values id v) i) e here
    ]))

-- a number that is not marked asks for nothing
pub done_past : {X : Type 0} (A : Arithmetic X FixFault) (read : Leaf → Option Cell) (ts : List Term) (marks : List Bool) (sizes new_sizes : List ℕ) (values new_values : List (Result X code.Fault)) (id : ℕ)
    → new_sizes ≡ sizes → new_values ≡ values → (IsTrue (is_marked marks id) → ⊥)
    → ((k : ℕ) → k < id → IsTrue (is_marked marks k) → Done A read ts sizes values k)
    → (k : ℕ) → k < id + 1 → IsTrue (is_marked marks k) → Done A read ts new_sizes new_values k
done_past {X = X} A read ts marks sizes new_sizes values new_values id es ev off d k l m =
    subst (λ (xs : List ℕ). Done A read ts xs new_values k) (sym es)
    (subst (λ (ys : List (Result X code.Fault)). Done A read ts sizes ys k) (sym ev)
    (elim (cases_lt k id) [
      | inl p ↦ d k p m
      | inr p ↦ let e : k ≡ id = omega (arith, p, l) in absurd (off (subst (λ (i : ℕ). IsTrue (is_marked marks i)) e m))
    ]))

pub count_next : (marks : List Bool) (id : ℕ) → marked_of marks (id + 1) ≡ marked_of marks id + cond (is_marked marks id) 1 0
count_next marks id = let e : id + 1 ≡ suc id = omega arith in ap (marked_of marks) e

pub count_marked : (marks : List Bool) (id : ℕ) → IsTrue (is_marked marks id) → marked_of marks (id + 1) ≡ marked_of marks id + 1
count_marked marks id h = count_next marks id ∙ ap (λ (b : Bool). marked_of marks id + cond b 1 0) h

pub count_past : (marks : List Bool) (id : ℕ) → marked_of marks id ≤ marked_of marks (id + 1)
count_past marks id = let e = count_next marks id in omega (arith, e)
