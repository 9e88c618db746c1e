-- When nodes and terms are the same.
use Rattle.std.proofs.Common.{◌≡◌, ℕ, zero, suc, ◌+◌, ◌<◌, ◌≤◌, Bool, true, false, ◌&&◌, List, [], ◌∷◌, length, map, get_or, slice_get, Some, ap, sym, ◌∙◌, refl, subst, inl, inr, arith, true≢false}
use Rattle.std.proofs.lemmas.Grind.{common_steps}
use Rattle.std.proofs.lemmas.Bool.{cases_lt}
use Rattle.std.proofs.lemmas.Bool.Decides.{Decides-int_eq}
use Rattle.std.proofs.lemmas.Slice.Eq.{bytes_eq-Decides}
use Rattle.std.proofs.lemmas.Map.Keys.{apart_from_distinct}
use Rattle.std.specs.List.{AllByRecursion, IsDistinct}
use Rattle.std.specs.Ordering.{int_eq}
use Rattle.mp_semantics.specs.Term as term
use Rattle.mp_semantics.specs.Term.{endogenous, exogenous, number, parameter, variable, steady_state, plus, minus, times, quotient, least, greatest, Term, leaf, negative, binary, power_of, pick}
use Rattle.mp_expr.specs.declared.tree.VarId.{VarId}
use Rattle.mp_expr.specs.declared.tree.VarId.TheVariants.{Endo, Exo}
use Rattle.mp_expr.specs.Shown.{place_of}
use Rattle.mp_expr.specs.contracts.tree.VarIdPartialEq.TheImpl.{eq-value as var-value}
use Rattle.mp_graph.specs.declared.op.LeafOp.{LeafOp}
use Rattle.mp_graph.specs.declared.op.LeafOp.TheVariants.{Num, Param, Var, Anchor}
use Rattle.mp_graph.specs.declared.op.BinaryOp.{BinaryOp}
use Rattle.mp_graph.specs.declared.op.BinaryOp.TheVariants.{Add, Sub, Mul, Div, Min, Max}
use Rattle.mp_graph.specs.declared.op.NodeOp.{NodeOp}
use Rattle.mp_graph.specs.declared.op.NodeOp.TheVariants.{Leaf, Neg, Binary, Pow, Pick}
use Rattle.mp_graph.specs.declared.kids.Held.{Held}
use Rattle.mp_graph.specs.declared.kids.Held.TheVariants.{Zero, One, Two, Four}
use Rattle.mp_graph.specs.declared.graph.Node.{Node}
use Rattle.mp_graph.specs.contracts.graph.NodePartialEq.TheImpl.{eq-value}
use Rattle.mp_graph.specs.contracts.graph.NodeEq.TheImpl.Laws.{laws-law}
use Rattle.mp_graph.specs.contracts.op.NodeOpPartialEq.TheImpl.{eq-value as op-value}
use Rattle.mp_graph.specs.contracts.op.LeafOpPartialEq.TheImpl.{eq-value as leaf-value}
use Rattle.mp_graph.specs.contracts.op.BinaryOpPartialEq.TheImpl.{eq-value as binary-value}
use Rattle.mp_graph.specs.contracts.kids.KidsPartialEq.TheImpl.{eq-value as kids-value}
use Rattle.mp_graph.specs.contracts.kids.HeldPartialEq.TheImpl.{eq-value as held-value}
use Rattle.mp_graph.specs.Kids.{listed, held_of}
use Rattle.mp_values.specs.Names.{Names}
use Rattle.mp_graph.specs.Op.{arity, IsLawful, IsLawfulLeaf, leaf_of, binary_of, over}
use Rattle.mp_graph.specs.Nodes.{terms_of, FitsAt, IsSound}
use Rattle.mp_graph.specs.Shared.{term_at, IsEachOnce}
use Rattle.mp_graph.proofs.Nodes.{node_term, length-terms_of, get_at, got}

-- ---- the derived `==` is equality
both : (p q : Bool) → (p && q) ≡ true → (p ≡ true) × (q ≡ true)
both true q h = (refl, h)
both false q h = cc

pub var_eq : (a b : VarId) → (var-value).it a b ≡ true → a ≡ b
var_eq (Endo m) (Endo n) h = grind (arith, common_steps)
var_eq (Exo m) (Exo n) h = grind (arith, common_steps)
var_eq a b h = cc

leaf_eq : (a b : LeafOp) → (leaf-value).it a b ≡ true → a ≡ b
leaf_eq (Num m s) (Num n t) h = grind (arith, common_steps)
leaf_eq (Param m) (Param n) h = grind (arith, common_steps)
leaf_eq (Var v k) (Var w l) h =
    let p = both ((var-value).it v w) (int_eq k l) h in
    let e = var_eq v w p.0 in
    let f = (Decides-int_eq k l).0 p.1 in cc (e, f)
leaf_eq (Anchor m) (Anchor n) h = grind (arith, common_steps)
leaf_eq a b h = cc

binary_eq : (a b : BinaryOp) → (binary-value).it a b ≡ true → a ≡ b
binary_eq Add Add h = refl
binary_eq Sub Sub h = refl
binary_eq Mul Mul h = refl
binary_eq Div Div h = refl
binary_eq Min Min h = refl
binary_eq Max Max h = refl
binary_eq a b h = cc

op_eq : (a b : NodeOp) → (op-value).it a b ≡ true → a ≡ b
op_eq (Leaf a) (Leaf b) h = ap Leaf (leaf_eq a b h)
op_eq Neg Neg h = refl
op_eq (Binary a) (Binary b) h = ap Binary (binary_eq a b h)
op_eq (Pow k) (Pow l) h = ap Pow ((Decides-int_eq k l).0 h)
op_eq Pick Pick h = refl
op_eq a b h = cc

held_eq : (a b : Held) → (held-value).it a b ≡ true → a ≡ b
held_eq Zero Zero h = refl
held_eq (One xs) (One ys) h = ap One ((bytes_eq-Decides xs ys).0 h)
held_eq (Two xs) (Two ys) h = ap Two ((bytes_eq-Decides xs ys).0 h)
held_eq (Four xs) (Four ys) h = ap Four ((bytes_eq-Decides xs ys).0 h)
held_eq a b h = cc

listed-held_of : (xs : List ℕ) → listed (held_of xs) ≡ xs
listed-held_of [] = refl
listed-held_of (a ∷ []) = refl
listed-held_of (a ∷ b ∷ []) = refl
listed-held_of (a ∷ b ∷ c ∷ more) = refl

pub kids_eq : (a b : List ℕ) → (kids-value).it a b ≡ true → a ≡ b
kids_eq a b h = sym (listed-held_of a) ∙ ap listed (held_eq (held_of a) (held_of b) h) ∙ listed-held_of b

pub node_eq : (a b : Node) → (eq-value).it a b ≡ true → a ≡ b
node_eq a b h =
    let p = both ((op-value).it a.op b.op) ((kids-value).it a.kids b.kids) h in
    let e = op_eq a.op b.op p.0 in
    let f = kids_eq a.kids b.kids p.1 in
    λ i. record { op = e i; kids = f i }

-- ---- equal terms have equal numbers
leaf_shape : term.Leaf → LeafOp
leaf_shape (number m s) = Num m s
leaf_shape (parameter p) = Param (p + 1)
leaf_shape (variable (endogenous p) k) = Var (Endo (p + 1)) k
leaf_shape (variable (exogenous p) k) = Var (Exo (p + 1)) k
leaf_shape (steady_state p) = Anchor (p + 1)

binary_shape : term.Binary → BinaryOp
binary_shape plus = Add
binary_shape minus = Sub
binary_shape times = Mul
binary_shape quotient = Div
binary_shape least = Min
binary_shape greatest = Max

shape : Term → NodeOp
shape (leaf l) = Leaf (leaf_shape l)
shape (negative a) = Neg
shape (binary o a b) = Binary (binary_shape o)
shape (power_of a k) = Pow k
shape (pick a b c d) = Pick

parts : Term → List Term
parts (leaf l) = []
parts (negative a) = a ∷ []
parts (binary o a b) = a ∷ b ∷ []
parts (power_of a k) = a ∷ []
parts (pick a b c d) = a ∷ b ∷ c ∷ d ∷ []

-- a number from 1 follows its place
place-next : (n : ℕ) → 1 ≤ n → place_of n + 1 ≡ n
place-next zero h = absurd (omega arith)
place-next (suc n) h = grind (arith, common_steps)

module _ (names : Names) where
  shape-leaf : (l : LeafOp) → IsLawfulLeaf names l → leaf_shape (leaf_of l) ≡ l
  unfolding leaf_shape
  shape-leaf (Num m s) h = refl
  shape-leaf (Param n) h = ap Param (place-next n h.0)
  shape-leaf (Var (Endo n) k) h = ap (λ (m : ℕ). Var (Endo m) k) (place-next n h.0)
  shape-leaf (Var (Exo n) k) h = ap (λ (m : ℕ). Var (Exo m) k) (place-next n h.0)
  shape-leaf (Anchor n) h = ap Anchor (place-next n h.0)

  shape-binary : (o : BinaryOp) → binary_shape (binary_of o) ≡ o
  unfolding binary_shape
  shape-binary Add = refl
  shape-binary Sub = refl
  shape-binary Mul = refl
  shape-binary Div = refl
  shape-binary Min = refl
  shape-binary Max = refl

  shape-over : (ts : List Term) (op : NodeOp) (kids : List ℕ) → IsLawful names op → shape (over ts op kids) ≡ op
  unfolding shape
  shape-over ts (Leaf l) kids h = ap Leaf (shape-leaf l h)
  shape-over ts Neg kids h = refl
  shape-over ts (Binary o) kids h = ap Binary (shape-binary o)
  shape-over ts (Pow k) kids h = refl
  shape-over ts Pick kids h = refl

module _ (f : ℕ → Term) where
  no_parts : (kids : List ℕ) → length kids ≡ 0 → [] ≡ map f kids
  no_parts [] h = refl
  no_parts (a ∷ kids) h = absurd (omega arith)

  one_part : (kids : List ℕ) → length kids ≡ 1 → f (get_or kids 0 0) ∷ [] ≡ map f kids
  one_part [] h = absurd (omega arith)
  one_part (a ∷ kids) h = ap (λ ts. f a ∷ ts) (no_parts kids (omega arith))

  two_parts : (kids : List ℕ) → length kids ≡ 2 → f (get_or kids 0 0) ∷ f (get_or kids 1 0) ∷ [] ≡ map f kids
  two_parts [] h = absurd (omega arith)
  two_parts (a ∷ kids) h = ap (λ ts. f a ∷ ts) (one_part kids (omega arith))

  three_parts : (kids : List ℕ) → length kids ≡ 3 → f (get_or kids 0 0) ∷ f (get_or kids 1 0) ∷ f (get_or kids 2 0) ∷ [] ≡ map f kids
  three_parts [] h = absurd (omega arith)
  three_parts (a ∷ kids) h = ap (λ ts. f a ∷ ts) (two_parts kids (omega arith))

  four_parts : (kids : List ℕ) → length kids ≡ 4 → f (get_or kids 0 0) ∷ f (get_or kids 1 0) ∷ f (get_or kids 2 0) ∷ f (get_or kids 3 0) ∷ [] ≡ map f kids
  four_parts [] h = absurd (omega arith)
  four_parts (a ∷ kids) h = ap (λ ts. f a ∷ ts) (three_parts kids (omega arith))

parts-over : (ts : List Term) (op : NodeOp) (kids : List ℕ) → length kids ≡ arity op → parts (over ts op kids) ≡ map (term_at ts) kids
unfolding parts
parts-over ts (Leaf l) kids h = no_parts (term_at ts) kids h
parts-over ts Neg kids h = one_part (term_at ts) kids h
parts-over ts (Binary o) kids h = two_parts (term_at ts) kids h
parts-over ts (Pow k) kids h = one_part (term_at ts) kids h
parts-over ts Pick kids h = four_parts (term_at ts) kids h

all_below : (m n : ℕ) → m ≤ n → (ks : List ℕ) → AllByRecursion (λ k. k < m) ks → AllByRecursion (λ k. k < n) ks
all_below m n l [] h = tt
all_below m n l (k ∷ ks) h = (omega (arith, h.0), all_below m n l ks h.1)

map_same : (f : ℕ → Term) (m : ℕ) → ((a b : ℕ) → a < m → b < m → f a ≡ f b → a ≡ b)
    → (xs ys : List ℕ) → AllByRecursion (λ k. k < m) xs → AllByRecursion (λ k. k < m) ys → map f xs ≡ map f ys → xs ≡ ys
map_same f m ih [] [] h k e = refl
map_same f m ih [] (y ∷ ys) h k e = cc
map_same f m ih (x ∷ xs) [] h k e = cc
map_same f m ih (x ∷ xs) (y ∷ ys) h k e =
    let p = ih x y h.0 k.0 cc in
    let q = map_same f m ih xs ys h.1 k.1 cc in cc (p, q)

nodes_same : (names : Names) (ts : List Term) (m i j : ℕ) → ((a b : ℕ) → a < m → b < m → term_at ts a ≡ term_at ts b → a ≡ b) → i ≤ m → j ≤ m
    → (x y : Node) → FitsAt names i x → FitsAt names j y → over ts x.op x.kids ≡ over ts y.op y.kids → x ≡ y
nodes_same names ts m i j ih p q x y h k e =
    let f = sym (shape-over names ts x.op x.kids h.lawful) ∙ ap shape e ∙ shape-over names ts y.op y.kids k.lawful in
    let g =
    map_same (term_at ts) m ih x.kids y.kids (all_below i m p x.kids h.below) (all_below j m q y.kids k.below)
    (sym (parts-over ts x.op x.kids h.count) ∙ ap parts e ∙ parts-over ts y.op y.kids k.count) in
    λ t. record { op = f t; kids = g t }

abbrev pub Apart : List Node → Type 0
Apart ns = (i j : ℕ) (x : Node) → slice_get ns i ≡ Some x → slice_get ns j ≡ Some x → i ≡ j

places_below : (names : Names) (ns : List Node) → IsSound names ns → Apart ns → (m : ℕ) → m ≤ length ns
    → (i j : ℕ) → i < m → j < m → term_at (terms_of ns) i ≡ term_at (terms_of ns) j → i ≡ j
places_below names ns o d zero l i j p q e = absurd (omega arith)
places_below names ns o d (suc m) l i j p q e =
    let x = got ns i (omega arith) in
    let y = got ns j (omega arith) in
    let same : x.0 ≡ y.0 =
    nodes_same names (terms_of ns) m i j (places_below names ns o d m (omega arith)) (omega arith) (omega arith)
    x.0 y.0 (o i x.0 x.1) (o j y.0 y.1) (sym (node_term names ns o i x.0 x.1) ∙ e ∙ node_term names ns o j y.0 y.1) in
    d i j x.0 x.1 (y.1 ∙ ap Some (sym same))

get_is : (ns : List Node) (i : ℕ) (x d : Node) → slice_get ns i ≡ Some x → get_or ns i d ≡ x
get_is [] i x d h = cc
get_is (n ∷ ns) zero x d h = cc
get_is (n ∷ ns) (suc i) x d h = get_is ns i x d h

not_before : (ns : List Node) → IsDistinct (eq-value).it ns → (i j : ℕ) (x : Node) → slice_get ns i ≡ Some x → slice_get ns j ≡ Some x → i < j → ⊥
not_before ns u i j x g h l =
    let a = apart_from_distinct (eq-value).it ns i j x u l (get_at ns j x h) in
    let b : (eq-value).it x x ≡ false = subst (λ y. (eq-value).it x y ≡ false) (get_is ns j x x h) (subst (λ y. (eq-value).it y (get_or ns j x) ≡ false) (get_is ns i x x g) a) in
    true≢false (sym (laws-law.refl x) ∙ b)

pub apart : (ns : List Node) → IsDistinct (eq-value).it ns → Apart ns
apart ns u i j x g h = elim (cases_lt i j) [
  | inl p ↦ absurd (not_before ns u i j x g h p)
  | inr p ↦ elim (cases_lt j i) [
    | inl q ↦ absurd (not_before ns u j i x h g q)
    | inr q ↦ omega arith
  ]
]

pub each_once : (names : Names) (ns : List Node) → IsSound names ns → IsDistinct (eq-value).it ns → IsEachOnce (terms_of ns)
each_once names ns o u i j p q e =
    places_below names ns o (apart ns u) (length ns) (omega arith) i j (omega (arith, length-terms_of ns)) (omega (arith, length-terms_of ns)) e
