-- A line makes a tree heavier by one at most.
use Rattle.std.proofs.Common.{◌≡◌, ℕ, zero, suc, ◌+◌, ◌≤◌, List, [], ◌∷◌, length, Result, Ok, Err, Bool, true, false, nat_lt, refl, ap, subst, arith}
use Rattle.mp_base.specs.declared.kinds.MacroKind.{MacroKind}
use Rattle.mp_directive.specs.Directives as d
use Rattle.mp_directive.specs.Tree.{Nodes, Done, Then, Node, Branches, NoBranch, Branch, Simple, Included, Choice, Loop, with_node, with_branch, joined, line_before, run_before, weight, nodes_weight, branches_weight}
use Rattle.mp_directive.specs.Groups.{Group, OpenChoice, OpenLoop, Reading, opened, further, choice_ended, loop_ended, after_line, is_otherwise, whole}

-- without the choice or loop itself, which is counted at its end
abbrev pub group_weight : Group → ℕ
group_weight (OpenChoice outer opener finished line c) = nodes_weight outer + branches_weight finished + 1
group_weight (OpenLoop outer opener name array) = nodes_weight outer

abbrev pub groups_weight : List Group → ℕ
groups_weight [] = 0
groups_weight (g ∷ gs) = group_weight g + groups_weight gs

abbrev pub reading_weight : Reading → ℕ
reading_weight r = groups_weight r.groups + nodes_weight r.nodes

weight-with_node : (ns : Nodes) (n : Node) → nodes_weight (with_node ns n) ≡ nodes_weight ns + weight n
weight-with_node Done n = omega arith
weight-with_node (Then m ns) n = omega (arith, weight-with_node ns n)

weight-with_branch : (bs : Branches) (line : ℕ) (c : d.Condition) (body : Nodes) → branches_weight (with_branch bs line c body) ≡ branches_weight bs + 1 + nodes_weight body
weight-with_branch NoBranch line c body = omega arith
weight-with_branch (Branch l k b more) line c body = omega (arith, weight-with_branch more line c body)

abbrev pub Grows : Reading → Result Reading MacroKind → Type 0
Grows r (Ok r') = reading_weight r' ≤ reading_weight r + 1
Grows r (Err kind) = Unit {0}

opens-grows : (g : Group) (gs : List Group) (ns : Nodes) → group_weight g ≤ nodes_weight ns + 1 → Grows (record { groups = gs; nodes = ns }) (opened g gs)
opens-grows g gs ns h = by (nat_lt (length gs) 100) refl
  where
    by : (b : Bool) → nat_lt (length gs) 100 ≡ b → Grows (record { groups = gs; nodes = ns }) (opened g gs)
    by true e = rw e (omega arith)
    by false e = rw e tt

further-grows : (line : ℕ) (c : d.Condition) (ns : Nodes) (gs : List Group) → Grows (record { groups = gs; nodes = ns }) (further line c ns gs)
further-grows line c ns [] = tt
further-grows line c ns (OpenLoop outer opener name array ∷ gs) = tt
further-grows line c ns (OpenChoice outer opener finished l was ∷ gs) = by (is_otherwise was) refl
  where
    by : (b : Bool) → is_otherwise was ≡ b → Grows (record { groups = OpenChoice outer opener finished l was ∷ gs; nodes = ns }) (further line c ns (OpenChoice outer opener finished l was ∷ gs))
    by true e = rw e tt
    by false e = rw e (omega (arith, weight-with_branch finished l was ns))

choice_ended-grows : (ns : Nodes) (gs : List Group) → Grows (record { groups = gs; nodes = ns }) (choice_ended ns gs)
choice_ended-grows ns [] = tt
choice_ended-grows ns (OpenLoop outer opener name array ∷ gs) = tt
choice_ended-grows ns (OpenChoice outer opener finished l was ∷ gs) = omega (arith, weight-with_branch finished l was ns, weight-with_node outer (Choice (with_branch finished l was ns)))

loop_ended-grows : (ns : Nodes) (gs : List Group) → Grows (record { groups = gs; nodes = ns }) (loop_ended ns gs)
loop_ended-grows ns [] = tt
loop_ended-grows ns (OpenChoice outer opener finished l was ∷ gs) = tt
loop_ended-grows ns (OpenLoop outer opener name array ∷ gs) = omega (arith, weight-with_node outer (Loop opener name array ns))

line-grows : (line : ℕ) (c : d.Content) (r : Reading) → Grows r (after_line line c r)
line-grows line (d.Alone s) r = omega (arith, weight-with_node r.nodes (Simple line s))
line-grows line (d.Include e) r = omega (arith, weight-with_node r.nodes (Included line e))
line-grows line (d.If c) r = opens-grows _ r.groups r.nodes (omega arith)
line-grows line (d.Further c) r = further-grows line c r.nodes r.groups
line-grows line d.EndIf r = choice_ended-grows r.nodes r.groups
line-grows line (d.For name array) r = opens-grows _ r.groups r.nodes (omega arith)
line-grows line d.EndFor r = loop_ended-grows r.nodes r.groups
line-grows line d.IllFormed r = tt

pub line-grows-by : (line : ℕ) (c : d.Content) (r s : Reading) → after_line line c r ≡ Ok s → reading_weight s ≤ reading_weight r + 1
line-grows-by line c r s e = subst (Grows r) e (line-grows line c r)

whole-by : (gs : List Group) (m ns : Nodes) → whole (record { groups = gs; nodes = m }) ≡ Ok ns → nodes_weight ns ≤ groups_weight gs + nodes_weight m
whole-by [] m ns e = let same : m ≡ ns = cc in omega (arith, ap nodes_weight same)
whole-by (g ∷ gs) m ns e = cc

pub whole-weight : (r : Reading) (ns : Nodes) → whole r ≡ Ok ns → nodes_weight ns ≤ reading_weight r
whole-weight r ns e = whole-by r.groups r.nodes ns e

line-weight : (line : ℕ) (c : d.Content) (ns : Nodes) → nodes_weight (line_before line c ns) ≤ nodes_weight ns + 1
line-weight line (d.Alone s) ns = omega arith
line-weight line (d.Include e) ns = omega arith
line-weight line (d.If c) ns = omega arith
line-weight line (d.Further c) ns = omega arith
line-weight line d.EndIf ns = omega arith
line-weight line (d.For name array) ns = omega arith
line-weight line d.EndFor ns = omega arith
line-weight line d.IllFormed ns = omega arith

run-weight : (line n : ℕ) (ls : List (List ℕ)) → nodes_weight (run_before line n ls Done) ≤ n
run-weight line zero ls = omega arith
run-weight line (suc n) [] = omega arith
run-weight line (suc n) (l ∷ ls) = omega (arith, run-weight (line + 1) n ls, line-weight line (d.content_of l) (run_before (line + 1) n ls Done))

pub joined-weight : (ns ms : Nodes) → nodes_weight (joined ns ms) ≡ nodes_weight ns + nodes_weight ms
joined-weight Done ms = omega arith
joined-weight (Then n ns) ms = omega (arith, joined-weight ns ms)

-- a run makes a tree heavier by its lines at most
pub run-grows : (line n : ℕ) (ls : List (List ℕ)) (r s : Reading) → s ≡ record { groups = r.groups; nodes = joined r.nodes (run_before line n ls Done) } → reading_weight s ≤ reading_weight r + n
run-grows line n ls r s e =
    omega (arith, ap reading_weight e, joined-weight r.nodes (run_before line n ls Done), run-weight line n ls)
