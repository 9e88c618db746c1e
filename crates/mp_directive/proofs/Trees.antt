-- Lists and rows of nodes, and the stack of open groups.
use Rattle.std.proofs.Common.{◌≡◌, ℕ, ◌-◌, List, [], ◌∷◌, ◌++◌, refl, sym, ap, ◌∙◌, rules}
use Rattle.mp_directive.specs.Lines.{lines}
use Rattle.mp_directive.proofs.Joined.{joined-joined, run-joined}
use Rattle.mp_directive.specs.Directives as d
use Rattle.mp_directive.specs.Tree as t
use Rattle.mp_directive.specs.Shown.{condition_of, node_before, nodes_in, nodes_of, branch_of, branches_in, branches_of}
use Rattle.mp_directive.specs.declared.tree.Node.{Node, Run, Included, Choice', Loop', Row_of-Branch, end_of-Branch, more_of-Branch, items-the_row-Branch, Row_of-Node, end_of-Node, more_of-Node, items-the_row-Node}
use Rattle.mp_directive.specs.declared.tree.Branch.{Branch, When', Otherwise'}
use Rattle.mp_directive.specs.declared.tree.Node.TheVariants as n
use Rattle.mp_directive.specs.declared.tree.Branch.TheVariants as b
use Rattle.mp_directive.specs.declared.tree.Branch.TheViews.{the_lemmas}
use Rattle.mp_directive.specs.declared.tree.Head.{Head}
use Rattle.mp_directive.specs.declared.content.Condition.{Condition}

pub nodes-row : (n : _) (row : Row_of-Node n) → nodes_in row ≡ nodes_of (items-the_row-Node n row)
nodes-row _ end_of-Node = refl
nodes-row _ (more_of-Node x rest) = ap (node_before x) (nodes-row _ rest)

pub branches-row : (n : _) (row : Row_of-Branch n) → branches_in row ≡ branches_of (items-the_row-Branch n row)
branches-row _ end_of-Branch = refl
branches-row _ (more_of-Branch x rest) = ap (branch_of x) (branches-row _ rest)

-- a node of the code before further nodes
node-joined : (x : Node) (ms : t.Nodes) → t.joined (node_before x t.Done) ms ≡ node_before x ms
node-joined (Run first end text) ms = run-joined first (end - first) (lines text.now) ms
node-joined (Included line expr) ms = refl
node-joined (Choice' shape row) ms = refl
node-joined (Loop' head shape row) ms = refl

pub nodes-first : (x : Node) (xs : List Node) → nodes_of (x ∷ xs) ≡ t.joined (node_before x t.Done) (nodes_of xs)
nodes-first x xs = sym (node-joined x (nodes_of xs))

pub nodes-push : (xs : List Node) (x : Node) → nodes_of (xs ++ x ∷ []) ≡ t.joined (nodes_of xs) (node_before x t.Done)
nodes-push [] x = refl
nodes-push (y ∷ ys) x =
    ap (node_before y) (nodes-push ys x) ∙ sym (node-joined y (t.joined (nodes_of ys) (node_before x t.Done)))
    ∙ sym (joined-joined (node_before y t.Done) (nodes_of ys) (node_before x t.Done))
    ∙ ap (λ l. t.joined l (node_before x t.Done)) (node-joined y (nodes_of ys))

-- a branch at the end, by its parts
pub branches-push : (xs : List Branch) (x : Branch) (line : ℕ) (c : d.Condition) (body : t.Nodes) → ((more : t.Branches) → branch_of x more ≡ t.Branch line c body more) → branches_of (xs ++ x ∷ []) ≡ t.with_branch (branches_of xs) line c body
branches-push [] x line c body e = e t.NoBranch
branches-push (Otherwise' l n row ∷ ys) x line c body e = ap (λ m. t.Branch l d.Otherwise (nodes_in row) m) (branches-push ys x line c body e)
branches-push (When' l k n row ∷ ys) x line c body e = ap (λ m. t.Branch l (condition_of k) (nodes_in row) m) (branches-push ys x line c body e)

pub When-is : (line : ℕ) (c : Condition) (body : List Node) (more : t.Branches) → branch_of (b.When line c body) more ≡ t.Branch line (condition_of c) (nodes_of body) more
When-is line c body more = search (rules, the_lemmas, nodes-row)

pub Otherwise-is : (line : ℕ) (body : List Node) (more : t.Branches) → branch_of (b.Otherwise line body) more ≡ t.Branch line d.Otherwise (nodes_of body) more
Otherwise-is line body more = search (rules, the_lemmas, nodes-row)

pub Choice-is : (branches : List Branch) (more : t.Nodes) → node_before (n.Choice branches) more ≡ t.Then (t.Choice (branches_of branches)) more
Choice-is branches more = search (rules, the_lemmas, branches-row)

pub Loop-is : (head : Head) (body : List Node) (more : t.Nodes) → node_before (n.Loop head body) more ≡ t.Then (t.Loop head.line head.name.now head.array.now (nodes_of body)) more
Loop-is head body more = search (rules, the_lemmas, nodes-row)
