-- The parts of a node.
use Rattle.std.proofs.Common.{◌≡◌, List, sym, ap, ◌∙◌}
use Rattle.mp_directive.specs.Tree as t
use Rattle.mp_directive.specs.Shown.{node_before, nodes_of, branches_of}
use Rattle.mp_directive.specs.declared.tree.Node.{Node}
use Rattle.mp_directive.specs.declared.tree.Node.TheVariants as n
use Rattle.mp_directive.specs.declared.tree.Branch.{Branch}
use Rattle.mp_directive.specs.declared.tree.Head.{Head}
use Rattle.mp_directive.proofs.Trees.{Choice-is, Loop-is}

pub choice-of : (node : Node) (branches slice : List Branch) → node ≡ n.Choice branches → slice ≡ branches → node_before node t.Done ≡ t.Then (t.Choice (branches_of slice)) t.Done
choice-of node branches slice is same =
    ap (λ x. node_before x t.Done) is ∙ Choice-is branches t.Done ∙ ap (λ b. t.Then (t.Choice (branches_of b)) t.Done) (sym same)

pub loop-of : (node : Node) (head : Head) (body slice : List Node) → node ≡ n.Loop head body → slice ≡ body → node_before node t.Done ≡ t.Then (t.Loop head.line head.name.now head.array.now (nodes_of slice)) t.Done
loop-of node head body slice is same =
    ap (λ x. node_before x t.Done) is ∙ Loop-is head body t.Done ∙ ap (λ b. t.Then (t.Loop head.line head.name.now head.array.now (nodes_of b)) t.Done) (sym same)
