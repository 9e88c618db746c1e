use Rattle.std.proofs.Common.{◌≡◌, ap}
use Rattle.mp_directive.specs.Tree.{NoBranch, with_branch}
use Rattle.mp_directive.specs.Shown.{condition_of, nodes_of, branches_of}
use Rattle.mp_directive.proofs.Stacks.{choice-ends, from_ok}
use Rattle.mp_directive.proofs.groups.Reader.choice_ended.Goals as goal

pub returns : goal.returns
returns c =
    let popped = rw c.in-Some-Choice.field-0-is at c.in-Some-Choice.ensures in
    let made : with_branch (branches_of c.in-Some-Choice.finished) c.in-Some-Choice.line (condition_of c.in-Some-Choice.condition) (nodes_of c.args.self.nodes) ≡ branches_of c.in_ok-branches.branches = ap (from_ok NoBranch) c.in_ok-branches.ensures in
    choice-ends c.args.self.groups c.pop.new.self c.in-Some-Choice.outer c.args.self.nodes c.push.new.self _ c.in-Some-Choice.line c.in-Some-Choice.finished c.in_ok-branches.branches c.in-Some-Choice.condition popped made c.in_ok-push.ensures.ok
