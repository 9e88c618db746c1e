use Rattle.std.proofs.Common.{Ok, sym, ap, ◌∙◌}
use Rattle.mp_directive.specs.Shown.{condition_of, nodes_of, branches_of}
use Rattle.mp_directive.proofs.Trees.{branches-push}
use Rattle.mp_directive.proofs.groups.with_branch.Goals as goal

pub returns : goal.returns
returns c =
    ap (λ bs. Ok bs) (sym (ap branches_of c.in_ok-push.ensures.ok ∙ branches-push c.args.finished c.branch_with.result c.args.line (condition_of c.args.condition) (nodes_of c.args.body) c.branch_with.ensures))
