use Rattle.std.proofs.Common.{sym, ap, ◌∙◌}
use Rattle.mp_directive.specs.Tree as t
use Rattle.mp_directive.specs.Shown.{condition_of, nodes_of}
use Rattle.mp_directive.proofs.Trees.{When-is, Otherwise-is}
use Rattle.mp_directive.proofs.groups.branch_with.Goals as goal

pub returns-in-Otherwise : goal.returns-in-Otherwise
returns-in-Otherwise c = λ more.
    Otherwise-is c.args.line c.args.body more ∙ ap (λ k. t.Branch c.args.line (condition_of k) (nodes_of c.args.body) more) (sym c.in-Otherwise.is)

pub returns-in_default : goal.returns-in_default
returns-in_default c = λ more. When-is c.args.line c.args.condition c.args.body more
