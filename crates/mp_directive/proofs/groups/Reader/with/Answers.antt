use Rattle.std.proofs.Common.{ap, ◌∙◌}
use Rattle.mp_directive.specs.Shown.{nodes_of}
use Rattle.mp_directive.specs.Gives.{stack_of}
use Rattle.mp_directive.proofs.Trees.{nodes-push}
use Rattle.mp_directive.proofs.groups.Reader.with.Goals as goal

pub returns : goal.returns
returns c =
    ap (λ ns. record { groups = stack_of c.args.self.groups; nodes = ns }) (ap nodes_of c.in_ok-push.ensures.ok ∙ nodes-push c.args.self.nodes c.args.node)
