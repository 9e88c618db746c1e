use Rattle.std.proofs.Common.{arith, ap, ◌∙◌}
use Rattle.mp_directive.specs.Shown.{condition_of, nodes_of, branches_of}
use Rattle.mp_directive.specs.Tree.{NoBranch}
use Rattle.mp_directive.specs.Groups.{OpenChoice}
use Rattle.mp_directive.proofs.Stacks.{opens}
use Rattle.mp_directive.proofs.groups.Reader.choice_opened.Goals as goal

pub returns : goal.returns
returns c =
    opens c.args.self.groups c.groups-2.inside.items.items _ (OpenChoice (nodes_of c.args.self.nodes) c.args.line NoBranch c.args.line (condition_of c.args.condition)) c.in_ok-short_list-2.field-0 (omega (arith, c.len.ensures)) (c.groups-2.view_is ∙ c.in_ok-push.ensures.ok) (ap (λ ns. OpenChoice (nodes_of ns) c.args.line (branches_of c.in_ok-short_list.field-0) c.args.line (condition_of c.args.condition)) c.nodes-2.view_is ∙ ap (λ bs. OpenChoice (nodes_of c.args.self.nodes) c.args.line (branches_of bs) c.args.line (condition_of c.args.condition)) c.in_ok-short_list.ensures) c.in_ok-short_list-2.ensures
