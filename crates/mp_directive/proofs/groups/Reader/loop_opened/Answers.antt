use Rattle.std.proofs.Common.{arith, refl, ◌∙◌}
use Rattle.mp_directive.specs.Shown.{nodes_of}
use Rattle.mp_directive.specs.Groups.{OpenLoop}
use Rattle.mp_directive.proofs.Stacks.{opens}
use Rattle.mp_directive.proofs.groups.Reader.loop_opened.Goals as goal

pub returns : goal.returns
returns c =
    opens c.args.self.groups c.groups-2.inside.items.items _ (OpenLoop (nodes_of c.args.self.nodes) c.args.head.line c.args.head.name.now c.args.head.array.now) c.in_ok-short_list.field-0 (omega (arith, c.len.ensures)) (c.groups-2.view_is ∙ c.in_ok-push.ensures.ok) refl c.in_ok-short_list.ensures
