use Rattle.std.proofs.Common.{◌≡◌, option_map, to_z, of_z, sym, ◌∙◌}
use Rattle.std.specs.Int.{w128}
use Rattle.std.proofs.lemmas.Int.{to_z-of_z}
use Rattle.mp_file.specs.Shown as shown
use Rattle.mp_values.specs.Names.{shift_of}
use Rattle.mp_local.proofs.KnownLaws.{own_local, own_variable, own_nothing}
use Rattle.mp_local.proofs.known.Known.own_ends.Goals as goal

pub returns-in-Some : goal.returns-in-Some
returns-in-Some c s knows =
    own_local c.args.self.now s knows c.args.name.now (s.counts c.args.name.now) (shift_of (option_map shown.shift_of c.args.shift.now)) c.in-Some.ends c.in-Some.ensures

pub returns-then-counts : goal.returns-then-counts
returns-then-counts c s knows =
    let name = c.args.name.now in
    let fits : to_z w128 (of_z w128 c.periods.result) ≡ c.periods.result = to_z-of_z w128 c.periods.result (record { sfits = c.periods.type_inv }) in
    own_variable c.args.self.now s knows name (s.counts name) (shift_of (option_map shown.shift_of c.args.shift.now)) c.alone.result c.in_default.ensures (knows.counts name ∙ sym c.if-counts.ensures)
    (c.alone.ensures.least ∙ fits ∙ c.periods.ensures)
    (c.alone.ensures.greatest ∙ fits ∙ c.periods.ensures)

pub returns-else-counts : goal.returns-else-counts
returns-else-counts c s knows =
    let name = c.args.name.now in
    own_nothing c.args.self.now s knows name (s.counts name) (shift_of (option_map shown.shift_of c.args.shift.now)) c.in_default.ensures (knows.counts name ∙ sym c.if-counts.ensures)
