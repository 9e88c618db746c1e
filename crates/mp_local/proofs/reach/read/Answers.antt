use Rattle.std.proofs.Common.{option_map, refl}
use Rattle.mp_file.specs.Shown.{named_of, shift_of}
use Rattle.mp_values.specs.Names as v
use Rattle.mp_values.specs.Shifts.{Reading, own_shifts}
use Rattle.mp_local.proofs.ReachLaws.{reaches_nothing, reaches_near, reaches_far}
use Rattle.mp_local.proofs.reach.read.Goals as goal

pub returns-in_default : goal.returns-in_default
returns-in_default c d s is_depth knows =
    let r : Reading = record { name = named_of c.args.name; shift = option_map shift_of c.args.shift; depth = d } in
    reaches_nothing c.args.known.now.limit s r (own_shifts s.locals (s.counts r.name.name) r.name.name (v.shift_of r.shift)) refl (c.in_default.ensures s knows)

pub returns-in-Ok : goal.returns-in-Ok
returns-in-Ok c d s is_depth knows =
    let r : Reading = record { name = named_of c.args.name; shift = option_map shift_of c.args.shift; depth = d } in
    reaches_near c.args.known.now.limit s r c.in-Ok.ends (c.in-Ok.ensures d (own_shifts s.locals (s.counts r.name.name) r.name.name (v.shift_of r.shift)) is_depth (c.in-Some.ensures s knows))

pub returns-in-Err : goal.returns-in-Err
returns-in-Err c d s is_depth knows =
    let r : Reading = record { name = named_of c.args.name; shift = option_map shift_of c.args.shift; depth = d } in
    reaches_far c.args.known.now.limit s r (record { name = c.args.name; greatest = c.in-Err.greatest }) refl (c.in-Err.ensures d (own_shifts s.locals (s.counts r.name.name) r.name.name (v.shift_of r.shift)) is_depth (c.in-Some.ensures s knows))
