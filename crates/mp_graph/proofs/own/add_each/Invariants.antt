use Rattle.std.proofs.Common.{take}
use Rattle.mp_graph.specs.Own.{AddsEach}
use Rattle.mp_graph.proofs.own.add_each.Given as goal

abbrev pub invariant-kids : goal.invariant-kids
invariant-kids l = AddsEach (take l.kid-index l.kids) l.initial.pending.keys l.pending.keys
