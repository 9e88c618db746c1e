use Rattle.std.proofs.Common.{◌≡◌, [], map, take}
use Rattle.mp_diff.specs.Places.{place_shown, with_nodes}
use Rattle.mp_diff.proofs.places.noted.Given as goal

abbrev pub invariant-ids : goal.invariant-ids
invariant-ids l = map place_shown l.found.keys ≡ with_nodes l.graph.terms [] (take l.id-index l.ids)
