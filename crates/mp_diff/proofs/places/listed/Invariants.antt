use Rattle.std.proofs.Common.{◌≡◌, ◌++◌, length}
use Rattle.mp_diff.proofs.places.listed.Given as goal

abbrev pub invariant-places : goal.invariant-places
invariant-places l = l.list.items ++ l.rest.keys ≡ l.fn.found.keys

abbrev pub decreases-places : goal.decreases-places
decreases-places l = length l.rest.keys
