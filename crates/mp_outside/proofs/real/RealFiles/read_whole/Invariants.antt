use Rattle.std.proofs.Common.{◌≡◌, ◌+◌, ◌-◌, ◌≤◌, length}
use Rattle.std.specs.Io.KnownBytes.{Consumes}
use Rattle.mp_outside.proofs.real.RealFiles.read_whole.Given as goal

abbrev pub invariant-pieces : goal.invariant-pieces
invariant-pieces g l =
    record {
      within : length l.into ≤ l.limit;
      read : Consumes (g.R.Read.remaining l.fn.reader) (g.R.Read.remaining l.reader) l.into;
      faults : l.self.faults ≡ l.fn.self.faults;
      absents : l.self.absents ≡ l.fn.self.absents;
      took : l.self.took ≡ 0;
    }

abbrev pub decreases-pieces : goal.decreases-pieces
decreases-pieces g l = l.limit + 1 - length l.into
