-- How real files and streams are seen: the rest of a run knows their counts, and nothing of contents.
use Rattle.std.specs.Prelude.{◌≡◌, ℕ, ◌<◌, List, length, Option, None, IfSome}
use Rattle.std.specs.Io.KnownBytes.{Appends, Keeps}
use Rattle.std.specs.Prelude.{take}
use Rattle.std.specs.declared.io.ErrorKind.{ErrorKind}
use Rattle.std.specs.declared.io.ErrorKind.TheVariants.{NotFound, OutOfMemory}
use Rattle.mp_outside.specs.Outside.{Outside, Held}
use Rattle.mp_outside.specs.declared.fetched.Fetched.{Fetched}
use Rattle.mp_outside.specs.declared.fetched.Fetched.TheVariants.{Got, Absent, ReadFault, TooLong, NoMemory}
use Rattle.mp_outside.specs.declared.fetched.Put.{Put}
use Rattle.mp_outside.specs.declared.fetched.Put.TheVariants.{Took, WriteFault}
use Rattle.mp_outside.specs.declared.real.RealFiles.{RealFiles}
use Rattle.mp_outside.specs.declared.real.RealSink.{RealSink}

abbrev pub seen : RealFiles → Outside
seen f = record { listing = None; faults = f.faults; absents = f.absents; took = f.took }

abbrev pub held_by : {W : Type 0} → RealSink W → Held
held_by s = record { taken = None; faults = s.faults }

abbrev pub writer_of : {W : Type 0} → RealSink W → W
writer_of s = s.writer

-- the answer where a file cannot be opened
abbrev pub refusal : ErrorKind → Fetched
refusal NotFound = Absent
refusal OutOfMemory = NoMemory
refusal _ = ReadFault

-- an answer under which no byte was taken
abbrev pub TakesNothing : Fetched → Type 0
TakesNothing Got = ⊥
TakesNothing TooLong = ⊥
TakesNothing _ = Unit {0}

-- a fetch from a reader with these bytes left, where they are known: all of them, or they are too many
abbrev pub Reads : Option (List ℕ) → ℕ → List ℕ → Fetched → Type 0
Reads remaining limit into Got = IfSome remaining (λ bytes. into ≡ bytes)
Reads remaining limit into TooLong = IfSome remaining (λ bytes. limit < length bytes)
Reads remaining limit into Absent = ⊥
Reads remaining limit into ReadFault = Unit {0}
Reads remaining limit into NoMemory = Unit {0}

-- a put into a writer that holds these bytes, where they are known: it holds what was taken, too
abbrev pub PutTakes : Option (List ℕ) → Option (List ℕ) → List ℕ → Put → Type 0
PutTakes old new bytes (Took n) = Appends old new (take n bytes)
PutTakes old new bytes WriteFault = Keeps old new
