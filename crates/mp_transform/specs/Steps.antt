-- Steps of a run: each gives what the next one needs, or the refusal that ends the run.
use Rattle.std.specs.Prelude.{◌≡◌, ℕ, pos, Result, Ok, Err}
use Rattle.mp_base.specs.declared.refusal.Refusal.{Refusal}
use Rattle.mp_base.specs.declared.refusal.Refusal.TheVariants as o
use Rattle.mp_base.specs.declared.fraction.Ratio.{Ratio}

abbrev pub Step : Type 0 → Type 0
Step X = Result X Refusal

-- the next step, where this one gave something
abbrev pub and_then : {X Y : Type 0} → Step X → (X → Step Y) → Step Y
and_then (Ok x) next = next x
and_then (Err refusal) next = Err refusal

-- a whole number as a fraction
abbrev pub whole : ℕ → Ratio
whole n = record { n = pos n; d = pos 1 }

-- what a step of the code refused is what the definition refuses; want of memory may come at any time
abbrev pub Refuses : {X : Type 0} → Step X → Refusal → Type 0
Refuses gives o.NoMemory = Unit {0}
Refuses gives (o.ReadFault count) = ⊥
Refuses gives (o.WriteFault count) = ⊥
Refuses gives refusal = gives ≡ Err refusal

-- what a step of the code gave, seen by view, is what the definition gives
abbrev pub Says : {X Y : Type 0} → (X → Y) → Step Y → Result X Refusal → Type 0
Says view gives (Ok x) = gives ≡ Ok (view x)
Says view gives (Err refusal) = Refuses gives refusal

-- a refusal of a text is of its tokens, its grammar, what it declares or its numbers
abbrev pub TextShows : Refusal → Type 0
TextShows (o.Text kind at token) = Unit {0}
TextShows (o.Declared kind name at) = Unit {0}
TextShows (o.Data refused) = Unit {0}
TextShows o.NoMemory = Unit {0}
TextShows _ = ⊥
