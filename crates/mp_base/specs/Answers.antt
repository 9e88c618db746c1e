-- What a call answers: what a definition gives, its refusal, or that there was no memory.
use Rattle.std.specs.Prelude.{◌≡◌, Option, Some, None, Result, Ok, Err}

-- the refusal that a fault tells is the one that is given; want of memory tells none, and is free
abbrev pub Refuses : {Y R : Type 0} → Option R → Result Y R → Type 0
Refuses None given = Unit {0}
Refuses (Some refusal) given = given ≡ Err refusal

-- what was returned, seen by view, is what is given, or its refusal, which the fault tells
abbrev pub Gives : {X Y E R : Type 0} → (X → Y) → (E → Option R) → Result X E → Result Y R → Type 0
Gives view told (Ok x) given = given ≡ Ok (view x)
Gives view told (Err fault) given = Refuses (told fault) given
