-- What the code's answers stand for.
use Rattle.std.specs.Prelude.{◌≡◌, List, Option, Some, None, Result, Ok, Err}
use Rattle.mp_mexpr.specs.declared.reader.Unread.{Unread}
use Rattle.mp_mexpr.specs.declared.reader.Unread.TheVariants as u
use Rattle.mp_mexpr.specs.Tokens.{Tok}

-- what was read, and the tokens after it; or nothing, unless there was no memory
abbrev pub Reads : {X Y : Type 0} → (Y → X × List Tok) → Result Y Unread → Option (X × List Tok) → Type 0
Reads view (Ok x) read = read ≡ Some (view x)
Reads view (Err u.Wrong) read = read ≡ None
Reads view (Err u.NoMemory) read = Unit {0}

-- what begins, seen by view, or nothing
abbrev pub Begins : {X Y : Type 0} → (Y → X) → Option Y → Option X → Type 0
Begins view (Some x) begun = begun ≡ Some (view x)
Begins view None begun = begun ≡ None
