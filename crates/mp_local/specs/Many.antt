-- How many names of each kind there may still be.
use Rattle.std.specs.Prelude.{◌≡◌, ◌+◌, ℕ, List, ◌++◌, Option, Some, None}
use Rattle.mp_statements.specs.declared.kind.NameKind.{NameKind}
use Rattle.mp_statements.specs.declared.kind.NameKind.TheVariants as kind
use Rattle.mp_syntax.specs.Syntax.{Named}
use Rattle.mp_declared.specs.Many.{most_names, count_kind, first_beyond}
use Rattle.mp_file.specs.Shown.{named_of}
use Rattle.mp_local.specs.declared.many.Beyond.{Beyond}
use Rattle.mp_local.specs.declared.many.Room.{Room}

abbrev pub room_for : NameKind → Room → ℕ
room_for kind.Endogenous room = room.endogenous
room_for kind.Exogenous room = room.exogenous
room_for kind.Parameter room = room.parameters

abbrev pub beyond_of : Beyond → NameKind × Named
beyond_of x = (x.kind, named_of x.name)

-- these names take all room that is not left
abbrev pub Leaves : Room → List (NameKind × Named) → Type 0
Leaves room before = (k : NameKind) → room_for k room + count_kind k before ≡ most_names k

-- after the names before, which leave this room, these leave the other room; or this is the first one beyond it
abbrev pub Passes : List (NameKind × Named) → Room → List (NameKind × Named) → Room → Option Beyond → Type 0
Passes before room xs left None = Leaves room before → (first_beyond before xs ≡ None) × Leaves left (before ++ xs)
Passes before room xs left (Some y) = Leaves room before → first_beyond before xs ≡ Some (beyond_of y)
