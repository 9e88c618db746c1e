-- When there is no room for a name: numbers from 1 are of 32 bits, and one is kept free.
use Rattle.std.specs.Prelude.{◌≡◌, ℕ, ◌+◌, ◌^◌, List, length, false, None}
use Rattle.std.specs.List.{list_any}
use Rattle.std.specs.Str.{bytes_eq}
use Rattle.mp_statements.specs.declared.kind.NameKind.{NameKind}
use Rattle.mp_values.specs.Names.{Names}
use Rattle.mp_names.specs.Named.{of_kind, kind_in}

-- there are 2^32 - 2 names, and this one is new
abbrev pub IsFull : List (List ℕ) → List ℕ → Type 0
IsFull names name = (length names + 2 ≡ 2 ^ 32) × (list_any (bytes_eq name) names ≡ false)

-- there are 2^32 - 2 names of this kind, and this one is new under any kind
abbrev pub IsFullOf : NameKind → Names → List ℕ → Type 0
IsFullOf kind ns name = (length (of_kind kind ns) + 2 ≡ 2 ^ 32) × (kind_in ns name ≡ None)
