-- The model of a file within the limits of models, or its first refusal: of a name too many, of a shift too far, of its numbers and names, of a side too high, of sides too large (modpath's own).
use Rattle.std.specs.Prelude.{ℕ, pos, ◌^◌, min, nat_le, length, if◌then◌else◌, List, Option, Some, None, option_map, Ok, Err}
use Rattle.mp_base.specs.declared.kinds.DataKind.{DataKind}
use Rattle.mp_base.specs.declared.kinds.DataKind.TheVariants as d
use Rattle.mp_rational.specs.Fraction.{whole}
use Rattle.mp_statements.specs.declared.kind.NameKind.{NameKind}
use Rattle.mp_syntax.specs.Syntax.{Named}
use Rattle.mp_statements.specs.Statements.{Statement}
use Rattle.mp_statements.specs.Parts as parts
use Rattle.mp_statements.specs.Parts.{items_of}
use Rattle.mp_declared.specs.Many.{most_names, name_beyond}
use Rattle.mp_semantics.specs.Model as m
use Rattle.mp_values.specs.Names.{names_of, is_variable}
use Rattle.mp_values.specs.Limits.{Stuck, Refused, Folded, ◌>>=◌}
use Rattle.mp_values.specs.ModelOf.{model_given}
use Rattle.mp_values.specs.Shifts.{FarName, far_name, no_locals}
use Rattle.mp_local.specs.Sizes.{greatest_height, operations}

-- nothing, or the refusal, if there is one
abbrev pub tested : Option Stuck → Folded (Unit {0})
tested None = Ok tt
tested (Some e) = Err e

-- at the name too many, how many of its kind the text declares, and how many it may
abbrev pub many_refused : List Statement → NameKind × Named → Stuck
many_refused file x = Refused d.ManyNames x.1.at (whole (pos (length (parts.names_of x.0 file)))) (whole (pos (most_names x.0)))

abbrev pub names_refusal : List Statement → Option Stuck
names_refusal file = option_map (many_refused file) (name_beyond file)

-- at the name, the greatest shift either way that comes from it, and 24
abbrev pub shift_refused : FarName → Stuck
shift_refused x = Refused d.ShiftFar x.name.at (whole (pos x.greatest)) (whole (pos 24))

-- where a far name is told so
abbrev pub shifts_refusal : (FarName → FarName) → List Statement → Option Stuck
shifts_refusal told file =
    option_map (λ x. shift_refused (told x)) (far_name 24 (no_locals (is_variable (names_of file))) (items_of file))

-- at 0, the counted number, and the limit that it is over
abbrev pub over_limit : DataKind → ℕ → ℕ → Option Stuck
over_limit kind number limit = if nat_le number limit then None else Some (Refused kind 0 (whole (pos number)) (whole (pos limit)))

-- a side is too high
abbrev pub height_refusal : m.Model → Option Stuck
height_refusal M = over_limit d.TooDeep (greatest_height M) 500

-- the sides have too many operations; their sum stops at 10^37
abbrev pub size_refusal : m.Model → Option Stuck
size_refusal M = over_limit d.TooLarge (min (operations M) (10 ^ 37)) 200000

-- a model whose sides are neither too high nor too large
abbrev pub sized : m.Model → Folded m.Model
sized M = tested (height_refusal M) >>= λ _. tested (size_refusal M) >>= λ _. Ok M

-- where a far name is told so
abbrev pub local_by : (FarName → FarName) → List Statement → Folded m.Model
local_by told file =
    tested (names_refusal file) >>= λ _. tested (shifts_refusal told file) >>= λ _. model_given file >>= λ M. sized M

-- with the greatest shift itself
abbrev pub local_given : List Statement → Folded m.Model
local_given file = local_by (λ x. x) file
