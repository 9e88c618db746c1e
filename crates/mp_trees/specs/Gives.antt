-- What the code's answers stand for.
use Rattle.std.specs.Prelude.{◌≡◌, ℕ, pos, ◌^◌, nat_le, if◌then◌else◌, Option, Some, None, Result, Ok, Err}
use Rattle.mp_base.specs.declared.kinds.DataKind.TheVariants as d
use Rattle.mp_rational.specs.Fraction.{whole}
use Rattle.mp_fold.specs.Reported.{fraction_of}
use Rattle.mp_values.specs.Limits.{Folded, Unvalued, Refused}
use Rattle.mp_trees.specs.declared.fault.ModelFault.{ModelFault}
use Rattle.mp_trees.specs.declared.fault.ModelFault.TheVariants as fault

-- the same name has no value, the same number is refused, or memory ran out
abbrev pub Fails : {Y : Type 0} → ModelFault → Folded Y → Type 0
Fails (fault.Unvalued name) given = given ≡ Err (Unvalued name)
Fails (fault.Refused refused) given = given ≡ Err (Refused refused.kind refused.at (fraction_of refused.first) (fraction_of refused.second))
Fails fault.NoMemory given = Unit {0}

-- what was returned, seen by view, is what is given, unless memory ran out
abbrev pub Gives : {X Y : Type 0} → (X → Y) → Result X ModelFault → Folded Y → Type 0
Gives view (Ok x) given = given ≡ Ok (view x)
Gives view (Err e) given = Fails e given

abbrev pub same : {X : Type 0} → X → X
same x = x

-- a number that is at most 10^37
abbrev pub up_to_limit : ℕ → Option ℕ
up_to_limit n = if nat_le n (10 ^ 37) then Some n else None

-- a number at this place is out of range
abbrev pub IsFarLiteral : ℕ → ModelFault → Type 0
IsFarLiteral at e = Fails {Y = Unit {0}} e (Err (Refused d.Literal at (whole (pos 0)) (whole (pos 37))))
