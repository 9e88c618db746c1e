-- What the code's answers stand for.
use Rattle.std.specs.Prelude.{◌≡◌, Result, Ok, Err}
use Rattle.mp_fold.specs.Reported.{fraction_of}
use Rattle.mp_values.specs.Limits.{Folded, Unvalued, Refused}
use Rattle.mp_local.specs.declared.fault.LocalFault.{LocalFault}
use Rattle.mp_local.specs.declared.fault.LocalFault.TheVariants as fault

-- the same name has no value, the same number is refused, or memory ran out
abbrev pub Fails : {Y : Type 0} → LocalFault → Folded Y → Type 0
Fails (fault.Unvalued name) given = given ≡ Err (Unvalued name)
Fails (fault.Refused refused) given = given ≡ Err (Refused refused.kind refused.at (fraction_of refused.first) (fraction_of refused.second))
Fails fault.NoMemory given = Unit {0}

-- what was returned, seen by view, is what is given, unless memory ran out
abbrev pub Gives : {X Y : Type 0} → (X → Y) → Result X LocalFault → Folded Y → Type 0
Gives view (Ok x) given = given ≡ Ok (view x)
Gives view (Err e) given = Fails e given

-- a test went well, or found this refusal
abbrev pub Passes : Result (Unit {0}) LocalFault → Folded (Unit {0}) → Type 0
Passes result given = Gives (λ x. x) result given
