-- A list of exponents that grows.
use Rattle.std.specs.Prelude.{◌≡◌, ℕ, ℤ, List, ◌++◌, Result, Ok, Err}
use Rattle.mp_syntax.specs.declared.operator.Operator.{Operator}
use Rattle.mp_values.specs.Limits.{Folded, ◌>>=◌}
use Rattle.mp_fold.specs.declared.exponents.ExponentFault.{ExponentFault}
use Rattle.mp_fold.specs.declared.exponents.ExponentFault.TheVariants.{Refused, NoMemory}
use Rattle.mp_fold.specs.Shown.{stuck_of}

-- these in front of what is given
abbrev pub after : List ℤ → Folded (List ℤ) → Folded (List ℤ)
after front r = r >>= λ more. Ok (front ++ more)

-- two lists as operands
abbrev pub appended : Operator → ℕ → List ℤ → List ℤ → Folded (List ℤ)
appended o at ks js = Ok (ks ++ js)

-- a call left this list, as was given, or tells why nothing was; or there was no memory
abbrev pub Reaches : {X : Type 0} → Result X ExponentFault → List ℤ → Folded (List ℤ) → Type 0
Reaches (Ok x) new given = given ≡ Ok new
Reaches (Err (Refused fault)) new given = given ≡ Err (stuck_of fault)
Reaches (Err NoMemory) new given = Unit {0}

-- it left the old list with what was given after it
abbrev pub Adds : {X : Type 0} → Result X ExponentFault → List ℤ → List ℤ → Folded (List ℤ) → Type 0
Adds result old new given = Reaches result new (after old given)
