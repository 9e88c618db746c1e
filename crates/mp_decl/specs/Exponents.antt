-- A list of exponents.
use Rattle.std.specs.Prelude.{◌≡◌, ℤ, List, Result, Ok, Err}
use Rattle.mp_values.specs.Limits.{Folded}
use Rattle.mp_fold.specs.declared.exponents.ExponentFault.{ExponentFault}
use Rattle.mp_fold.specs.declared.exponents.ExponentFault.TheVariants.{Refused, NoMemory}
use Rattle.mp_fold.specs.Shown.{stuck_of}

-- why exponents are not given; or there was no memory
abbrev pub Fails : ExponentFault → Folded (List ℤ) → Type 0
Fails (Refused fault) given = given ≡ Err (stuck_of fault)
Fails NoMemory given = Unit {0}

-- these exponents are given, or why they are not
abbrev pub Collects : {X : Type 0} → (X → List ℤ) → Result X ExponentFault → Folded (List ℤ) → Type 0
Collects view (Ok x) given = given ≡ Ok (view x)
Collects view (Err e) given = Fails e given
