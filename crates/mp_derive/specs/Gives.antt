-- What an answer says of derivatives.
use Rattle.std.specs.Prelude.{◌≡◌, ◌<◌, ◌≤◌, ◌^◌, ℕ, List, min, Result, Ok, Err}
use Rattle.mp_semantics.specs.Model.{Model}
use Rattle.mp_derivatives.specs.Records.{Derivation}
use Rattle.mp_derivatives.specs.Derivatives.{derivations}
use Rattle.mp_derivatives.specs.Derived.{derived}
use Rattle.mp_derive.specs.declared.fault.DeriveFault.{DeriveFault}
use Rattle.mp_derive.specs.declared.fault.DeriveFault.TheVariants.{Large, NoMemory}

-- they have so many operations; want of memory says nothing
abbrev pub Fails : DeriveFault → Result (List Derivation) ℕ → Type 0
Fails (Large count) given = given ≡ Err count
Fails NoMemory given = Unit {0}

-- these are given, or this many operations are too many
abbrev pub Gives : Result (List Derivation) DeriveFault → Result (List Derivation) ℕ → Type 0
Gives (Ok ds) given = given ≡ Ok ds
Gives (Err fault) given = Fails fault given

-- the derivatives of a model are few enough, or this many operations are too many
abbrev pub Tests : {X : Type 0} → Result X DeriveFault → Model → Type 0
Tests (Ok x) M = derived M ≡ Ok (derivations M)
Tests (Err fault) M = Fails fault (derived M)

-- of so many operations this many are told, which are too many; want of memory says nothing
abbrev pub AreMany : DeriveFault → ℕ → Type 0
AreMany (Large count) n = (count ≡ min n (10 ^ 37)) × (2000000 < count)
AreMany NoMemory n = Unit {0}

-- so many operations are few enough, or too many
abbrev pub AreFew : {X : Type 0} → Result X DeriveFault → ℕ → Type 0
AreFew (Ok x) n = n ≤ 2000000
AreFew (Err fault) n = AreMany fault n
