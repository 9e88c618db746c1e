-- What is known of names, as the definitions see it.
use Rattle.std.specs.Prelude.{◌≡◌, ℕ, ℤ, Bool, List, [], ◌∷◌, Option, Some, None, is_some, if◌then◌else◌}
use Rattle.mp_values.specs.Names.{Names, place_of, is_variable}
use Rattle.mp_values.specs.Shifts.{Shifts, own_shifts}
use Rattle.mp_local.specs.declared.ends.Ends.{Ends}
use Rattle.mp_local.specs.declared.known.Scope.{Scope}
use Rattle.mp_local.specs.declared.known.Scope.TheVariants as scope
use Rattle.mp_local.specs.declared.known.Known.{Known}
use Rattle.mp_local.specs.Ends.{Spans}
use Rattle.mp_local.specs.Locals.{ends_in}

-- which names count
abbrev pub counted : Scope → Names → List ℕ → Bool
counted scope.Variables names name = is_variable names name
counted scope.Endogenous names name = is_some (place_of names.endogenous name)

-- a local with these ends has such shifts, whatever its name counts for; a name that is no local has its own shift, if it counts
abbrev pub Owns : Option (Option Ends) → (Bool → ℤ → List ℤ) → Type 0
Owns None own = (counts : Bool) (k : ℤ) → own counts k ≡ (if counts then k ∷ [] else [])
Owns (Some ends) own = (counts : Bool) (k : ℤ) → Spans ends (own counts k)

-- the same names count, and the locals are the same
pub record Knows (known : Known) (s : Shifts) : Type 0 where
  pub counts : (name : List ℕ) → s.counts name ≡ counted known.scope known.names.now name
  pub locals : (name : List ℕ) → Owns (ends_in known.locals.ends.entries name) (λ counts k. own_shifts s.locals counts name k)
