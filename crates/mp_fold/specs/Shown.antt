-- What the code gives, as the definitions see it.
use Rattle.std.specs.Prelude.{Result, Ok, Err}
use Rattle.mp_values.specs.Limits.{Stuck, Unvalued, Refused, Folded, ◌>>=◌}
use Rattle.mp_fold.specs.declared.fault.FoldFault.{FoldFault}
use Rattle.mp_fold.specs.declared.fault.FoldFault.TheVariants as f
use Rattle.mp_fold.specs.Reported.{fraction_of}

abbrev pub stuck_of : FoldFault → Stuck
stuck_of (f.Unvalued name) = Unvalued name
stuck_of (f.Refused refused) = Refused refused.kind refused.at (fraction_of refused.first) (fraction_of refused.second)

-- what was given, seen by view, or why nothing was
abbrev pub shown : {X Y : Type 0} → (X → Y) → Result X FoldFault → Folded Y
shown view (Ok x) = Ok (view x)
shown view (Err e) = Err (stuck_of e)

-- goes on with what was given
abbrev pub and_then : {A B : Type 0} → Folded A → (A → Folded B) → Folded B
and_then given next = given >>= next
