-- Steps that add exponents, one after the other.
use Rattle.std.proofs.Common.{◌≡◌, ℤ, List, Result, Ok, Err, IsErrAnd, sym, ap, subst, ◌∙◌}
use Rattle.mp_values.specs.Limits.{Folded, ◌>>=◌}
use Rattle.mp_fold.specs.declared.exponents.ExponentFault.{ExponentFault}
use Rattle.mp_fold.specs.declared.exponents.ExponentFault.TheVariants.{Refused, NoMemory}
use Rattle.mp_fold.specs.Collected.{after, Reaches, Adds}

pub same_reached : {X : Type 0} (result : Result X ExponentFault) (new : List ℤ) (r s : Folded (List ℤ)) → r ≡ s → Reaches result new r → Reaches result new s
same_reached result new r s e h = subst (λ g. Reaches result new g) e h

-- what comes after an old list is a part, and then more
module _ (old : List ℤ) (part whole : Folded (List ℤ)) (next : List ℤ → Folded (List ℤ)) (split : after old whole ≡ (after old part >>= next)) where
  stopped : (X Y : Type 0) (fault : ExponentFault) (new later : List ℤ) → (let first : Result X ExponentFault = Err fault in let second : Result Y ExponentFault = Err fault in Adds first old new part → Adds second old later whole)
  stopped X Y (Refused f) new later h = split ∙ ap (λ u. u >>= next) h
  stopped X Y NoMemory new later h = tt

  -- the part was refused
  pub stops : (X : Type 0) {Y : Type 0} (result : Result Y ExponentFault) (fault : ExponentFault) (new later : List ℤ) → IsErrAnd result (λ e. e ≡ fault) → (let first : Result X ExponentFault = Err fault in Adds first old new part) → Adds result old later whole
  stops X (Ok y) fault new later is h = absurd is
  stops X {Y = Y} (Err e) fault new later is h =
      subst (λ g. (let r : Result Y ExponentFault = Err g in Adds r old later whole)) (sym is) (stopped X Y fault new later h)

  -- the part was added, and then the rest
  pub goes_on : {X Y : Type 0} (x : X) (result : Result Y ExponentFault) (middle new : List ℤ) → (let first : Result X ExponentFault = Ok x in Adds first old middle part) → Reaches result new (next middle) → Adds result old new whole
  goes_on x result middle new h rest = same_reached result new (next middle) (after old whole) (sym (split ∙ ap (λ u. u >>= next) h)) rest
