-- What an accepted number tells.
use Rattle.std.proofs.Common.{◌≡◌, Bool, true, false, cond, Option, Some, None, option_map, IsSome, IsTrue, IfSome, ◌↔◌, refl, ap}
use Rattle.mp_tokens.specs.Literals as spec
use Rattle.mp_tokens.specs.Literals.{is_in_range}
use Rattle.mp_literal.specs.declared.value.Decimal.{Decimal}
use Rattle.mp_literal.specs.Accepted.{accepted}
use Rattle.mp_literal.specs.Shown.{shown}

pub record Told (r : Option Decimal) (d : spec.Decimal) : Type 0 where
  pub some : IsSome r ↔ IsTrue (is_in_range d)
  pub m : IfSome r (λ x. x.m ≡ d.m)
  pub s : IfSome r (λ x. x.s ≡ d.s)

pub told : (r : Option Decimal) (d : spec.Decimal) → option_map shown r ≡ accepted d → Told r d
told r d e = by (is_in_range d) refl r e
  where
    by : (t : Bool) → is_in_range d ≡ t → (o : Option Decimal) → option_map shown o ≡ cond t (Some d) None → Told o d
    by true h None k = absurd (cc)
    by true h (Some x) k =
        let same : shown x ≡ d = cc in
        record { some = ((λ i. h), λ i. refl); m = ap (λ q. q.m) same; s = ap (λ q. q.s) same }
    by false h None k = record { some = ((λ i. absurd (cc)), λ i. absurd (cc)); m = tt; s = tt }
    by false h (Some x) k = absurd (cc)
