use Rattle.std.proofs.Common.{refl, sym, ap, ◌∙◌, option_map}
use Rattle.mp_literal.specs.Accepted.{accepted}
use Rattle.mp_literal.specs.Shown.{shown}
use Rattle.mp_literal.proofs.Kept.{Kept, refused-whole, refused-kept, decimal-kept}
use Rattle.mp_literal.proofs.Limits.{limit-Some}
use Rattle.mp_literal.proofs.literal.decimal_of_parts.Goals as goal

pub returns-in_err-number : goal.returns-in_err-number
returns-in_err-number c =
    let p = c.args.parts.now in
    let k : Kept p.whole.now p.fraction.now c.digits_kept-kept.result.whole.now c.digits_kept-kept.result.fraction.now = record { kept = c.digits_kept-kept.ensures.value; whole = c.digits_kept-kept.ensures.whole; fraction = c.digits_kept-kept.ensures.fraction } in
    ap (option_map shown) c.from_residual.ensures ∙ sym (refused-whole _ _ _ _ p.exponent.now k c.in_err-number.ensures)

pub returns-in_err-number-2 : goal.returns-in_err-number-2
returns-in_err-number-2 c =
    let p = c.args.parts.now in
    let k : Kept p.whole.now p.fraction.now c.digits_kept-kept.result.whole.now c.digits_kept-kept.result.fraction.now = record { kept = c.digits_kept-kept.ensures.value; whole = c.digits_kept-kept.ensures.whole; fraction = c.digits_kept-kept.ensures.fraction } in
    ap (option_map shown) c.from_residual-in_err-number-2.ensures
    ∙ sym (refused-kept _ _ _ _ p.exponent.now c.in_ok-number.number k (limit-Some _ _ c.in_ok-number.ensures) c.in_err-number-2.ensures)

pub returns : goal.returns
returns c =
    let p = c.args.parts.now in
    let k : Kept p.whole.now p.fraction.now c.digits_kept-kept.result.whole.now c.digits_kept-kept.result.fraction.now = record { kept = c.digits_kept-kept.ensures.value; whole = c.digits_kept-kept.ensures.whole; fraction = c.digits_kept-kept.ensures.fraction } in
    c.scaled_by.ensures
    ∙ ap accepted (decimal-kept _ _ _ _ p.exponent.now c.in_ok-number.number c.in_ok-number-2.number _ k (limit-Some _ _ c.in_ok-number.ensures) (limit-Some _ _ c.in_ok-number-2.ensures) refl)
