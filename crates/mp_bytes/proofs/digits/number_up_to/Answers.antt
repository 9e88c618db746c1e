use Rattle.std.proofs.Common.{◌≡◌, ◌+◌, ◌*◌, drop, fold, arith}
use Rattle.std.proofs.lemmas.Grind.{common_steps}
use Rattle.mp_tokens.specs.Literals.{with_digit, number_of}
use Rattle.mp_bytes.proofs.Growing.{none_past}
use Rattle.mp_bytes.proofs.digits.number_up_to.Goals as goal

pub returns-then-number-most : goal.returns-then-number-most
returns-then-number-most c =
    let n = 10 * c.loop-digit.number + c.saturating_sub.result in
    let rest = drop (c.loop-digit.digit-index + 1) c.args.digits.now in
    let told : fold with_digit n rest ≡ number_of c.args.digits.now = grind (arith, common_steps, c.loop-digit.invariant.told) in
    none_past n c.args.most c.args.digits.now rest (omega arith) told
