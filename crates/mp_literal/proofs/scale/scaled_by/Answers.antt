use Rattle.std.proofs.Common.{ap, ◌∙◌, option_map, sym}
use Rattle.mp_literal.specs.Shown.{shown}
use Rattle.mp_literal.proofs.Limits.{limit-Some}
use Rattle.mp_literal.proofs.Scales.{refused-signed, scaled-signed}
use Rattle.mp_literal.proofs.scale.scaled_by.Goals as goal

pub returns-in_err-power : goal.returns-in_err-power
returns-in_err-power c =
    ap (option_map shown) c.from_residual.ensures
    ∙ sym (refused-signed c.args.number _ c.args.zeros c.args.places c.signed-is_negative.result.0 _ c.requires.some c.requires.zeros c.requires.places c.signed-is_negative.ensures c.in_err-power.ensures)

pub returns-then-is_negative : goal.returns-then-is_negative
returns-then-is_negative c =
    c.scaled.ensures ∙ scaled-signed c.args.number _ c.in_ok-power.power c.args.zeros c.args.places c.signed-is_negative.result.0 _ c.if-is_negative.true (limit-Some _ _ c.in_ok-power.ensures) c.signed-is_negative.ensures
