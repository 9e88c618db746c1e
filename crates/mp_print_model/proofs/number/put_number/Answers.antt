use Rattle.std.proofs.Common.{arith, ◌∙◌}
use Rattle.mp_print_model.proofs.Places.{number_with_places}
use Rattle.mp_print_model.proofs.number.put_number.Goals as goal

pub returns-else-s-eq0 : goal.returns-else-s-eq0
returns-else-s-eq0 c =
    rw (← number_with_places c.args.m c.args.s _ (omega arith) c.if-s-eq0.false (c.as_bytes.ensures.value ∙ c.format.ensures.text)) c.put_places.ensures
