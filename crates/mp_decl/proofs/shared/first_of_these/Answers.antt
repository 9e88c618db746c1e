use Rattle.mp_decl.proofs.SharedLaws.{again_turn}
use Rattle.mp_decl.proofs.shared.first_of_these.Goals as goal

pub turns-preserved-then-not-branch : goal.turns-preserved-then-not-branch
turns-preserved-then-not-branch c =
    let both = again_turn c.args.names.now c.turns.i _ c.turns.further c.add.new.self c.in_ok-add.field-0 c.turns-test.true c.turns.auto.i c.turns.invariant.further c.in_ok-add.ensures.added c.in_ok-add.ensures.names c.if-not-branch.true in
    record { further = both.0; found = both.1 }
