use Rattle.std.proofs.Common.{refl}
use Rattle.mp_decl.proofs.TagLaws.{tag_stops}
use Rattle.mp_decl.proofs.tags.walk_tags.Goals as goal

pub returns-in-Some : goal.returns-in-Some
returns-in-Some c =
    tag_stops c.args.known.now c.args.tags.now c.turns.i _ _ _ c.turns-test.true refl c.turns.invariant c.in-Some.fault c.in-Some.ensures
