use Rattle.std.proofs.Common.{refl, map, [], ◌∷◌}
use Rattle.mp_file.specs.Shown.{named_of}
use Rattle.mp_declared.specs.Points.{Noted}
use Rattle.mp_decl.specs.Walk.{walk}
use Rattle.mp_decl.proofs.Turns.{turn_goes, turn_stops, passes_on}
use Rattle.mp_decl.proofs.walk.walk_noted.Goals as goal

pub turns-preserved : goal.turns-preserved
turns-preserved c =
    turn_goes (λ n. Noted (named_of n) ∷ []) (λ ns. map Noted (map named_of ns)) (λ x xs. refl) c.args.names.now c.turns.name-index _ _ c.args.known.now _ c.turns-test.true refl c.turns.invariant c.args.known.now c.in_ok-note.ensures

pub returns-in_err-note : goal.returns-in_err-note
returns-in_err-note c =
    passes_on c.from_residual.result c.in_err-note.field-0.0 _ (walk c.args.known.now (map Noted (map named_of c.args.names.now))) c.from_residual.ensures.1
    (turn_stops (λ n. Noted (named_of n) ∷ []) (λ ns. map Noted (map named_of ns)) (λ x xs. refl) c.args.names.now c.turns.name-index _ _ c.args.known.now _ c.turns-test.true refl c.turns.invariant c.in_err-note.field-0.0 c.in_err-note.ensures)
