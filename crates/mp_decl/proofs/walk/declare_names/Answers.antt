use Rattle.std.proofs.Common.{refl, map, [], ◌∷◌}
use Rattle.mp_file.specs.Shown.{named_of}
use Rattle.mp_declared.specs.Points.{Declared}
use Rattle.mp_decl.specs.Walk.{walk}
use Rattle.mp_decl.proofs.Turns.{turn_goes, turn_stops, passes_on}
use Rattle.mp_decl.proofs.walk.declare_names.Goals as goal

pub turns-preserved : goal.turns-preserved
turns-preserved c =
    turn_goes (λ n. Declared c.args.kind (named_of n) ∷ []) (λ ns. map (Declared c.args.kind) (map named_of ns)) (λ x xs. refl) c.args.names.now c.turns.name-index _ _ c.turns.known _ c.turns-test.true refl c.turns.invariant c.declare.new.self c.in_ok-declare.ensures

pub returns-in_err-declare : goal.returns-in_err-declare
returns-in_err-declare c =
    passes_on c.from_residual.result c.in_err-declare.field-0.0 _ (walk c.args.known.now (map (Declared c.args.kind) (map named_of c.args.names.now))) c.from_residual.ensures.1
    (turn_stops (λ n. Declared c.args.kind (named_of n) ∷ []) (λ ns. map (Declared c.args.kind) (map named_of ns)) (λ x xs. refl) c.args.names.now c.turns.name-index _ _ c.turns.known _ c.turns-test.true refl c.turns.invariant c.in_err-declare.field-0.0 c.in_err-declare.ensures)
