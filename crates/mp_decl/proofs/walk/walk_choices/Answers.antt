use Rattle.std.proofs.Common.{refl, map, [], ◌∷◌}
use Rattle.mp_file.specs.Shown.{choice_of}
use Rattle.mp_declared.specs.Points.{Chosen}
use Rattle.mp_decl.specs.Walk.{walk}
use Rattle.mp_decl.proofs.Turns.{turn_goes, turn_stops, passes_on}
use Rattle.mp_decl.proofs.walk.walk_choices.Goals as goal

pub turns-preserved : goal.turns-preserved
turns-preserved c =
    turn_goes (λ n. Chosen (choice_of n) ∷ []) (λ ns. map Chosen (map choice_of ns)) (λ x xs. refl) c.args.choices.now c.turns.choice-index _ _ c.turns.known _ c.turns-test.true refl c.turns.invariant c.choose.new.self c.in_ok-choose.ensures

pub returns-in_err-choose : goal.returns-in_err-choose
returns-in_err-choose c =
    passes_on c.from_residual.result c.in_err-choose.field-0.0 _ (walk c.args.known.now (map Chosen (map choice_of c.args.choices.now))) c.from_residual.ensures.1
    (turn_stops (λ n. Chosen (choice_of n) ∷ []) (λ ns. map Chosen (map choice_of ns)) (λ x xs. refl) c.args.choices.now c.turns.choice-index _ _ c.turns.known _ c.turns-test.true refl c.turns.invariant c.in_err-choose.field-0.0 c.in_err-choose.ensures)
