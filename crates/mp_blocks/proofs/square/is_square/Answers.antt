use Rattle.std.proofs.Common.{length, List, sym, ap, ◌∙◌}
use Rattle.std.proofs.lemmas.Bool.{eqb-true, eq-eqb}
use Rattle.std.proofs.lemmas.List.{length-map}
use Rattle.mp_model_data.specs.Shown.{Sides, sides_of}
use Rattle.mp_blocks.proofs.Occurring.{square_counts}
use Rattle.mp_blocks.proofs.square.is_square.Goals as goal

pub returns : goal.returns
returns c =
    let xs = c.source_equations.result.now in
    let b = c.source_variables.result in
    let same = sym (length-map xs sides_of) ∙ ap (λ (ss : List Sides). length ss) c.source_equations.ensures.equations in
    let counts = square_counts c.args.model.now (length xs) same c.source_variables.ensures.few in (
      (λ t. counts.0 (eqb-true (length xs) b t ∙ c.source_variables.ensures.count)),
      (λ s. eq-eqb (length xs) b (counts.1 s ∙ sym c.source_variables.ensures.count)),
    )
