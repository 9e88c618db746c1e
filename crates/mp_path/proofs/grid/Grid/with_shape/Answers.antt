use Rattle.std.proofs.Common.{rules, ◌≡◌, ◌∙◌, ◌*◌, ℕ, pos, replicate, ap}
use Rattle.mp_path.proofs.Slots.{zeros}
use Rattle.mp_path.proofs.grid.Grid.with_shape.Goals as goal

pub returns-clause-zero : goal.returns-clause-zero
returns-clause-zero c =
    let same : c.args.periods ≡ c.in_ok-copy.field-0.periods = search rules in
    let all : c.in_ok-units.units.items ≡ replicate (c.args.periods * c.args.slots) (pos 0) = search rules in
    zeros record { edges = c.in_ok-copy.field-0; slots = c.args.slots; units = c.in_ok-units.units.items }
    (all ∙ ap (λ (n : ℕ). replicate (n * c.args.slots) (pos 0)) same)
