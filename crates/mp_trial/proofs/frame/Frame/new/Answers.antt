use Rattle.std.proofs.Common.{rules, ◌≡◌, ◌+◌, ◌/◌, length, subst}
use Rattle.mp_path.specs.Edges.{Edges}
use Rattle.mp_trial.specs.Full.{IsFull}
use Rattle.mp_trial.proofs.Slots.{full_new}
use Rattle.mp_trial.proofs.frame.Frame.new.Goals as goal

pub invariant_of-result : goal.invariant_of-result
invariant_of-result c =
    let same : c.args.slots ≡ c.in_ok-grid.grid.slots = search rules in
    let edges : c.new-boundary.result ≡ c.in_ok-grid.grid.edges = search rules in
    let p : c.len-parameter_count.result ≡ length c.args.parameters.items = search rules in
    let e : c.len-endogenous_count.result ≡ length c.args.endogenous.items = search rules in
    let x : c.len.result ≡ length c.args.exogenous.items = search rules in
    let full = full_new c.new-boundary.result c.args.periods c.args.parameters.items c.args.endogenous.items c.args.exogenous.items _ _ _ p e x
    c.new-boundary.ensures.periods c.new-boundary.ensures.parameters c.new-boundary.ensures.values in
    (same, subst (λ (b : Edges). IsFull b c.len-parameter_count.result (c.len-endogenous_count.result / 49) (c.len.result / (c.args.periods + 49))) edges full)
