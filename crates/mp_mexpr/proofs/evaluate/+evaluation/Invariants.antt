use Rattle.std.proofs.Common.{◌≡◌, drop, List, [], Ok}
use Rattle.mp_mvalue.specs.declared.value.Value.{Value}
use Rattle.mp_mvalue.specs.Environments.{value_in}
use Rattle.mp_mvalue.specs.Gathers.{Gathers}
use Rattle.mp_mvalue.specs.Shared.{unshared}
use Rattle.mp_mexpr.specs.Steps.{steps_value, values_after}
use Rattle.mp_mexpr.proofs.evaluate.+evaluation.Given as goal

abbrev pub invariant-array_of-loop-element : goal.invariant-array_of-loop-element
invariant-array_of-loop-element l =
    (xs : List Value) × Gathers l.found xs × (values_after (value_in l.env) (Ok xs) (drop l.element-index l.elements) ≡ values_after (value_in l.env) (Ok []) l.elements)

abbrev pub invariant-after_steps-loop-step : goal.invariant-after_steps-loop-step
invariant-after_steps-loop-step l =
    steps_value (value_in l.env) (Ok (unshared l.found)) (drop l.step-index l.steps) ≡ steps_value (value_in l.env) (Ok (unshared l.initial.found)) l.steps
