use Rattle.std.proofs.Common.{◌≡◌, drop, None}
use Rattle.mp_mvalue.specs.Environments.{value_in}
use Rattle.mp_macro.specs.Expansion.{defined}
use Rattle.mp_macro.proofs.expansion.environment.Given as goal

abbrev pub invariant-loop-define : goal.invariant-loop-define
invariant-loop-define l = defined (value_in l.env) (drop l.define-index l.define-items) ≡ defined (λ name. None) l.define-items
