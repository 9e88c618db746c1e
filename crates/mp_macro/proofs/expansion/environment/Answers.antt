use Rattle.mp_mvalue.specs.Shared.{unshared}
use Rattle.mp_macro.proofs.Named.{define-turn}
use Rattle.mp_macro.proofs.expansion.environment.Goals as goal

pub loop-define-preserved : goal.loop-define-preserved
loop-define-preserved c =
    define-turn c.loop-define.env c.set.new.self c.as_slice.result.now (unshared c.in_ok-shared.field-0) c.define-item.result c.as_slice-define-items.result.now c.as_slice-define-items.result.now c.loop-define.define-index _ c.in_ok-set.ensures.ok c.as_slice.ensures c.in_ok-shared.ensures c.loop-define-test.true c.define-item.is c.loop-define.invariant
