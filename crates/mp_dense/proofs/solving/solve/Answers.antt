use Rattle.mp_dense.proofs.Costs.{own_block, own_roomy}
use Rattle.mp_dense.proofs.solving.solve.Goals as goal

pub returns-in-Err-eliminate-clause-cost : goal.returns-in-Err-eliminate-clause-cost
returns-in-Err-eliminate-clause-cost g c = own_block c.in-Ok.s.form c.fill.new.s.form c.len-m.result _ c.args.steps.now c.eliminate.new.steps c.len-m.ensures c.fill.ensures.form c.in-Ok.ensures.form c.eliminate.ensures.cost

pub returns-in-Ok-answers-clause-cost : goal.returns-in-Ok-answers-clause-cost
returns-in-Ok-answers-clause-cost g c = own_block c.in-Ok.s.form c.fill.new.s.form c.len-m.result _ c.args.steps.now c.eliminate.new.steps c.len-m.ensures c.fill.ensures.form c.in-Ok.ensures.form c.eliminate.ensures.cost

pub returns-clause-cost : goal.returns-clause-cost
returns-clause-cost g c = own_block c.in-Ok.s.form c.fill.new.s.form c.len-m.result _ c.args.steps.now c.eliminate.new.steps c.len-m.ensures c.fill.ensures.form c.in-Ok.ensures.form c.eliminate.ensures.cost

pub eliminate-requires-clause-roomy : goal.eliminate-requires-clause-roomy
eliminate-requires-clause-roomy g c = own_roomy c.in-Ok.s.form c.fill.new.s.form c.len-m.result c.fill.ensures.form c.in-Ok.ensures.form
