use Rattle.mp_mvalue.specs.Environments.{value_in}
use Rattle.mp_mexpr.proofs.Readings.{gives_meant}
use Rattle.mp_mexpr.proofs.evaluate.eval.Goals as goal

pub returns-clause-by_grammar : goal.returns-clause-by_grammar
returns-clause-by_grammar c = gives_meant (value_in c.args.env.now) c.args.expr.now c.value_of_bytes.result c.value_of_bytes.ensures
