use Rattle.std.proofs.Common.{arith}
use Rattle.std.proofs.lemmas.Grind.{common_steps}
use Rattle.mp_model_data.specs.Shown.{parameter_of}
use Rattle.mp_canonical.proofs.Lines.{value_line}
use Rattle.mp_print_model.proofs.model.put_value.Goals as goal

pub returns : goal.returns
returns c = rw (value_line (parameter_of c.args.parameter.now)) (grind (arith, common_steps))
