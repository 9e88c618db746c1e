use Rattle.std.proofs.Common.{arith}
use Rattle.std.proofs.lemmas.Grind.{common_steps}
use Rattle.mp_model_data.specs.Shown.{sides_of, equation_in}
use Rattle.mp_canonical.proofs.Lines.{equation_line}
use Rattle.mp_print_model.proofs.model.put_equation.Goals as goal

pub returns : goal.returns
returns c = rw (equation_line c.args.graph.now.names (equation_in c.args.graph.now.terms (sides_of c.args.equation.now))) (grind (arith, common_steps))
