use Rattle.mp_directive.proofs.Meant.{gives-meant}
use Rattle.mp_directive.proofs.groups.tree_of.Goals as goal

pub returns-clause-by_grammar : goal.returns-clause-by_grammar
returns-clause-by_grammar c = gives-meant c.args.text.now c.read_lines.result c.read_lines.ensures.tree
