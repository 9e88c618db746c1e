use Rattle.std.proofs.Common.{◌∙◌, ap}
use Rattle.mp_format.specs.Reading.{is}
use Rattle.mp_gram_expr.proofs.Compared.{compared}
use Rattle.mp_gram_expr.proofs.rest.is.Goals as goal

pub returns : goal.returns
returns c = c.eq.ensures ∙ compared c.terminal.result c.args.wanted ∙ ap (is c.args.wanted) c.terminal.ensures
