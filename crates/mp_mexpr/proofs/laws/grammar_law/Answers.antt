use Rattle.mp_mexpr.specs.Tokens.{tokens}
use Rattle.mp_mexpr.proofs.Readings.{expression_found, expression_only, expression_one, means_value, means_one}
use Rattle.mp_mexpr.proofs.laws.grammar_law.Goals as goal

pub returns-clause-found : goal.returns-clause-found
returns-clause-found c = expression_found

pub returns-clause-only : goal.returns-clause-only
returns-clause-only c = expression_only

pub returns-clause-one_expression : goal.returns-clause-one_expression
returns-clause-one_expression c = expression_one

pub returns-clause-means : goal.returns-clause-means
returns-clause-means c = λ names text. means_value names (tokens text)

pub returns-clause-one_meaning : goal.returns-clause-one_meaning
returns-clause-one_meaning c = λ names text. means_one names (tokens text)
