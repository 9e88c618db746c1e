use Rattle.mp_transform.specs.declared.output.Output.TheVariants as out
use Rattle.mp_transform.proofs.Inverse.{listed}
use Rattle.mp_transform.proofs.WrongTokens.{result_shown}
use Rattle.mp_transform.proofs.transform.derived.Goals as goal

pub returns-clause-derivatives : goal.returns-clause-derivatives
returns-clause-derivatives c =
    listed c.grammar_law.ensures.found c.limits_law.ensures.model c.listed_law.ensures c.args.text.now c.in_ok-bytes.bytes c.in_ok-bytes.ensures.names c.in_ok-bytes.ensures.says

pub returns-in_err-bytes-clause-wrong_token : goal.returns-in_err-bytes-clause-wrong_token
returns-in_err-bytes-clause-wrong_token c =
    result_shown out.Derivatives c.from_residual.result c.args.text.now c.in_err-bytes.field-0.0 c.from_residual.ensures.1 c.in_err-bytes.ensures.says
