use Rattle.mp_transform.specs.declared.output.Output.TheVariants as out
use Rattle.mp_transform.proofs.Inverse.{canonical}
use Rattle.mp_transform.proofs.WrongTokens.{result_shown}
use Rattle.mp_transform.proofs.transform.transformed.Goals as goal

pub returns-clause-canonical : goal.returns-clause-canonical
returns-clause-canonical c =
    canonical c.grammar_law.ensures.found c.limits_law.ensures.model c.headline_law.ensures c.args.text.now c.in_ok-bytes.bytes c.in_ok-bytes.ensures.names c.in_ok-bytes.ensures.says

pub returns-in_err-bytes-clause-wrong_token : goal.returns-in_err-bytes-clause-wrong_token
returns-in_err-bytes-clause-wrong_token c =
    result_shown out.Model c.from_residual.result c.args.text.now c.in_err-bytes.field-0.0 c.from_residual.ensures.1 c.in_err-bytes.ensures.says
