use Rattle.mp_derivatives.proofs.Have.{model_has, transformed_has}
use Rattle.mp_derivatives.proofs.given.given_law.Goals as goal

pub returns : goal.returns
returns c = record { given = model_has; transformed = transformed_has }
