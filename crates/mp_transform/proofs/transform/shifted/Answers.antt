use Rattle.std.proofs.Common.{subst, sym}
use Rattle.mp_semantics.specs.Model.{Model}
use Rattle.mp_model_data.specs.Shown.{model_data}
use Rattle.mp_derivatives.specs.Derived.{HaveDerivatives}
use Rattle.mp_transform.specs.Steps.{Says}
use Rattle.mp_transform.specs.Text.{output_of}
use Rattle.mp_transform.proofs.transform.shifted.Goals as goal

pub written-requires : goal.written-requires
written-requires c =
    subst HaveDerivatives (sym c.in-Ok.ensures.transformed) (c.given_law.ensures.transformed (model_data c.args.model) c.requires.derivatives)

pub returns-in-Ok-clause-says : goal.returns-in-Ok-clause-says
returns-in-Ok-clause-says c =
    subst (λ (M : Model). Says (λ b. b) (output_of c.args.output M) c.written.result) c.in-Ok.ensures.transformed c.written.ensures.says
