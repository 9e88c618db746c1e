use Rattle.std.proofs.Common.{sym, subst, Result}
use Rattle.mp_base.specs.declared.refusal.Refusal.{Refusal}
use Rattle.mp_file.specs.Shown.{file_of}
use Rattle.mp_model_data.specs.Shown.{model_data}
use Rattle.mp_values.specs.Table.{Table}
use Rattle.mp_transform.specs.Steps.{and_then, Says}
use Rattle.mp_transform.specs.Text.{limited}
use Rattle.mp_transform.proofs.Inverse.{source_have}
use Rattle.mp_transform.proofs.transform.tested.Goals as goal

pub returns-clause-says : goal.returns-clause-says
returns-clause-says c =
    subst (λ (r : Result Table Refusal). Says model_data (and_then r (λ _. limited c.args.end (file_of c.args.file.now))) c.limited.result) (sym c.in_ok-declared.ensures.says) c.limited.ensures.says

pub returns-clause-derivatives : goal.returns-clause-derivatives
returns-clause-derivatives c =
    source_have model_data c.given_law.ensures.given c.args.end (file_of c.args.file.now) c.limited.result c.limited.ensures.says
