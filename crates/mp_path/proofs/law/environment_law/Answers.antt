use Rattle.mp_path.proofs.Environments.{same_environment}
use Rattle.mp_path.proofs.law.environment_law.Goals as goal

pub returns : goal.returns
returns c = same_environment
