use Rattle.std.proofs.Common.{◌∙◌}
use Rattle.mp_file.specs.Shown.{file_of}
use Rattle.mp_local.proofs.GivesLaws.{model_same}
use Rattle.mp_local.proofs.expand.nodes.Goals as goal

pub returns-in-Ok : goal.returns-in-Ok
returns-in-Ok c = model_same (file_of c.args.file.now) c.args.values.now c.requires.values ∙ c.in-Ok.ensures
