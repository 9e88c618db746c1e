use Rattle.std.proofs.lemmas.Result.{IfOk-weaker}
use Rattle.mp_model_data.specs.Shown.{source_data}
use Rattle.mp_blocks.proofs.Paired.{within_of}
use Rattle.mp_blocks.proofs.rows.square_rows.Goals as goal

pub returns-clause-within : goal.returns-clause-within
returns-clause-within c = IfOk-weaker c.rows.result _ _ (λ v are. within_of (source_data c.args.model.now) v.items c.requires are) c.rows.ensures
