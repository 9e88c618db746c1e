use Rattle.mp_words.proofs.Refusals.{refused-where}
use Rattle.mp_words.proofs.laws.refusal_law.Goals as goal

pub returns : goal.returns
returns c = refused-where
