use Rattle.mp_tokens.proofs.SpelledLaws.{tokens-spelled}
use Rattle.mp_tokens.proofs.tokens_law.Goals as goal

pub returns : goal.returns
returns c = tokens-spelled
