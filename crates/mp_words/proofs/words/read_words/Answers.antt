use Rattle.std.proofs.Common.{subst}
use Rattle.std.specs.Prelude.{IfOk}
use Rattle.mp_words.proofs.Requests.{IsShort, asked}
use Rattle.mp_words.proofs.words.read_words.Goals as goal

pub returns-clause-built : goal.returns-clause-built
returns-clause-built c = (subst (λ r. IfOk r IsShort) c.in_ok-request.ensures (asked c.args.words.now)).0

pub returns-clause-short : goal.returns-clause-short
returns-clause-short c = (subst (λ r. IfOk r IsShort) c.in_ok-request.ensures (asked c.args.words.now)).1
