use Rattle.mp_run.proofs.Headlines.{same_solutions, writes_derivatives}
use Rattle.mp_run.proofs.WrongTokens.{tells_wrong}
use Rattle.mp_run.proofs.top.run.Goals as goal

pub returns-clause-headline : goal.returns-clause-headline
returns-clause-headline g c =
    same_solutions _ _ (g.O.Sink.held c.args.out.now) (g.O.Sink.held c.written-outcome.new.out) c.written-outcome.result c.written-outcome.ensures.result

pub returns-clause-derivatives : goal.returns-clause-derivatives
returns-clause-derivatives g c =
    writes_derivatives _ _ (g.O.Sink.held c.args.out.now) (g.O.Sink.held c.written-outcome.new.out) c.written-outcome.result c.written-outcome.ensures.result

pub returns-clause-wrong_token : goal.returns-clause-wrong_token
returns-clause-wrong_token g c =
    tells_wrong _ _ (g.O.Sink.held c.args.out.now) (g.O.Sink.held c.written-outcome.new.out) c.written-outcome.result c.written-outcome.ensures.verdict
