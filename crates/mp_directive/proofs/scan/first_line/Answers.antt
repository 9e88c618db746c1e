use Rattle.mp_directive.proofs.Lines.{lines-more, lines-end}
use Rattle.mp_directive.proofs.scan.first_line.Goals as goal

pub returns-in-Some-clause-value : goal.returns-in-Some-clause-value
returns-in-Some-clause-value c =
    lines-more c.args.text.now c.split_at.result.0.now c.split_at.result.1.now c.in-Some.more.now c.run_length.result c.in-Some.field-0-0.now c.requires c.run_length.ensures.value c.split_at.ensures.front c.split_at.ensures.back c.in-Some.ensures.cases.0

pub returns-in-None-clause-value : goal.returns-in-None-clause-value
returns-in-None-clause-value c =
    lines-end c.args.text.now c.split_at.result.0.now c.split_at.result.1.now c.run_length.result c.requires c.run_length.ensures.value c.split_at.ensures.front c.split_at.ensures.back c.in-None.ensures.cases
