use Rattle.std.proofs.Common.{arith, ◌∙◌, sym, subst}
use Rattle.mp_elim.specs.Elimination.{cleared}
use Rattle.mp_turns.proofs.Each.{each_ok, each_err}
use Rattle.mp_sheet.specs.Layout.{Form, IsKept, system_of}
use Rattle.mp_sheet.proofs.Steps.{cost_more}
use Rattle.mp_sheet.proofs.columns.clear_below.Goals as goal

pub clear_row-requires-clause-target : goal.clear_row-requires-clause-target
clear_row-requires-clause-target g c k a b =
    subst (λ (f : Form). IsKept f c.loop-i.i k) (sym c.loop-i.invariant.form) (c.requires.kept c.loop-i.i k (omega arith) (omega arith) a b)

pub clear_row-requires-clause-source : goal.clear_row-requires-clause-source
clear_row-requires-clause-source g c k a b =
    subst (λ (f : Form). IsKept f c.args.j k) (sym c.loop-i.invariant.form) (c.requires.kept c.args.j k (omega arith) (omega arith) a b)

pub returns-in-Err-clause-value : goal.returns-in-Err-clause-value
returns-in-Err-clause-value g c =
    sym c.loop-i.invariant.rest
    ∙ each_err (cleared c.args.past c.args.j) c.loop-i.i c.args.low (system_of c.loop-i.s) c.in-Err.e c.loop-i-test.true c.in-Err.ensures.value

pub loop-i-preserved : goal.loop-i-preserved
loop-i-preserved g c = record {
  rest = sym (each_ok (cleared c.args.past c.args.j) c.loop-i.i c.args.low (system_of c.loop-i.s) (system_of c.clear_row.new.s) c.loop-i-test.true c.in-Ok.ensures.value) ∙ c.loop-i.invariant.rest;
  form = c.clear_row.ensures.form ∙ c.loop-i.invariant.form;
  cost = cost_more c.loop-i.steps c.clear_row.new.steps c.args.steps.now c.loop-i.i c.args.j _ (omega arith) c.loop-i.invariant.cost (omega (arith, c.clear_row.ensures.cost));
}
