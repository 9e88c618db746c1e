use Rattle.std.proofs.Common.{arith, ◌∙◌, sym}
use Rattle.mp_elim.specs.Elimination.{lessened}
use Rattle.mp_turns.proofs.Each.{each_ok, each_err}
use Rattle.mp_sheet.specs.Layout.{system_of}
use Rattle.mp_sheet.proofs.rows.lessen.Goals as goal

pub returns-in-Err-clause-value : goal.returns-in-Err-clause-value
returns-in-Err-clause-value g c =
    sym c.loop-k.invariant.rest
    ∙ each_err (lessened c.args.j c.args.i c.args.f) c.loop-k.k c.args.past (system_of c.loop-k.s) c.in-Err.e c.loop-k-test.true c.in-Err.ensures.value

pub loop-k-preserved : goal.loop-k-preserved
loop-k-preserved g c = record {
  rest = sym (each_ok (lessened c.args.j c.args.i c.args.f) c.loop-k.k c.args.past (system_of c.loop-k.s) (system_of c.lessen_entry.new.s) c.loop-k-test.true c.in-Ok.ensures.value)
      ∙ c.loop-k.invariant.rest;
  form = c.lessen_entry.ensures.form ∙ c.loop-k.invariant.form;
  cost = omega (arith, c.loop-k.invariant.cost, c.lessen_entry.ensures.cost);
}
