use Rattle.std.proofs.Common.{◌≡◌, ◌-◌, arith, ◌∙◌, sym, ap, subst, ℕ, Result, Ok, Err}
use Rattle.mp_elim.specs.declared.ElimFault.{ElimFault}
use Rattle.mp_turns.specs.Turns.{each_down}
use Rattle.mp_elim.specs.Elimination.{System, answered}
use Rattle.mp_elim.specs.Shape.{past_of}
use Rattle.mp_sheet.specs.Layout.{Form, IsRoomy, system_of}
use Rattle.mp_sheet.proofs.Reach.{own_kept, cost_back, each_down_ok, each_down_err}
use Rattle.mp_sheet.proofs.elimination.backward.Goals as goal

pub answer_row-requires-clause-kept : goal.answer_row-requires-clause-kept
answer_row-requires-clause-kept g c k a b =
    let e : c.args.s.now.form ≡ c.loop-j.s.form = sym c.loop-j.invariant.form in
    own_kept c.loop-j.s.form c.block-n.result c.count-m.result (c.loop-j.j - 1) c.past.result k
    (c.loop-j.invariant.block ∙ ap (λ (f : Form). f.block) e) (c.loop-j.invariant.count ∙ ap (λ (f : Form). f.count) e) c.past.ensures
    c.block-n.ensures.some (omega (arith, c.loop-j.invariant.below, c.loop-j-test.true)) (subst (λ (f : Form). IsRoomy f) e c.requires.roomy) a b

pub loop-j-preserved : goal.loop-j-preserved
loop-j-preserved g c =
    let n : ℕ = c.block-n.result in
    let m : ℕ = c.count-m.result in
    let h : answered (past_of n m (c.loop-j.j - 1)) (c.loop-j.j - 1) (system_of c.loop-j.s) ≡ Ok (system_of c.answer_row.new.s) =
    ap (λ (x : ℕ). answered x (c.loop-j.j - 1) (system_of c.loop-j.s)) (sym c.past.ensures) ∙ c.in-Ok.ensures.value in
    record {
      rest = sym (each_down_ok (λ j. answered (past_of n m j) j) c.loop-j.j (system_of c.loop-j.s) (system_of c.answer_row.new.s) c.loop-j-test.true h) ∙ c.loop-j.invariant.rest;
      form = c.answer_row.ensures.form ∙ c.loop-j.invariant.form;
      block = c.loop-j.invariant.block;
      count = c.loop-j.invariant.count;
      below = omega (arith, c.loop-j.invariant.below);
      cost = cost_back n m c.loop-j.j c.past.result c.args.steps.now c.loop-j.steps c.answer_row.new.steps c.past.ensures c.block-n.ensures.some c.loop-j-test.true c.loop-j.invariant.below c.loop-j.invariant.cost c.answer_row.ensures.cost;
    }

pub returns-in-Err-clause-value : goal.returns-in-Err-clause-value
returns-in-Err-clause-value g c =
    let n : ℕ = c.block-n.result in
    let m : ℕ = c.count-m.result in
    let whole : ℕ → ℕ → Result System ElimFault = λ n m. each_down (λ j. answered (past_of n m j) j) m (system_of c.args.s.now) in
    let e : whole n m ≡ whole c.args.s.now.form.block c.args.s.now.form.count = ap (λ (x : ℕ). whole x m) c.loop-j.invariant.block ∙ ap (λ (x : ℕ). whole c.args.s.now.form.block x) c.loop-j.invariant.count in
    let h : answered (past_of n m (c.loop-j.j - 1)) (c.loop-j.j - 1) (system_of c.loop-j.s) ≡ Err c.in-Err.e =
    ap (λ (x : ℕ). answered x (c.loop-j.j - 1) (system_of c.loop-j.s)) (sym c.past.ensures) ∙ c.in-Err.ensures.value in
    sym e ∙ (sym c.loop-j.invariant.rest ∙ each_down_err (λ j. answered (past_of n m j) j) c.loop-j.j (system_of c.loop-j.s) c.in-Err.e c.loop-j-test.true h)
