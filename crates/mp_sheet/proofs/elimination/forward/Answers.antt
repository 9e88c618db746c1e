use Rattle.std.proofs.Common.{◌≡◌, ◌≤◌, ◌+◌, ◌*◌, ◌∙◌, sym, ap, subst, ℕ, Result, Ok, Err}
use Rattle.mp_elim.specs.declared.ElimFault.{ElimFault}
use Rattle.mp_turns.specs.Turns.{each}
use Rattle.mp_elim.specs.Elimination.{System, column}
use Rattle.mp_elim.specs.Shape.{IsTridiagonal, low_of, past_of}
use Rattle.mp_turns.proofs.Each.{each_ok, each_err}
use Rattle.mp_elim.proofs.Band.{shape_more}
use Rattle.mp_sheet.specs.Layout.{Form, IsRoomy, system_of}
use Rattle.mp_sheet.proofs.Places.{inside_count}
use Rattle.mp_sheet.proofs.Reach.{window_at, cost_next, all_cost}
use Rattle.mp_sheet.proofs.elimination.forward.Goals as goal

pub column-requires-clause-window : goal.column-requires-clause-window
column-requires-clause-window g c =
    let e : c.args.s.now.form ≡ c.loop-j.s.form = sym c.loop-j.invariant.form in
    window_at c.loop-j.s.form (system_of c.args.s.now) (system_of c.loop-j.s) c.block-n.result c.count-m.result c.loop-j.j c.low.result c.past.result
    (c.loop-j.invariant.block ∙ ap (λ (f : Form). f.block) e) (c.loop-j.invariant.count ∙ ap (λ (f : Form). f.count) e) c.low.ensures c.past.ensures
    c.block-n.ensures.some c.loop-j-test.true (subst (λ (f : Form). IsRoomy f) e c.requires.roomy) (λ i k h. inside_count c.loop-j.s i k h) c.loop-j.invariant.shape

pub returns-in-Err-clause-value : goal.returns-in-Err-clause-value
returns-in-Err-clause-value g c =
    let n : ℕ = c.block-n.result in
    let m : ℕ = c.count-m.result in
    let s : System = system_of c.loop-j.s in
    let whole : ℕ → ℕ → Result System ElimFault = λ n m. each (λ j. column c.args.threshold (low_of n m j) (past_of n m j) j) 0 m (system_of c.args.s.now) in
    let e : whole n m ≡ whole c.args.s.now.form.block c.args.s.now.form.count = ap (λ (x : ℕ). whole x m) c.loop-j.invariant.block ∙ ap (λ (x : ℕ). whole c.args.s.now.form.block x) c.loop-j.invariant.count in
    let h : column c.args.threshold (low_of n m c.loop-j.j) (past_of n m c.loop-j.j) c.loop-j.j s ≡ Err c.in-Err.e =
    ap (λ (x : ℕ). column c.args.threshold x (past_of n m c.loop-j.j) c.loop-j.j s) (sym c.low.ensures) ∙ (ap (λ (x : ℕ). column c.args.threshold c.low.result x c.loop-j.j s) (sym c.past.ensures) ∙ c.in-Err.ensures.value) in
    sym e ∙ (sym c.loop-j.invariant.rest ∙ each_err (λ j. column c.args.threshold (low_of n m j) (past_of n m j) j) c.loop-j.j m s c.in-Err.e c.loop-j-test.true h)

pub returns-in-Err-clause-cost : goal.returns-in-Err-clause-cost
returns-in-Err-clause-cost g c =
    let n : ℕ = c.block-n.result in
    let m : ℕ = c.count-m.result in
    let bound : ℕ → ℕ → Type 0 = λ n m. c.column.new.steps ≤ c.args.steps.now + m * (12 * n * n) in
    subst (λ (x : ℕ). bound c.args.s.now.form.block x) c.loop-j.invariant.count
    (subst (λ (x : ℕ). bound x m) c.loop-j.invariant.block
    (all_cost c.column.new.steps c.args.steps.now c.loop-j.j m (12 * n * n) c.loop-j-test.true
    (cost_next n m c.loop-j.j c.low.result c.past.result c.args.steps.now c.loop-j.steps c.column.new.steps c.low.ensures c.past.ensures c.block-n.ensures.some c.loop-j-test.true c.loop-j.invariant.cost c.column.ensures.cost)))

pub loop-j-preserved : goal.loop-j-preserved
loop-j-preserved g c =
    let n : ℕ = c.block-n.result in
    let m : ℕ = c.count-m.result in
    let s : System = system_of c.loop-j.s in
    let t : System = system_of c.column.new.s in
    let h : column c.args.threshold (low_of n m c.loop-j.j) (past_of n m c.loop-j.j) c.loop-j.j s ≡ Ok t =
    ap (λ (x : ℕ). column c.args.threshold x (past_of n m c.loop-j.j) c.loop-j.j s) (sym c.low.ensures) ∙ (ap (λ (x : ℕ). column c.args.threshold c.low.result x c.loop-j.j s) (sym c.past.ensures) ∙ c.in-Ok.ensures.value) in
    record {
      rest = sym (each_ok (λ j. column c.args.threshold (low_of n m j) (past_of n m j) j) c.loop-j.j m s t c.loop-j-test.true h) ∙ c.loop-j.invariant.rest;
      form = c.column.ensures.form ∙ c.loop-j.invariant.form;
      block = c.loop-j.invariant.block;
      count = c.loop-j.invariant.count;
      shape = shape_more c.args.threshold n m c.loop-j.j (system_of c.args.s.now) s t c.block-n.ensures.some c.loop-j-test.true
          (subst (λ (x : ℕ). IsTridiagonal x (system_of c.args.s.now)) (sym c.loop-j.invariant.block) c.requires.shape) c.loop-j.invariant.shape h;
      cost = cost_next n m c.loop-j.j c.low.result c.past.result c.args.steps.now c.loop-j.steps c.column.new.steps c.low.ensures c.past.ensures c.block-n.ensures.some c.loop-j-test.true c.loop-j.invariant.cost c.column.ensures.cost;
    }
