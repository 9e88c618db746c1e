use Rattle.std.proofs.Common.{◌<◌, ◌∙◌, sym, ap, subst, refl, ℕ, Result}
use Rattle.mp_elim.specs.declared.ElimFault.{ElimFault}
use Rattle.mp_turns.specs.Turns.{each, each_down}
use Rattle.mp_elim.specs.Elimination.{System, column, answered}
use Rattle.mp_elim.specs.Shape.{low_of, past_of}
use Rattle.mp_elim.proofs.Band.{banded_whole}
use Rattle.mp_sheet.specs.Layout.{Form, system_of}
use Rattle.mp_sheet.proofs.Steps.{then_ok, then_err, leads_by}
use Rattle.mp_sheet.proofs.elimination.eliminate.Goals as goal

pub returns-in-Ok-clause-value : goal.returns-in-Ok-clause-value
returns-in-Ok-clause-value g c =
    let f : Form = c.args.s.now.form in
    let s : System = system_of c.args.s.now in
    let t : System = system_of c.forward.new.s in
    let z : 0 < f.block = subst (λ (n : ℕ). 0 < n) c.block-some.ensures.value c.block-some.ensures.some in
    let back : Form → Result System ElimFault = λ f. each_down (λ j. answered (past_of f.block f.count j) j) f.count t in
    leads_by c.backward.result (back c.forward.new.s.form) _ (system_of c.backward.new.s)
    (ap back c.forward.ensures.form
    ∙ sym (sym (banded_whole c.args.threshold f.block f.count s z c.requires.shape c.count-right.ensures.small)
    ∙ then_ok (each (λ j. column c.args.threshold (low_of f.block f.count j) (past_of f.block f.count j) j) 0 f.count s) (λ u. each_down (λ j. answered (past_of f.block f.count j) j) f.count u) t (back f) c.in-Ok.ensures.value refl))
    c.backward.ensures.value

pub returns-in-Err-clause-value : goal.returns-in-Err-clause-value
returns-in-Err-clause-value g c =
    let f : Form = c.args.s.now.form in
    let s : System = system_of c.args.s.now in
    let z : 0 < f.block = subst (λ (n : ℕ). 0 < n) c.block-some.ensures.value c.block-some.ensures.some in
    sym (banded_whole c.args.threshold f.block f.count s z c.requires.shape c.count-right.ensures.small)
    ∙ then_err (each (λ j. column c.args.threshold (low_of f.block f.count j) (past_of f.block f.count j) j) 0 f.count s) (λ u. each_down (λ j. answered (past_of f.block f.count j) j) f.count u) c.in-Err.e c.in-Err.ensures.value
