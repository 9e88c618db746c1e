use Rattle.std.proofs.Common.{◌≡◌, ℕ, Bool, false, List, length, replicate, subst, sym, ◌∙◌}
use Rattle.std.proofs.lemmas.List.{take_at}
use Rattle.std.proofs.lemmas.Result.{IfOk-weaker}
use Rattle.mp_pairing.specs.Lists.{IsMarked}
use Rattle.mp_model_data.specs.Shown.{equation_in, sides_of}
use Rattle.mp_blocks.specs.Marks.{AddsMarks}
use Rattle.mp_blocks.specs.Rows.{OccursIn}
use Rattle.mp_blocks.proofs.Occurring.{row_of}
use Rattle.mp_blocks.proofs.rows.row.Goals as goal

pub returns : goal.returns
returns c =
    let n = c.args.variables in
    let e = equation_in c.args.graph.now.terms (sides_of c.args.equation.now) in
    let marks = c.in_ok-marks.marks in
    let new = c.mark_both.new.marks in
    let none : marks.items ≡ replicate n false = c.in_ok-marks.ensures.items_if_clones_equal (λ y h. h) in
    let adds : AddsMarks (λ v. OccursIn v e) marks.items new = subst (λ (ms : List Bool). AddsMarks (λ (v : ℕ). OccursIn v e) ms new) c.deref_mut.ensures.value c.in_ok-mark_both.ensures in
    let size : length new ≡ marks.len = adds.size ∙ sym marks.ok.0 in
    let same : c.deref.result.now ≡ new = c.deref.ensures.value ∙ take_at new _ marks.len size in
    IfOk-weaker _ _ _ (λ xs is. row_of n e new xs (subst (λ (ms : List Bool). AddsMarks (λ (v : ℕ). OccursIn v e) ms new) none adds)
    (subst (λ (ms : List Bool). IsMarked ms (length ms) xs) same is)) c.marked.ensures
