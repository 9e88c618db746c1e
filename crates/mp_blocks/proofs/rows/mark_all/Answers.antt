use Rattle.std.proofs.Common.{ℕ, List, length, subst}
use Rattle.mp_blocks.specs.Marks.{AddsMarks, IsAmong}
use Rattle.mp_blocks.proofs.Marks.{own_marks}
use Rattle.mp_blocks.proofs.rows.mark_all.Goals as goal

pub returns : goal.returns
returns c =
    let ts = c.args.graph.now.terms in
    let ids = c.in_ok-own.own.items in
    let old = c.args.marks.now in
    let new = c.mark_each.new.marks in
    let own = c.in_ok-own.ensures in
    own_marks ts c.args.root ids old new own (c.own_laws.ensures.all ts c.args.root ids own)
    (subst (λ (xs : List ℕ). AddsMarks (IsAmong ts xs (length xs)) old new) c.deref.ensures.value c.mark_each.ensures)
