use Rattle.std.proofs.Common.{◌≡◌, ◌+◌, Bool, List, length, Some, subst, sym, ◌∙◌, arith}
use Rattle.std.proofs.lemmas.List.{take_at}
use Rattle.mp_pairing.specs.Lists.{IsMarked}
use Rattle.mp_order.specs.Placing.{NoneBefore, IsNext, AddsMarked, IsArranged}
use Rattle.mp_order.proofs.Placed.{all_placed, all_turns, arranged_more}
use Rattle.mp_order.proofs.blocks.arranged.Goals as goal

pub returns-in-None : goal.returns-in-None
returns-in-None c =
    let t = c.args.reach.now in
    all_placed t c.turns._turn c.turns.placed.items c.turns.blocks c.requires.preorder c.turns.invariant
    (subst (λ (ps : List Bool). NoneBefore t ps (length t) (length t)) c.deref.ensures.value c.in-None.ensures)

pub turns-preserved : goal.turns-preserved
turns-preserved c =
    let t = c.args.reach.now in
    let placed = c.turns.placed.items in
    let class = c.in_ok-class-in-Some.class.items in
    let new = c.place.new.placed in
    let next : IsNext t placed (length t) (Some c.in-Some.e) = subst (λ (ps : List Bool). IsNext t ps (length t) (Some c.in-Some.e)) c.deref.ensures.value c.in-Some.ensures in
    let marked : IsMarked class (length class) c.in_ok-block-in-Some.block =
    subst (λ (ms : List Bool). IsMarked ms (length ms) c.in_ok-block-in-Some.block) c.deref-in-Some.ensures.value c.in_ok-block-in-Some.ensures in
    let adds : AddsMarked class (length class) placed new =
    subst (λ (ms : List Bool). AddsMarked ms (length ms) placed new) c.deref-in-Some-2.ensures.value
    (subst (λ (ps : List Bool). AddsMarked c.deref-in-Some-2.result.now (length c.deref-in-Some-2.result.now) ps new) c.deref_mut.ensures.value c.place.ensures) in
    let size : length new ≡ c.turns.placed.len = adds.size ∙ sym c.turns.placed.ok.0 in
    let same = take_at new _ c.turns.placed.len size in
    subst (λ (ps : List Bool). IsArranged t (length t) (c.turns._turn + 1) ps c.add.new.self) (sym same)
    (rw c.in_ok-add-in-Some.ensures.ok (arranged_more t c.turns._turn c.in-Some.e placed new class c.in_ok-block-in-Some.block c.turns.blocks c.requires.preorder c.turns.invariant
    next.0 next.1 next.2 next.3 c.in_ok-class-in-Some.ensures marked adds))

pub returns : goal.returns
returns c = all_turns c.args.reach.now c.turns._turn c.turns.placed.items c.turns.blocks c.requires.preorder c.turns.invariant (omega arith)
