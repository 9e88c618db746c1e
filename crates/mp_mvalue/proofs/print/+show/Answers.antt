use Rattle.std.proofs.Common.{take, ◌+◌, ap, ◌∙◌, arith}
use Rattle.mp_mvalue.specs.Falls.{size_all, size-list}
use Rattle.mp_mvalue.specs.Measures.{all_weight}
use Rattle.mp_mvalue.specs.declared.sharing.Array.TheDeep.{size-SharedValue}
use Rattle.mp_mvalue.specs.Shared.{unshared, all_unshared}
use Rattle.mp_mvalue.proofs.Rows.{shown-turn, take-unshared}
use Rattle.mp_mvalue.proofs.print.+show.Goals as goal

pub show_all-loop-value-preserved : goal.show_all-loop-value-preserved
show_all-loop-value-preserved t c =
    let i = c.loop-value.value-index in
    shown-turn c.loop-value.out c.add.new.self c.show-in-loop-value.new.out c.show.new.out (all_unshared (take i c.in-Some.more.now)) (all_unshared (take (i + 1) c.in-Some.more.now)) (unshared c.value-item.result) c.loop-value.invariant c.in_ok-add.ensures.ok c.in_ok-show-2.ensures (take-unshared c.in-Some.more.now i c.value-item.result c.value-item.result c.loop-value-test.true c.value-item.is)

pub show-show_list-requires : goal.show-show_list-requires
show-show_list-requires t c =
    let e = ap all_weight (c.as_slice-in-List.ensures ∙ c.as_ref-in-List.ensures) in
    (omega (arith, c.decreases, size_all c.as_slice-in-List.result.now, e, ap size-SharedValue c.in-List.is, size-list c.in-List.array), tt)
