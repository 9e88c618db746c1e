use Rattle.std.proofs.Common.{sym, ap, ◌∙◌, arith}
use Rattle.mp_mvalue.specs.Falls.{size_all, size-list}
use Rattle.mp_mvalue.specs.Measures.{all_weight}
use Rattle.mp_mvalue.specs.Shared.{all_unshared}
use Rattle.mp_mvalue.specs.declared.sharing.Array.TheDeep.{size-SharedValue}
use Rattle.mp_mvalue.proofs.Rows.{same_all-lengths}
use Rattle.mp_mvalue.proofs.Lengths.{length-unshared}
use Rattle.mp_mvalue.proofs.equality.+same.Goals as goal

pub same-same_all-requires : goal.same-same_all-requires
same-same_all-requires t c =
    let e = ap all_weight (c.as_slice-in-List-List.ensures ∙ c.as_ref-in-List-List.ensures) in
    (omega (arith, c.decreases, size_all c.as_slice-in-List-List.result.now, e, ap size-SharedValue c.in-List-List.is-0, size-list c.in-List-List.xs), tt)

pub same_all-returns-then-xs-ys : goal.same_all-returns-then-xs-ys
same_all-returns-then-xs-ys t c =
    sym (same_all-lengths (all_unshared c.args.xs.now) (all_unshared c.args.ys.now) (λ e. c.if-xs-ys.true (sym (length-unshared c.args.xs.now) ∙ e ∙ length-unshared c.args.ys.now)))
