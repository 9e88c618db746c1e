use Rattle.mp_trees.proofs.Tags.{found_at, other_at}
use Rattle.mp_trees.proofs.equation.name_of.Goals as goal

pub returns-then-eq : goal.returns-then-eq
returns-then-eq c =
    found_at c.as_slice-tag-items.result.now c.args.equation.now.tags c.tags.tag-index _ c.as_slice.result.now c.eq.result _ c.as_slice-tag-items.ensures c.tags-test.true c.as_slice.ensures c.eq.ensures c.tags.invariant
    c.unquoted.result.now c.if-eq.true c.unquoted.ensures

pub tags-preserved : goal.tags-preserved
tags-preserved c =
    other_at c.as_slice-tag-items.result.now c.args.equation.now.tags c.tags.tag-index _ c.as_slice.result.now c.eq.result _ c.as_slice-tag-items.ensures c.tags-test.true c.as_slice.ensures c.eq.ensures c.tags.invariant
    c.if-eq.false
