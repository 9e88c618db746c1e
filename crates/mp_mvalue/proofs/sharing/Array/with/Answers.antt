use Rattle.std.proofs.Common.{◌+◌, ◌∙◌, ap, max, min}
use Rattle.mp_mvalue.proofs.Made.{measured-with}
use Rattle.mp_mvalue.proofs.sharing.Array.with.Goals as goal

pub invariant_of-result : goal.invariant_of-result
invariant_of-result c =
    measured-with c.self.inside.elements c.push.new.self c.args.self c.args.value c.max-deepest.result c.capped-length.result c.deepest.result c.spread.result c.self.view_is c.in_ok-push.ensures.ok c.deepest.ensures.value c.spread.ensures.value (c.max-deepest.ensures ∙ ap (max c.deepest.result) c.depth.ensures.value) (c.capped-length.ensures.value ∙ ap (λ n. min 8388609 (c.spread.result + n)) c.spread_of.ensures.value)
