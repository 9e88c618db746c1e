use Rattle.std.proofs.Common.{◌+◌, ◌∙◌, ap, max, min}
use Rattle.mp_mvalue.specs.Shared.{unshared}
use Rattle.mp_mvalue.proofs.Made.{gathers-with, within-true}
use Rattle.mp_mvalue.proofs.gathered.Gathered.with.Goals as goal

pub returns : goal.returns
returns c = λ xs g.
    gathers-with c.args.self _ xs (unshared c.args.value) g c.counted-count.ensures (c.max-deepest.ensures ∙ ap (max c.args.self.deepest) c.depth.ensures.value) (c.capped-length.ensures.value ∙ ap (λ n. min 8388609 (c.args.self.length + n)) c.spread_of.ensures.value)
    (λ few flat short. c.in_ok-kept_with.ensures (c.is_within-within.ensures ∙ within-true c.counted-count.result c.max-deepest.result c.capped-length.result few flat short))
