use Rattle.std.proofs.Common.{◌-◌, drop, refl, ap, ◌∙◌}
use Rattle.mp_transform.specs.Text.{wrong_token}
use Rattle.mp_transform.proofs.Places.{stops_here}
use Rattle.mp_transform.proofs.reading.wrong_token.Goals as goal

pub returns : goal.returns
returns c =
    c.stops_at.ensures
    ∙ stops_here c.as_slice-all.result.now (c.args.index - 1) _ _ c.args.end c.if-before-all.false refl
    ∙ ap (λ ts. wrong_token c.args.end (drop (c.args.index - 1) ts)) c.as_slice-all.ensures
