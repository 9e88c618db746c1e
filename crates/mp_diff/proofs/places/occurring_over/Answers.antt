use Rattle.std.proofs.Common.{ap, ◌∙◌, map}
use Rattle.mp_diff.specs.Places.{place_shown}
use Rattle.mp_diff.proofs.Noted.{noted_are}
use Rattle.mp_diff.proofs.places.occurring_over.Goals as goal

pub returns : goal.returns
returns c =
    let ts = c.args.graph.now.terms in
    let ids = c.args.own.now in
    ap (map place_shown) c.in_ok-list.ensures ∙ c.in_ok-found.ensures ∙ noted_are ts c.args.root ids c.requires.own (c.own_laws.ensures.all ts c.args.root ids c.requires.own)
