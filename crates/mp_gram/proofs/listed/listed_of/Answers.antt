use Rattle.std.proofs.Common.{◌∙◌, Ok, ap, map, sym}
use Rattle.mp_gram_expr.specs.Shown.{toks}
use Rattle.mp_gram.proofs.Lists.{fenced_none}
use Rattle.mp_gram.proofs.listed.listed_of.Goals as goal

pub returns-clause-value : goal.returns-clause-value
returns-clause-value g c =
    let ts = toks c.args.tokens.now in
    fenced_none c.args.opening c.args.closing g.L.Listed.format ts (sym c.meets.ensures ∙ c.if-meets.false) ∙ ap (λ l. Ok (map g.L.Listed.shown l, ts)) (sym c.new.ensures)
