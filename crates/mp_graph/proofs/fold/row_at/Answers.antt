use Rattle.std.proofs.Common.{◌∙◌, ℕ, ap, get_or}
use Rattle.mp_graph.proofs.Rows.{got_by}
use Rattle.mp_graph.proofs.fold.row_at.Goals as goal

pub returns : goal.returns
returns g c =
    got_by c.args.rows.now c.args.id c.index-rows-index.result c.requires (c.index-rows-index.is ∙ ap (λ (n : ℕ). get_or c.args.rows.now n c.index-rows-index.result) c.index.ensures)
