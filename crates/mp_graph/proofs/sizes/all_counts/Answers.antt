use Rattle.std.proofs.Common.{◌^◌, min}
use Rattle.mp_expr.specs.Size.{count_of}
use Rattle.mp_graph.proofs.AllRows.{zip_map}
use Rattle.mp_graph.proofs.sizes.all_counts.Goals as goal

pub returns : goal.returns
returns c = zip_map (λ t. min (count_of t) (10 ^ 37)) c.args.graph.now.terms c.in_ok-rows.rows.items c.in_ok-rows.ensures
