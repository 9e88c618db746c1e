use Rattle.std.proofs.Common.{◌≡◌, ◌∙◌, ◌≤◌, ◌-◌, ◌^◌, min, length, arith}
use Rattle.mp_semantics.specs.Term.{Term}
use Rattle.mp_expr.specs.Size.{height_of}
use Rattle.mp_graph.proofs.AllRows.{zip_length, zip_map, map_same}
use Rattle.mp_graph.proofs.Heights.{heights_fit}
use Rattle.mp_graph.proofs.sizes.all_heights.Goals as goal

pub returns : goal.returns
returns c =
    let stopped = λ (t : Term). min (height_of t) (2 ^ 64 - 1) in
    let count : length c.in_ok-rows.rows.items ≡ length c.args.graph.now.terms =
    zip_length (λ t r. r ≡ stopped t) c.args.graph.now.terms c.in_ok-rows.rows.items c.in_ok-rows.ensures in
    let room : length c.args.graph.now.terms ≤ 2 ^ 64 - 1 =
    omega (arith, count, c.in_ok-rows.rows.small, c.in_ok-rows.rows.ok) in
    zip_map stopped c.args.graph.now.terms c.in_ok-rows.rows.items c.in_ok-rows.ensures
    ∙ map_same stopped height_of c.args.graph.now.terms (heights_fit c.args.graph.now.terms (2 ^ 64 - 1) room c.whole.ensures)
