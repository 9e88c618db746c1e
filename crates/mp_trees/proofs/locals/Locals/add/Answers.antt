use Rattle.std.proofs.Common.{ℕ, List, Bor, Some, cond, ap, ◌∙◌}
use Rattle.std.specs.Str.{bytes_eq}
use Rattle.mp_trees.specs.Locals.{node_in}
use Rattle.mp_trees.proofs.Found.{shown, node_inserted}
use Rattle.mp_trees.proofs.locals.Locals.add.Goals as goal

pub returns : goal.returns
returns c n =
    let key : Bor (List ℕ) → List ℕ = λ k. k.now in
    ap (λ es. node_in (shown key es) n) c.in-Ok.ensures.entries
    ∙ node_inserted key c.self.inside.nodes.entries c.args.name c.args.node n
    ∙ ap (λ l. cond (bytes_eq n c.args.name.now) (Some c.args.node) (node_in l n)) c.self.view_is
