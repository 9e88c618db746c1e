use Rattle.std.proofs.Common.{ℕ, List, Bor, ap, sym, ◌∙◌}
use Rattle.mp_trees.specs.Locals.{node_in}
use Rattle.mp_trees.proofs.Found.{node_lookup}
use Rattle.mp_trees.proofs.locals.Locals.find.Goals as goal

pub returns-in-Some : goal.returns-in-Some
returns-in-Some c =
    let key : Bor (List ℕ) → List ℕ = λ k. k.now in
    c.in-Some.ensures.value
    ∙ sym (node_lookup key c.self.inside.nodes.entries c.args.name.now)
    ∙ ap (λ l. node_in l c.args.name.now) c.self.view_is

pub returns-in-None : goal.returns-in-None
returns-in-None c =
    let key : Bor (List ℕ) → List ℕ = λ k. k.now in
    c.in-None.ensures.value
    ∙ sym (node_lookup key c.self.inside.nodes.entries c.args.name.now)
    ∙ ap (λ l. node_in l c.args.name.now) c.self.view_is
