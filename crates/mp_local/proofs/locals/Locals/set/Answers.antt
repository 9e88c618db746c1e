use Rattle.std.proofs.Common.{Bor, ℕ, List, ap, ◌∙◌}
use Rattle.mp_local.specs.Locals.{ends_in}
use Rattle.mp_local.proofs.EntryLaws.{found-insert_entry}
use Rattle.mp_local.proofs.locals.Locals.set.Goals as goal

pub returns-in-Ok : goal.returns-in-Ok
returns-in-Ok c other =
    let key : Bor (List ℕ) → List ℕ = λ k. k.now in
    ap (λ es. ends_in es other) c.in-Ok.ensures.entries ∙ found-insert_entry key other c.args.self.now.ends.entries c.args.name c.args.ends
