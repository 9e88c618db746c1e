use Rattle.std.proofs.Common.{ℕ, List, Bor, option_map, ap, sym, ◌∙◌}
use Rattle.mp_frac.specs.Value.{value_of}
use Rattle.mp_values.specs.Table.{Table, value_in}
use Rattle.mp_names.proofs.EntryLaws.{found, value_in-shown}
use Rattle.mp_names.proofs.table.Table.get.Goals as goal

pub returns-in-Some : goal.returns-in-Some
returns-in-Some c =
    let key : Bor (List ℕ) → List ℕ = λ k. k.now in
    ap (found key (option_map value_of)) c.in-Some.ensures.value
    ∙ sym (value_in-shown key (option_map value_of) c.self.inside.values.entries c.args.name.now)
    ∙ ap (λ (t : Table). value_in t c.args.name.now) c.self.view_is

pub returns-in-None : goal.returns-in-None
returns-in-None c =
    let key : Bor (List ℕ) → List ℕ = λ k. k.now in
    ap (found key (option_map value_of)) c.in-None.ensures.value
    ∙ sym (value_in-shown key (option_map value_of) c.self.inside.values.entries c.args.name.now)
    ∙ ap (λ (t : Table). value_in t c.args.name.now) c.self.view_is
