use Rattle.std.proofs.Common.{ℕ, List, Bor, Some, option_map, ap, sym, ◌∙◌}
use Rattle.mp_frac.specs.Value.{value_of}
use Rattle.mp_values.specs.Table.{Table, with_value}
use Rattle.mp_names.proofs.EntryLaws.{shown, shown-insert_entry, with_value-absent}
use Rattle.mp_names.proofs.table.Table.set.Goals as goal

pub returns-then-is_some : goal.returns-then-is_some
returns-then-is_some c =
    let key : Bor (List ℕ) → List ℕ = λ k. k.now in
    let there = sym c.get_index_of.ensures.found ∙ sym c.is_some.ensures ∙ c.if-is_some.true in
    let put = shown-insert_entry key (option_map value_of) c.self.inside.values.entries c.args.name (Some c.args.value) c.get_index_of.ensures.unique there in
    ap (shown key (option_map value_of)) (rw c.unwrap.ensures at c.insert.ensures.entries) ∙ put
    ∙ ap (λ (t : Table). with_value c.args.name.now (Some (value_of c.args.value)) t) c.self.view_is

pub returns-else-is_some : goal.returns-else-is_some
returns-else-is_some c =
    let key : Bor (List ℕ) → List ℕ = λ k. k.now in
    let none = sym c.get_index_of.ensures.found ∙ sym c.is_some.ensures ∙ c.if-is_some.false in
    sym (ap (λ (t : Table). with_value c.args.name.now (Some (value_of c.args.value)) t) (sym c.self.view_is)
    ∙ with_value-absent key (option_map value_of) c.self.inside.values.entries c.args.name.now (Some (value_of c.args.value)) none
    ∙ c.self.view_is)
