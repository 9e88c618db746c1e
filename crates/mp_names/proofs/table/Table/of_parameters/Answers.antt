use Rattle.std.proofs.Common.{ℕ, List, Bor, map, None, option_map, refl, ap, ◌∙◌}
use Rattle.std.proofs.lemmas.List.{take_all}
use Rattle.mp_frac.specs.Value.{value_of}
use Rattle.mp_values.specs.Table.{unset}
use Rattle.mp_names.proofs.EntryLaws.{shown, entries-next, shown-unset}
use Rattle.mp_names.proofs.table.Table.of_parameters.Goals as goal

pub turns-preserved : goal.turns-preserved
turns-preserved c =
    let key : Bor (List ℕ) → List ℕ = λ k. k.now in
    let all = c.as_slice-name-items.result.now in
    c.in-Ok.ensures.entries
    ∙ entries-next key (option_map value_of) None all c.turns.values.entries c.turns.name-index _ c.as_slice-name-items.ensures.once c.turns-test.true c.turns.invariant

pub returns : goal.returns
returns c =
    let key : Bor (List ℕ) → List ℕ = λ k. k.now in
    let all = c.as_slice-name-items.result.now in
    ap (shown key (option_map value_of)) (c.turns.invariant ∙ ap (map (λ k. (k, None))) (take_all c.turns.name-index all c.turns-test.false))
    ∙ shown-unset key (option_map value_of) None all refl
    ∙ ap unset (c.as_slice-name-items.ensures.names ∙ c.of_kind.ensures)
