use Rattle.std.proofs.Common.{◌≡◌, ◌<◌, None, List, map, length, ap, sym, ◌∙◌, subst}
use Rattle.std.specs.List.{AllByRecursion}
use Rattle.std.specs.Prelude.{OnOk, IfErr}
use Rattle.mp_file.specs.Shown.{file_of}
use Rattle.mp_values.specs.Names.{Names}
use Rattle.mp_graph.specs.Shared.{Shared}
use Rattle.mp_model_data.specs.Shown.{model_data}
use Rattle.mp_solutions.specs.Auxiliaries.{width, lengths}
use Rattle.mp_shift.specs.declared.parts.Auxiliary.{Auxiliary}
use Rattle.mp_shift.specs.Called.{Called, auxiliary_of, call, names_in, AreOf}
use Rattle.mp_shift.specs.Faults.{naming_faults, Tells}
use Rattle.mp_shift.proofs.Faults.{places_in, are_of, same_faults, names_same, if_ok_both}
use Rattle.mp_shift.proofs.naming.auxiliaries.Goals as goal

pub named-requires : goal.named-requires
named-requires c =
    let M = model_data c.args.model.now in
    let same : names_in M ≡ c.names-names.result.now = names_same c.args.model.now c.graph.ensures.named ∙ sym (c.names-names.ensures ∙ ap (λ (g : Shared). g.names) c.graph.ensures.graph) in
    subst (λ (l : List Auxiliary). AllByRecursion (λ (a : Auxiliary). a.place < length c.names-names.result.now.endogenous) l) (sym c.as_slice-all.ensures.value)
    (subst (λ (ns : Names). AllByRecursion (λ (a : Auxiliary). a.place < length ns.endogenous) c.in_ok-list.list.items) same (places_in (lengths M) (width M) c.in_ok-list.list.items c.in_ok-list.ensures))

pub returns-clause-ok : goal.returns-clause-ok
returns-clause-ok c =
    let M = model_data c.args.model.now in
    let ns = c.names-names.result.now in
    let same : names_in M ≡ ns = names_same c.args.model.now c.graph.ensures.named ∙ sym (c.names-names.ensures ∙ ap (λ (g : Shared). g.names) c.graph.ensures.graph) in
    let those = ap (map auxiliary_of) c.as_slice-all.ensures.value ∙ c.in_ok-list.ensures in
    if_ok_both (λ (xs : List Called). xs ≡ map (call ns.endogenous) (map auxiliary_of c.as_slice-all.result.now)) (λ (xs : List Called). naming_faults (file_of c.args.file.now) ns (map auxiliary_of c.as_slice-all.result.now) ≡ None) (λ (xs : List Called). AreOf M xs) c.named.result
    (λ xs is none. are_of (file_of c.args.file.now) M ns (map auxiliary_of c.as_slice-all.result.now) xs same those is none)
    c.named.ensures.ok c.named.ensures.none

pub returns-clause-none : goal.returns-clause-none
returns-clause-none c =
    let M = model_data c.args.model.now in
    let ns = c.names-names.result.now in
    let same : names_in M ≡ ns = names_same c.args.model.now c.graph.ensures.named ∙ sym (c.names-names.ensures ∙ ap (λ (g : Shared). g.names) c.graph.ensures.graph) in
    let those = ap (map auxiliary_of) c.as_slice-all.ensures.value ∙ c.in_ok-list.ensures in
    subst (λ f. OnOk c.named.result (f ≡ None)) (same_faults (file_of c.args.file.now) M ns (map auxiliary_of c.as_slice-all.result.now) same those) c.named.ensures.none

pub returns-clause-err : goal.returns-clause-err
returns-clause-err c =
    let M = model_data c.args.model.now in
    let ns = c.names-names.result.now in
    let same : names_in M ≡ ns = names_same c.args.model.now c.graph.ensures.named ∙ sym (c.names-names.ensures ∙ ap (λ (g : Shared). g.names) c.graph.ensures.graph) in
    let those = ap (map auxiliary_of) c.as_slice-all.ensures.value ∙ c.in_ok-list.ensures in
    subst (λ f. IfErr c.named.result (Tells f)) (same_faults (file_of c.args.file.now) M ns (map auxiliary_of c.as_slice-all.result.now) same those) c.named.ensures.err
