use Rattle.std.proofs.Common.{◌<◌, List, map, length, refl, ap, sym, ◌∙◌, subst}
use Rattle.std.specs.List.{AllByRecursion}
use Rattle.std.specs.List as std
use Rattle.std.specs.Str.{bytes_eq}
use Rattle.mp_semantics.specs.Model as m
use Rattle.mp_values.specs.Names.{Names}
use Rattle.mp_graph.specs.Shared.{Shared}
use Rattle.mp_model_data.specs.declared.parts.Equation.{Equation}
use Rattle.mp_model_data.specs.Shown.{Held, Sides, sides_of, IsWithin, model_data, source_data}
use Rattle.mp_solutions.specs.ShortForm.{IsShortForm}
use Rattle.mp_shift.specs.declared.first.First.{First}
use Rattle.mp_shift.specs.Called.{Called, AreNew, with_names}
use Rattle.mp_shift.specs.Equations.{AreBuilt, HasStandIns}
use Rattle.mp_shift.specs.Stand.{AreFirst}
use Rattle.mp_shift.proofs.Transformed.{are_new, places_are, stand_ins_are, is_transformed, is_source, few}
use Rattle.mp_shift.proofs.model.transform.Goals as goal

pub all_equations-requires-clause-within : goal.all_equations-requires-clause-within
all_equations-requires-clause-within c =
    let h = c.args.model in
    subst (λ (g : Shared). AllByRecursion (IsWithin g) (map sides_of c.as_slice-sides.result.now)) (sym c.into_parts-graph.ensures.graph)
    (subst (λ (l : List Sides). AllByRecursion (IsWithin h.graph) l) (sym (ap (map sides_of) c.as_slice-sides.ensures.value ∙ c.into_parts-graph.ensures.equations)) c.into_parts-graph.ensures.within)

pub all_equations-requires-clause-new : goal.all_equations-requires-clause-new
all_equations-requires-clause-new c =
    let h = c.args.model in
    let distinct = subst (λ (ns : Names). std.IsDistinct bytes_eq ns.endogenous) (c.names.ensures ∙ ap (λ (g : Shared). g.names) c.graph.ensures.graph) c.distinct.ensures in
    subst (λ (g : Shared). AreNew g.names c.args.auxiliaries.now) (sym c.into_parts-graph.ensures.graph) (are_new h c.args.auxiliaries.now c.requires c.graph.ensures.named distinct)

pub all_equations-requires-clause-places : goal.all_equations-requires-clause-places
all_equations-requires-clause-places c =
    let h = c.args.model in
    subst (λ (g : Shared). AllByRecursion (λ (x : Called). x.auxiliary.place < length g.names.endogenous) c.args.auxiliaries.now) (sym c.into_parts-graph.ensures.graph) (places_are h c.args.auxiliaries.now c.requires (length h.graph.names.endogenous) refl)

pub all_equations-requires-clause-stand_ins : goal.all_equations-requires-clause-stand_ins
all_equations-requires-clause-stand_ins c =
    let h = c.args.model in
    let xs = c.args.auxiliaries.now in
    let fs = c.as_slice-begins.result.now in
    let first = subst (λ (l : List First). AreFirst (model_data h) l) (sym c.as_slice-begins.ensures.value) c.in-Ok.ensures in
    subst (λ (g : Shared). AllByRecursion (HasStandIns (with_names xs g.names).endogenous g.terms fs) (map sides_of c.as_slice-sides.result.now)) (sym c.into_parts-graph.ensures.graph)
    (subst (λ (l : List Sides). AllByRecursion (HasStandIns (with_names xs h.graph.names).endogenous h.graph.terms fs) l) (sym (ap (map sides_of) c.as_slice-sides.ensures.value ∙ c.into_parts-graph.ensures.equations)) (stand_ins_are h xs c.requires fs first c.closed.ensures))

pub with_source-requires-clause-named : goal.with_source-requires-clause-named
with_source-requires-clause-named c =
    ap (map (λ (p : m.Parameter). p.name)) c.into_parts-graph.ensures.parameters
    ∙ c.into_parts-graph.ensures.named
    ∙ ap (λ (g : Shared). g.names.parameters) (sym c.into_parts-graph.ensures.graph)
    ∙ sym (ap (λ (ns : Names). ns.parameters) c.in-Ok-all_equations.ensures.names)

pub with_source-requires-clause-within : goal.with_source-requires-clause-within
with_source-requires-clause-within c = c.in-Ok-all_equations.ensures.within

pub with_source-requires-clause-source_within : goal.with_source-requires-clause-source_within
with_source-requires-clause-source_within c =
    subst (λ (l : List Equation). AllByRecursion (IsWithin c.all_equations.new.graph) (map sides_of l)) c.as_slice-sides.ensures.value c.in-Ok-all_equations.ensures.kept_within

pub with_source-requires-clause-few : goal.with_source-requires-clause-few
with_source-requires-clause-few c =
    few c.args.model c.args.auxiliaries.now c.requires c.into_parts-graph.result.graph c.all_equations.new.graph _ (map sides_of c.as_slice-sides.result.now) (map sides_of c.in-Ok-all_equations.equations.items) c.count-variables.result c.as_slice-begins.result.now c.into_parts-graph.ensures.graph c.into_parts-graph.ensures.parameters (ap (map sides_of) c.as_slice-sides.ensures.value ∙ c.into_parts-graph.ensures.equations) (c.count-variables.ensures.count ∙ ap (λ (ns : Names). length ns.endogenous) c.names-names.ensures ∙ ap (λ (g : Shared). length g.names.endogenous) c.into_parts-graph.ensures.graph) c.in-Ok-all_equations.ensures

pub returns-clause-transformed : goal.returns-clause-transformed
returns-clause-transformed c =
    let h = c.args.model in
    let b = subst (λ (l : List Equation). AreBuilt c.into_parts-graph.result.graph c.all_equations.new.graph (map sides_of l) c.args.auxiliaries.now c.as_slice-begins.result.now (map sides_of c.in-Ok-all_equations.equations.items)) c.as_slice-sides.ensures.value c.in-Ok-all_equations.ensures in
    let first = subst (λ (l : List First). AreFirst (model_data h) l) (sym c.as_slice-begins.ensures.value) c.in-Ok.ensures in
    ap (λ (k : Held). model_data k) c.with_source.ensures
    ∙ is_transformed h c.args.auxiliaries.now c.requires c.into_parts-graph.result.graph c.all_equations.new.graph _ _ _ c.count-variables.result c.as_slice-begins.result.now c.into_parts-graph.ensures.graph c.into_parts-graph.ensures.parameters c.into_parts-graph.ensures.equations (c.count-variables.ensures.count ∙ ap (λ (ns : Names). length ns.endogenous) c.names-names.ensures ∙ ap (λ (g : Shared). length g.names.endogenous) c.into_parts-graph.ensures.graph) b c.closed.ensures first

pub returns-clause-short_form : goal.returns-clause-short_form
returns-clause-short_form c =
    let h = c.args.model in
    let b = subst (λ (l : List Equation). AreBuilt c.into_parts-graph.result.graph c.all_equations.new.graph (map sides_of l) c.args.auxiliaries.now c.as_slice-begins.result.now (map sides_of c.in-Ok-all_equations.equations.items)) c.as_slice-sides.ensures.value c.in-Ok-all_equations.ensures in
    let first = subst (λ (l : List First). AreFirst (model_data h) l) (sym c.as_slice-begins.ensures.value) c.in-Ok.ensures in
    subst (λ N. IsShortForm (model_data h) N)
    (sym
    (ap (λ (k : Held). model_data k) c.with_source.ensures
    ∙ is_transformed h c.args.auxiliaries.now c.requires c.into_parts-graph.result.graph c.all_equations.new.graph _ _ _ c.count-variables.result c.as_slice-begins.result.now c.into_parts-graph.ensures.graph c.into_parts-graph.ensures.parameters c.into_parts-graph.ensures.equations (c.count-variables.ensures.count ∙ ap (λ (ns : Names). length ns.endogenous) c.names-names.ensures ∙ ap (λ (g : Shared). length g.names.endogenous) c.into_parts-graph.ensures.graph) b c.closed.ensures first))
    (c.short_form_law.ensures (model_data h) c.closed.ensures)

pub returns-clause-source : goal.returns-clause-source
returns-clause-source c =
    let h = c.args.model in
    let b = subst (λ (l : List Equation). AreBuilt c.into_parts-graph.result.graph c.all_equations.new.graph (map sides_of l) c.args.auxiliaries.now c.as_slice-begins.result.now (map sides_of c.in-Ok-all_equations.equations.items)) c.as_slice-sides.ensures.value c.in-Ok-all_equations.ensures in
    ap (λ (k : Held). source_data k) c.with_source.ensures
    ∙ is_source h c.args.auxiliaries.now c.requires c.into_parts-graph.result.graph c.all_equations.new.graph _ _ _ c.count-variables.result c.as_slice-begins.result.now c.into_parts-graph.ensures.graph c.into_parts-graph.ensures.parameters c.into_parts-graph.ensures.equations (c.count-variables.ensures.count ∙ ap (λ (ns : Names). length ns.endogenous) c.names-names.ensures ∙ ap (λ (g : Shared). length g.names.endogenous) c.into_parts-graph.ensures.graph) b
