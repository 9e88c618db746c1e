use Rattle.std.proofs.Common.{[], map, length, Ok, sym, ap, subst, ◌∙◌}
use Rattle.mp_file.specs.Shown.{file_of}
use Rattle.mp_statements.specs.Parts.{items_of}
use Rattle.mp_graph.specs.Shared.{Shared}
use Rattle.mp_model_data.specs.Shown.{Held, parameter_of, sides_of, model_data}
use Rattle.mp_values.specs.Names.{Names, names_of}
use Rattle.mp_values.specs.ModelOf.{equations_given}
use Rattle.mp_trees.proofs.Bound.{Fails-bind}
use Rattle.mp_trees.specs.Earlier.{ItemsHaveDifferences}
use Rattle.mp_trees.proofs.Far.{not_far}
use Rattle.mp_trees.proofs.Parameters.{parameters_named}
use Rattle.mp_trees.proofs.Whole.{equations_fail, equations_are, model_is}
use Rattle.mp_trees.proofs.file.model.Goals as goal

pub equations_of_file-requires : goal.equations_of_file-requires
equations_of_file-requires c =
    let items = items_of (file_of c.args.file.now) in
    subst (λ (g : Shared). ItemsHaveDifferences g.names [] items) (sym c.new-graph.ensures) (not_far c.args.names items c.requires.far)

pub returns-in-Err-equations_of_file : goal.returns-in-Err-equations_of_file
returns-in-Err-equations_of_file c =
    let file = file_of c.args.file.now in
    let t = c.args.table.now in
    let items = items_of file in
    let named = ap (λ (g : Shared). g.names) c.new-graph.ensures ∙ c.requires.names in
    let law = c.exponents_law.ensures (names_of file) t items c.args.exponents.now c.requires.exponents in
    let e = c.in-Err-equations_of_file.fault in
    rw (c.in-Ok.ensures)
    (Fails-bind e (equations_given file t) _ (equations_fail _ _ items _ _ (equations_given file t) named c.of-exponents.ensures law e c.in-Err-equations_of_file.ensures.equations))

pub new-requires-clause-named : goal.new-requires-clause-named
new-requires-clause-named c =
    let file = file_of c.args.file.now in
    let named = ap (λ (g : Shared). g.names) c.new-graph.ensures ∙ c.requires.names in
    parameters_named file c.args.table.now _ c.requires.values c.in-Ok.ensures
    ∙ sym (ap (λ (n : Names). n.parameters) (c.in-Ok-equations_of_file.ensures.kept.names ∙ named))

pub returns-in-Ok-equations_of_file : goal.returns-in-Ok-equations_of_file
returns-in-Ok-equations_of_file c =
    let file = file_of c.args.file.now in
    let t = c.args.table.now in
    let items = items_of file in
    let named = ap (λ (g : Shared). g.names) c.new-graph.ensures ∙ c.requires.names in
    let law = c.exponents_law.ensures (names_of file) t items c.args.exponents.now c.requires.exponents in
    let h : Held = record {
      graph = c.equations_of_file.new.graph;
      parameters = map parameter_of c.in-Ok.parameters.items;
      equations = map sides_of c.in-Ok-equations_of_file.equations.items;
      source = map sides_of c.in-Ok-equations_of_file.equations.items;
      variables = length c.equations_of_file.new.graph.names.endogenous;
    } in
    model_is file t h c.in-Ok.ensures
    (equations_are _ _ items _ _ (equations_given file t) named c.of-exponents.ensures law _ _ c.in-Ok-equations_of_file.ensures.equations)
    (c.in-Ok-equations_of_file.ensures.kept.names ∙ named)
    ∙ ap (λ (x : Held). Ok (model_data x)) (sym c.new.ensures)
