-- The canonical texts of the examples.
use Rattle.std.proofs.Common.{◌≡◌, ℕ, List, [], ◌∷◌, ◌++◌, refl, ap, codes}
use Rattle.mp_syntax.specs.Syntax.{Expr}
use Rattle.mp_statements.specs.declared.kind.NameKind.TheVariants as kind
use Rattle.mp_statements.specs.Statements.{Assigns}
use Rattle.mp_format.specs.Spelling.{text}
use Rattle.mp_expressions.specs.Script.{expr_pieces}
use Rattle.mp_grammar.specs.Tags.{tag, further_tag, some_tags, tags, tag_tree, some_tags_tree, tags_tree}
use Rattle.mp_grammar.specs.Productions.{decl, further_decl, declares, assigns, equation, item, model, statement, statements}
use Rattle.mp_grammar.specs.Statements.{decl_tree, further_tree, declares_tree, assigns_tree, equation_tree, item_tree, model_tree, statement_tree, statements_tree}
use Rattle.mp_grammar.specs.Grammar.{file_text}
use Rattle.mp_solutions.specs.Example.{transformed_model}
use Rattle.mp_canonical.specs.Terms.{unplaced, canonical}
use Rattle.mp_canonical.specs.Printable.{model_names}
use Rattle.mp_canonical.specs.Files.{names_part, equations_part, canonical_text}
use Rattle.mp_model.specs.Example.{values_model, values_printed, difference_model, difference_printed, shifts_printed}
use Rattle.mp_model.proofs.Examples.{Ratios, three_halves}

-- the text of the file where the parameter's value is written so
abbrev text_with : Expr → List ℕ
text_with value =
    file_text (names_part kind.Endogenous values_model.endogenous_names ++ (names_part kind.Exogenous values_model.exogenous_names ++ (names_part kind.Parameter (codes "a" ∷ []) ++ ((Assigns (unplaced (codes "a")) value ∷ []) ++ equations_part (model_names values_model) values_model.equations))))

pub values_are_printed : Ratios → canonical_text values_model ≡ values_printed
unfolding canonical text expr_pieces decl further_decl declares assigns equation item model statement statements decl_tree further_tree declares_tree assigns_tree equation_tree item_tree model_tree statement_tree statements_tree
values_are_printed laws = ap text_with (three_halves laws)

pub difference_is_printed : canonical_text difference_model ≡ difference_printed
unfolding canonical text expr_pieces tag further_tag some_tags tags tag_tree some_tags_tree tags_tree decl further_decl declares equation item model statement statements decl_tree further_tree declares_tree equation_tree item_tree model_tree statement_tree statements_tree
difference_is_printed = refl

pub transformed_is_printed : canonical_text transformed_model ≡ shifts_printed
unfolding canonical text expr_pieces tag further_tag some_tags tags tag_tree some_tags_tree tags_tree decl further_decl declares equation item model statement statements decl_tree further_tree declares_tree equation_tree item_tree model_tree statement_tree statements_tree
transformed_is_printed = refl
