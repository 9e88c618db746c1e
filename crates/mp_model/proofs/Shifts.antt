-- The example of shifts beyond one: its text, read as a file, and what it means.
use Rattle.std.proofs.Common.{◌≡◌, ℕ, List, [], ◌∷◌, drop, inl, inr, Some, None, Ok, codes, refl}
use Rattle.mp_tokens.specs.declared.token.TokenKind.TheVariants as k
use Rattle.mp_tokens.specs.Tokens.{Tok, comment_length, begun_at, tokens_from, tokens}
use Rattle.mp_tokens.specs.Terminals.{terminal_of, word_of}
use Rattle.mp_tokens.specs.Literals.{decimal_of}
use Rattle.mp_syntax.specs.Syntax.{Expr, Variable}
use Rattle.mp_statements.specs.Statements.{Item, Equates, Declares, Model}
use Rattle.mp_statements.specs.declared.kind.NameKind.TheVariants as kind
use Rattle.mp_format.specs.Format.{Reads, empty, first, tok_at, read}
use Rattle.mp_format.specs.Reading.{more_at}
use Rattle.mp_format.proofs.Laws.{sound}
use Rattle.mp_expressions.specs.Productions.{expr}
use Rattle.mp_expressions.specs.Expressions.{shift, fenced, closed, inside, pair, flat_atom, atom, factor, times, product, plus, sum}
use Rattle.mp_grammar.specs.Tags.{tag, further_tag, some_tags, texts}
use Rattle.mp_grammar.specs.Productions.{decl, further_decl, declares, equation, item, model, statement, statements}
use Rattle.mp_grammar.specs.Levels.{expression, atom_level}
use Rattle.mp_grammar.specs.Grammar.{ReadsFile}
use Rattle.mp_values.specs.ModelOf.{model_of}
use Rattle.mp_solutions.specs.Example.{source_model}
use Rattle.mp_model.specs.Example.{x_at, y_at, shifts_text, shifted_sum, sum_equation, same_equation, shifts_file}
use Rattle.mp_model.proofs.Texts.{or_none, plain, at_place, semicolon}

abbrev all : List Tok
all = or_none (tokens shifts_text)

lexed : tokens shifts_text ≡ Ok all
unfolding tokens_from begun_at comment_length
lexed = refl

-- the expression that stands at this place, up to that one
expr_reads : (n m : ℕ) (x : Expr) → read (sum (atom_level 500)) (drop n all) ≡ Ok (x, drop m all) → Reads (expr (expression 500)) (drop n all) x (drop m all)
expr_reads n m x e = plain 500 (drop n all) (drop m all) x e

sum_reads : Reads (equation (expression 500)) (drop 6 all) sum_equation (drop 20 all)
unfolding tokens_from begun_at comment_length terminal_of word_of empty first tok_at read more_at atom_level atom flat_atom factor times product plus sum closed inside pair fenced shift Reads equation
sum_reads =
    (([], (Variable (x_at 16) None, Some shifted_sum)), (drop 6 all, (None, refl, refl), (drop 7 all, expr_reads 6 7 (Variable (x_at 16) None) refl, ((Some shifted_sum, semicolon 33), (drop 19 all, ((at_place k.Equals (codes "=") 18, shifted_sum), (drop 8 all, (refl, refl), expr_reads 8 19 shifted_sum refl), refl), (refl, refl)), refl))), refl)

same_reads : Reads (equation (expression 500)) (drop 20 all) same_equation (drop 24 all)
unfolding tokens_from begun_at comment_length terminal_of word_of empty first tok_at read more_at atom_level atom flat_atom factor times product plus sum closed inside pair fenced shift Reads equation
same_reads =
    (([], (Variable (y_at 35) None, Some (Variable (x_at 39) None))), (drop 20 all, (None, refl, refl), (drop 21 all, expr_reads 20 21 (Variable (y_at 35) None) refl, ((Some (Variable (x_at 39) None), semicolon 40), (drop 23 all, ((at_place k.Equals (codes "=") 37, Variable (x_at 39) None), (drop 22 all, (refl, refl), expr_reads 22 23 (Variable (x_at 39) None) refl), refl), (refl, refl)), refl))), refl)

-- ---- the file

abbrev the_items : List Item
the_items = Equates sum_equation ∷ Equates same_equation ∷ []

item_reads : Reads (item (expression 500)) (drop 6 all) (Equates sum_equation) (drop 20 all)
unfolding Reads item
item_reads = inr (sum_equation, sum_reads, refl)

last_reads : Reads (item (expression 500)) (drop 20 all) (Equates same_equation) (drop 24 all)
unfolding Reads item
last_reads = inr (same_equation, same_reads, refl)

model_reads : Reads (model (expression 500)) (drop 4 all) (Model 9 [] the_items) []
unfolding tokens_from begun_at comment_length terminal_of word_of Reads model
model_reads =
    ((at_place k.Name (codes "model") 9, ([], the_items)), (drop 5 all, (refl, refl), (drop 6 all, (([], semicolon 14), (drop 5 all, (None, refl, refl), (refl, refl)), refl), ((the_items, semicolon 45), (drop 25 all, ((the_items, at_place k.Name (codes "end") 42), (drop 24 all, (drop 20 all, item_reads, (drop 24 all, last_reads, refl)), (refl, refl)), refl), (refl, refl)), refl))), refl)

declared_reads : Reads declares all (Declares kind.Endogenous (x_at 4 ∷ y_at 6 ∷ [])) (drop 4 all)
unfolding tokens_from begun_at comment_length terminal_of word_of empty first tok_at read more_at tag further_tag some_tags texts decl further_decl declares
declared_reads = sound declares all (Declares kind.Endogenous (x_at 4 ∷ y_at 6 ∷ []), drop 4 all) refl

file_reads : ReadsFile all shifts_file
unfolding Reads statement statements
file_reads = (drop 4 all, inl declared_reads, ([], inr (inr (inl model_reads)), refl))

pub shifts_reads : (ts : List Tok) × (tokens shifts_text ≡ Ok ts) × ReadsFile ts shifts_file
shifts_reads = (all, lexed, file_reads)

-- ---- the model

pub shifts_means : model_of shifts_file ≡ Some source_model
unfolding decimal_of
shifts_means = refl
