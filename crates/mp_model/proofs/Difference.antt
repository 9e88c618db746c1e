-- The example of a difference: its text, read as a file, and what it means.
use Rattle.std.proofs.Common.{◌≡◌, List, [], ◌∷◌, drop, inl, inr, true, Some, None, Ok, codes, refl}
use Rattle.mp_tokens.specs.declared.token.TokenKind.TheVariants as k
use Rattle.mp_tokens.specs.declared.terminal.Terminal.TheVariants as t
use Rattle.mp_tokens.specs.Tokens.{Tok, comment_length, begun_at, tokens_from, tokens}
use Rattle.mp_tokens.specs.Terminals.{terminal_of, word_of}
use Rattle.mp_tokens.specs.Literals.{decimal_of}
use Rattle.mp_syntax.specs.Syntax.{Expr, Number, Variable, Diff}
use Rattle.mp_statements.specs.Statements.{Equation, Item, Local, Equates, Declares, Model}
use Rattle.mp_statements.specs.declared.kind.NameKind.TheVariants as kind
use Rattle.mp_format.specs.Format.{Format, Of, sees, Reads, empty, first, goes_on, tok_at, read}
use Rattle.mp_format.specs.Notation.{of, wide, ◌▸◌, ◌◂◌}
use Rattle.mp_format.specs.Reading.{more_at}
use Rattle.mp_format.proofs.Laws.{sound, complete}
use Rattle.mp_expressions.specs.Productions.{Whole, expr, spaced_name}
use Rattle.mp_expressions.specs.Expressions.{shift, fenced, closed, inside, pair, flat_atom, atom, factor, times, product, plus, sum}
use Rattle.mp_expressions.proofs.Told.{sum_told}
use Rattle.mp_grammar.specs.Tags.{tag, further_tag, some_tags, tags, texts}
use Rattle.mp_grammar.specs.Productions.{decl, further_decl, declares, local, equation, item, model, statement, statements}
use Rattle.mp_grammar.specs.Levels.{expression, atom_level}
use Rattle.mp_grammar.specs.Grammar.{ReadsFile}
use Rattle.mp_values.specs.ModelOf.{model_of}
use Rattle.mp_model.specs.Example.{x_at, g_at, difference_text, one_less, gained, eq_tag, difference_file, difference_model}
use Rattle.mp_model.proofs.Texts.{or_none, plain, at_place, semicolon, ended}

abbrev all : List Tok
all = or_none (tokens difference_text)

lexed : tokens difference_text ≡ Ok all
unfolding tokens_from begun_at comment_length
lexed = refl

-- ---- expressions

less_reads : Reads (expr (expression 500)) (drop 8 all) one_less (drop 11 all)
unfolding tokens_from begun_at comment_length terminal_of word_of empty first tok_at read more_at atom_level atom flat_atom factor times product plus sum closed inside pair fenced shift
less_reads = plain 500 (drop 8 all) (drop 11 all) one_less refl

zero_reads : Reads (expr (expression 500)) (drop 22 all) (Number (codes "0") 49) (drop 23 all)
unfolding tokens_from begun_at comment_length terminal_of word_of empty first tok_at read more_at atom_level atom flat_atom factor times product plus sum closed inside pair fenced shift
zero_reads = plain 500 (drop 22 all) (drop 23 all) (Number (codes "0") 49) refl

g_reads : Reads (expr (expression 499)) (drop 19 all) (Variable (g_at 44) None) (drop 20 all)
unfolding tokens_from begun_at comment_length terminal_of word_of empty first tok_at read more_at atom_level atom flat_atom factor times product plus sum closed inside pair fenced shift
g_reads = plain 499 (drop 19 all) (drop 20 all) (Variable (g_at 44) None) refl

-- the difference of an expression is an atom
diff_reads : (e : Whole) (d p q : Tok) (us rest : List Tok) (x : Expr) → sees (Of t.Diff) d ≡ true → sees (Of t.Open) p ≡ true → sees (Of t.Close) q ≡ true → Reads (expr e) us x (q ∷ rest) → Reads (atom e) (d ∷ p ∷ us) (Diff d.at x) rest
unfolding Reads atom inside closed
diff_reads e d p q us rest x a b c r =
    inr (inr (inr (inr (inr ((d, x), (p ∷ us, (a, refl), ((p, x), (us, (b, refl), ((x, q), (q ∷ rest, r, (c, refl)), refl)), refl)), refl)))))

-- an atom is a sum
atom_reads : (a : Format Expr) (ts rest : List Tok) (x : Expr) → Reads a ts x rest → Reads (sum a) ts x rest
unfolding Reads factor product sum
atom_reads a ts rest x r =
    ((x, []), (rest, ((x, []), (rest, ((None, x), (ts, refl, ((x, None), (rest, r, refl), refl)), refl), refl), refl), refl), refl)

gained_reads : Reads (expr (expression 500)) (drop 17 all) gained (drop 21 all)
unfolding tokens_from begun_at comment_length terminal_of word_of empty first tok_at read more_at atom_level atom flat_atom factor times product plus sum closed inside pair fenced shift goes_on
gained_reads =
    let r = diff_reads (expression 499) (at_place k.Name (codes "diff") 39) (at_place k.Open (codes "(") 43) (at_place k.Close (codes ")") 45) (drop 19 all) (drop 21 all) (Variable (g_at 44) None) refl refl refl g_reads in
    plain 500 (drop 17 all) (drop 21 all) gained (complete (sum (atom (expression 499))) (drop 17 all) (drop 21 all) gained (sum_told (expression 499)) (atom_reads (atom (expression 499)) (drop 17 all) (drop 21 all) gained r) refl)

-- ---- items

local_reads : Reads (local (expression 500)) (drop 5 all) (Local (g_at 16) one_less) (drop 12 all)
unfolding tokens_from begun_at comment_length terminal_of word_of tok_at read Reads local
local_reads =
    ((g_at 16, one_less), (drop 8 all, sound (of t.Hash ▸ spaced_name ◂ wide t.Equals) (drop 5 all) (g_at 16, drop 8 all) refl, ended (expression 500) (drop 8 all) (drop 12 all) one_less 25 less_reads), refl)

tags_read : Reads tags (drop 12 all) (eq_tag ∷ []) (drop 17 all)
unfolding tokens_from begun_at comment_length terminal_of word_of empty first tok_at read more_at tag further_tag some_tags tags
tags_read = sound tags (drop 12 all) (eq_tag ∷ [], drop 17 all) refl

abbrev the_equation : Equation
the_equation = record { tags = eq_tag ∷ []; left = gained; right = Some (Number (codes "0") 49) }

equation_reads : Reads (equation (expression 500)) (drop 12 all) the_equation (drop 24 all)
unfolding tokens_from begun_at comment_length terminal_of word_of Reads equation
equation_reads =
    ((eq_tag ∷ [], (gained, Some (Number (codes "0") 49))), (drop 17 all, (Some (eq_tag ∷ []), tags_read, refl), (drop 21 all, gained_reads, ((Some (Number (codes "0") 49), semicolon 50), (drop 23 all, ((at_place k.Equals (codes "=") 47, Number (codes "0") 49), (drop 22 all, (refl, refl), zero_reads), refl), (refl, refl)), refl))), refl)

-- ---- the file

abbrev the_items : List Item
the_items = Local (g_at 16) one_less ∷ Equates the_equation ∷ []

item_reads : Reads (item (expression 500)) (drop 5 all) (Local (g_at 16) one_less) (drop 12 all)
unfolding Reads item
item_reads = inl local_reads

last_reads : Reads (item (expression 500)) (drop 12 all) (Equates the_equation) (drop 24 all)
unfolding Reads item
last_reads = inr (the_equation, equation_reads, refl)

model_reads : Reads (model (expression 500)) (drop 3 all) (Model 7 [] the_items) []
unfolding tokens_from begun_at comment_length terminal_of word_of Reads model
model_reads =
    ((at_place k.Name (codes "model") 7, ([], the_items)), (drop 4 all, (refl, refl), (drop 5 all, (([], semicolon 12), (drop 4 all, (None, refl, refl), (refl, refl)), refl), ((the_items, semicolon 55), (drop 25 all, ((the_items, at_place k.Name (codes "end") 52), (drop 24 all, (drop 12 all, item_reads, (drop 24 all, last_reads, refl)), (refl, refl)), refl), (refl, refl)), refl))), refl)

declared_reads : Reads declares all (Declares kind.Endogenous (x_at 4 ∷ [])) (drop 3 all)
unfolding tokens_from begun_at comment_length terminal_of word_of empty first tok_at read more_at tag further_tag some_tags texts decl further_decl declares
declared_reads = sound declares all (Declares kind.Endogenous (x_at 4 ∷ []), drop 3 all) refl

file_reads : ReadsFile all difference_file
unfolding Reads statement statements
file_reads = (drop 3 all, inl declared_reads, ([], inr (inr (inl model_reads)), refl))

pub difference_reads : (ts : List Tok) × (tokens difference_text ≡ Ok ts) × ReadsFile ts difference_file
difference_reads = (all, lexed, file_reads)

-- ---- the model

pub difference_means : model_of difference_file ≡ Some difference_model
unfolding decimal_of
difference_means = refl
