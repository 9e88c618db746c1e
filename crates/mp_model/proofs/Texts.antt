-- The text of the example of values, read as a file.
use Rattle.std.proofs.Common.{◌≡◌, ℕ, List, [], ◌∷◌, drop, inl, inr, true, Some, None, Result, Ok, Err, codes, refl, ◌∙◌}
use Rattle.mp_tokens.specs.declared.token.TokenKind.{TokenKind}
use Rattle.mp_tokens.specs.declared.token.TokenKind.TheVariants as k
use Rattle.mp_tokens.specs.declared.terminal.Terminal.TheVariants as t
use Rattle.mp_tokens.specs.Tokens.{Tok, Fault, comment_length, begun_at, tokens_from, tokens}
use Rattle.mp_tokens.specs.Terminals.{terminal_of, word_of}
use Rattle.mp_syntax.specs.declared.operator.Operator.TheVariants as o
use Rattle.mp_syntax.specs.Syntax.{Expr, Number, Variable, Binary, Power, Paren, Further, with_further}
use Rattle.mp_statements.specs.Statements.{Item, Equation, Equates, Statement, Declares, Assigns, Model}
use Rattle.mp_statements.specs.declared.kind.NameKind.TheVariants as kind
use Rattle.mp_format.specs.Format.{Format, Of, sees, many, Reads, empty, first, goes_on, tok_at, read}
use Rattle.mp_format.specs.Notation.{wide, line, ◌◂◌}
use Rattle.mp_format.specs.Reading.{more_at}
use Rattle.mp_format.proofs.Laws.{sound, complete}
use Rattle.mp_expressions.specs.Productions.{Whole, expr, name}
use Rattle.mp_expressions.specs.Expressions.{shift, fenced, closed, inside, pair, flat_atom, atom, power, factor, times, product, plus, sum}
use Rattle.mp_expressions.proofs.Told.{sum_told}
use Rattle.mp_grammar.specs.Tags.{tag, further_tag, some_tags, texts}
use Rattle.mp_grammar.specs.Productions.{decl, further_decl, declares, assigns, equation, item, model, statement, statements}
use Rattle.mp_grammar.specs.Levels.{expression, atom_level}
use Rattle.mp_grammar.specs.Grammar.{ReadsFile}
use Rattle.mp_grammar.proofs.Steps.{expression_sum}
use Rattle.mp_model.specs.Example.{x_at, e_at, a_at, back, values_text, half, one_more, twice, powered, values_file}

-- the tokens that there are
abbrev pub or_none : Result (List Tok) Fault → List Tok
or_none (Ok ts) = ts
or_none (Err f) = []

abbrev all : List Tok
all = or_none (tokens values_text)

lexed : tokens values_text ≡ Ok all
unfolding tokens_from begun_at comment_length
lexed = refl

-- an expression without parentheses
pub plain : (room : ℕ) (ts rest : List Tok) (x : Expr) → read (sum (atom_level room)) ts ≡ Ok (x, rest) → Reads (expr (expression room)) ts x rest
plain room ts rest x e = sound (expr (expression room)) ts (x, rest) (expression_sum room ts ∙ e)

half_reads : Reads (expr (expression 500)) (drop 11 all) half (drop 14 all)
unfolding tokens_from begun_at comment_length terminal_of word_of empty first tok_at read more_at atom_level atom flat_atom factor times product plus sum closed inside pair fenced shift
half_reads = plain 500 (drop 11 all) (drop 14 all) half refl

more_reads : Reads (expr (expression 500)) (drop 17 all) one_more (drop 20 all)
unfolding tokens_from begun_at comment_length terminal_of word_of empty first tok_at read more_at atom_level atom flat_atom factor times product plus sum closed inside pair fenced shift
more_reads = plain 500 (drop 17 all) (drop 20 all) one_more refl

left_reads : Reads (expr (expression 500)) (drop 23 all) (Variable (x_at 56) None) (drop 24 all)
unfolding tokens_from begun_at comment_length terminal_of word_of empty first tok_at read more_at atom_level atom flat_atom factor times product plus sum closed inside pair fenced shift
left_reads = plain 500 (drop 23 all) (drop 24 all) (Variable (x_at 56) None) refl

-- inside the first parentheses, `2*x(-1)`
abbrev inner : Expr
inner = Binary o.Times (Number (codes "2") 61) 62 (Variable (x_at 63) (Some back))

inner_reads : Reads (expr (expression 499)) (drop 26 all) inner (drop 33 all)
unfolding tokens_from begun_at comment_length terminal_of word_of empty first tok_at read more_at atom_level atom flat_atom factor times product plus sum closed inside pair fenced shift
inner_reads = plain 499 (drop 26 all) (drop 33 all) inner refl

twice_reads : Reads (expr (expression 499)) (drop 36 all) twice (drop 39 all)
unfolding tokens_from begun_at comment_length terminal_of word_of empty first tok_at read more_at atom_level atom flat_atom factor times product plus sum closed inside pair fenced shift
twice_reads = plain 499 (drop 36 all) (drop 39 all) twice refl

-- an expression in parentheses is an atom
paren_reads : (e : Whole) (p q : Tok) (us rest : List Tok) (x : Expr) → sees (Of t.Open) p ≡ true → sees (Of t.Close) q ≡ true → Reads (expr e) us x (q ∷ rest) → Reads (atom e) (p ∷ us) (Paren x) rest
unfolding Reads atom closed
paren_reads e p q us rest x a b r = inr (inr (inl (x, ((p, x), (us, (a, refl), ((x, q), (q ∷ rest, r, (b, refl)), refl)), refl), refl)))

-- a power of two atoms, and what is added to it
power_reads : (a : Format Expr) (c : Tok) (ts us rest : List Tok) (x y : Expr) → sees (Of t.Caret) c ≡ true → Reads a ts x (c ∷ us) → Reads a us y rest → Reads (power a) ts (Power x c.at None y) rest
unfolding Reads
power_reads a c ts us rest x y s r q = ((x, Some (c, (None, y))), (c ∷ us, r, (us, (s, refl), (us, refl, q))), refl)

added_reads : (a : Format Expr) (ts mid rest : List Tok) (x : Expr) (more : List Further) → Reads (power a) ts x mid → Reads (many (plus a)) mid more rest → Reads (sum a) ts (with_further x more) rest
unfolding Reads factor product sum
added_reads a ts mid rest x more r q = ((x, more), (mid, ((x, []), (mid, ((None, x), (ts, refl, r), refl), refl), refl), q), refl)

-- a token of this kind and place
abbrev pub at_place : TokenKind → List ℕ → ℕ → Tok
at_place kind bytes at = record { kind = kind; bytes = bytes; at = at }

-- `(2*x(-1))^(a*2)`
abbrev base : Expr
base = Power (Paren inner) 69 None (Paren twice)

abbrev e_added : List Further
e_added = record { op = o.Plus; at = 75; operand = Variable (e_at 76) None } ∷ []

base_reads : Reads (power (atom (expression 499))) (drop 25 all) base (drop 40 all)
unfolding tokens_from begun_at comment_length terminal_of word_of
base_reads =
    power_reads (atom (expression 499)) (at_place k.Caret (codes "^") 69) (drop 25 all) (drop 35 all) (drop 40 all) (Paren inner) (Paren twice) refl (paren_reads (expression 499) (at_place k.Open (codes "(") 60) (at_place k.Close (codes ")") 68) (drop 26 all) (drop 34 all) inner refl refl inner_reads) (paren_reads (expression 499) (at_place k.Open (codes "(") 70) (at_place k.Close (codes ")") 74) (drop 36 all) (drop 40 all) twice refl refl twice_reads)

e_reads : Reads (many (plus (atom (expression 499)))) (drop 40 all) e_added (drop 42 all)
unfolding tokens_from begun_at comment_length terminal_of word_of empty first tok_at read more_at atom_level atom flat_atom factor times product plus sum closed inside pair fenced shift
e_reads = sound (many (plus (atom (expression 499)))) (drop 40 all) (e_added, drop 42 all) refl

powered_reads : Reads (sum (atom (expression 499))) (drop 25 all) powered (drop 42 all)
powered_reads = added_reads (atom (expression 499)) (drop 25 all) (drop 40 all) (drop 42 all) base e_added base_reads e_reads

right_reads : Reads (expr (expression 500)) (drop 25 all) powered (drop 42 all)
unfolding tokens_from begun_at comment_length terminal_of word_of empty first tok_at read more_at atom_level atom flat_atom factor times product plus sum closed inside pair fenced shift goes_on
right_reads =
    plain 500 (drop 25 all) (drop 42 all) powered (complete (sum (atom (expression 499))) (drop 25 all) (drop 42 all) powered (sum_told (expression 499)) powered_reads refl)

-- ---- statements

abbrev pub semicolon : ℕ → Tok
semicolon at = at_place k.Semicolon (codes ";") at

-- an expression and the semicolon after it
pub ended : (e : Whole) (ts rest : List Tok) (x : Expr) (at : ℕ) → Reads (expr e) ts x (semicolon at ∷ rest) → Reads (expr e ◂ line t.Semicolon) ts x rest
unfolding Reads terminal_of
ended e ts rest x at r = ((x, semicolon at), (semicolon at ∷ rest, r, (refl, refl)), refl)

abbrev first_assignment : Statement
first_assignment = Assigns (a_at 31) half

first_reads : Reads (assigns (expression 500)) (drop 9 all) first_assignment (drop 15 all)
unfolding tokens_from begun_at comment_length terminal_of word_of tok_at read Reads assigns
first_reads =
    ((a_at 31, half), (drop 11 all, sound (name ◂ wide t.Equals) (drop 9 all) (a_at 31, drop 11 all) refl, ended (expression 500) (drop 11 all) (drop 15 all) half 38 half_reads), refl)

abbrev second_assignment : Statement
second_assignment = Assigns (a_at 40) one_more

second_reads : Reads (assigns (expression 500)) (drop 15 all) second_assignment (drop 21 all)
unfolding tokens_from begun_at comment_length terminal_of word_of tok_at read Reads assigns
second_reads =
    ((a_at 40, one_more), (drop 17 all, sound (name ◂ wide t.Equals) (drop 15 all) (a_at 40, drop 17 all) refl, ended (expression 500) (drop 17 all) (drop 21 all) one_more 47 more_reads), refl)

abbrev the_equation : Equation
the_equation = record { tags = []; left = Variable (x_at 56) None; right = Some powered }

equation_reads : Reads (equation (expression 500)) (drop 23 all) the_equation (drop 43 all)
unfolding tokens_from begun_at comment_length terminal_of word_of Reads equation
equation_reads =
    (([], (Variable (x_at 56) None, Some powered)), (drop 23 all, (None, refl, refl), (drop 24 all, left_reads, ((Some powered, semicolon 77), (drop 42 all, ((at_place k.Equals (codes "=") 58, powered), (drop 25 all, (refl, refl), right_reads), refl), (refl, refl)), refl))), refl)

abbrev the_item : Item
the_item = Equates the_equation

item_reads : Reads (item (expression 500)) (drop 23 all) the_item (drop 43 all)
unfolding Reads item
item_reads = inr (the_equation, equation_reads, refl)

model_reads : Reads (model (expression 500)) (drop 21 all) (Model 49 [] (the_item ∷ [])) []
unfolding tokens_from begun_at comment_length terminal_of word_of tok_at read Reads model
model_reads =
    ((at_place k.Name (codes "model") 49, ([], the_item ∷ [])), (drop 22 all, (refl, refl), (drop 23 all, (([], semicolon 54), (drop 22 all, (None, refl, refl), (refl, refl)), refl), ((the_item ∷ [], semicolon 82), (drop 44 all, ((the_item ∷ [], at_place k.Name (codes "end") 79), (drop 43 all, (drop 43 all, item_reads, refl), (refl, refl)), refl), (refl, refl)), refl))), refl)

declared_reads : (n m : ℕ) (s : Statement) → read declares (drop n all) ≡ Ok (s, drop m all) → Reads declares (drop n all) s (drop m all)
declared_reads n m s e = sound declares (drop n all) (s, drop m all) e

file_reads : ReadsFile all values_file
unfolding tokens_from begun_at comment_length terminal_of word_of empty first tok_at read more_at tag further_tag some_tags texts decl further_decl Reads declares statement statements
file_reads =
    (drop 3 all, inl (declared_reads 0 3 (Declares kind.Endogenous (x_at 4 ∷ [])) refl), (drop 6 all, inl (declared_reads 3 6 (Declares kind.Exogenous (e_at 14 ∷ [])) refl), (drop 9 all, inl (declared_reads 6 9 (Declares kind.Parameter (a_at 28 ∷ [])) refl), (drop 15 all, inr (inl first_reads), (drop 21 all, inr (inl second_reads), ([], inr (inr (inl model_reads)), refl))))))

pub values_reads : (ts : List Tok) × (tokens values_text ≡ Ok ts) × ReadsFile ts values_file
values_reads = (all, lexed, file_reads)
