-- What reads alike but for places is the same without places.
use Rattle.std.proofs.Common.{ℕ, zero, suc, List, ◌∷◌, map, Option, option_map, refl, subst}
use Rattle.mp_statements.specs.declared.kind.NameKind.{NameKind}
use Rattle.mp_statements.specs.declared.kind.NameKind.TheVariants as kind
use Rattle.mp_syntax.specs.Syntax.{Expr}
use Rattle.mp_statements.specs.declared.kind.Command.{Command}
use Rattle.mp_statements.specs.Statements.{Tag, Local, Equates, Declares, Assigns, Model, Notes}
use Rattle.mp_tokens.specs.declared.terminal.Terminal.{Terminal}
use Rattle.mp_format.specs.Notation.{◌stands◌}
use Rattle.mp_format.specs.Format.{Alike}
use Rattle.mp_expressions.specs.Script.{bare_name, bare}
use Rattle.mp_expressions.specs.Expressions.{sum, atom, flat_atom}
use Rattle.mp_expressions.specs.Productions.{Whole, expr, name, spaced_name}
use Rattle.mp_grammar.specs.Tags.{tags, bare_tag}
use Rattle.mp_grammar.specs.Options.{choices, bare_choice}
use Rattle.mp_grammar.specs.Productions.{decl, further_decl, declared, declares, assigns, local, equation, item, model, noted, further_name, notes, statement, statements}
use Rattle.mp_grammar.specs.Levels.{expression, flat, deeper}
use Rattle.mp_grammar.specs.Statements.{bare_equation, bare_item, bare_statement}
use Rattle.mp_format.proofs.Whole.{whole-alike}
use Rattle.mp_format.proofs.Bares.{Bares, paired, itself, unplaced, tok_bares, both_bares, choose_bares, opt_bares, many_bares, via_bares, front_bares, back_bares, stands_bares}
use Rattle.mp_grammar.proofs.Lists.{if_any_bares}
use Rattle.mp_grammar.proofs.Tags.{tags_bares}
use Rattle.mp_grammar.proofs.Options.{choices_bares}
use Rattle.mp_expressions.proofs.Bares.{flat_bares, atom_bares, sum_bares}

pub expr_bares : (room : ℕ) → Bares (expr (expression room)) bare
unfolding Alike expression flat deeper
expr_bares zero x y h =
    sum_bares flat_atom flat_bares x y (subst (λ (A : Expr → Expr → Type 0). A x y) (whole-alike _ _ _ (sum flat_atom) _ _) h)
expr_bares (suc room) x y h =
    sum_bares (atom (expression room)) (atom_bares (expression room) (expr_bares room)) x y (subst (λ (A : Expr → Expr → Type 0). A x y) (whole-alike _ _ _ (sum (atom (expression room))) _ _) h)

name_bares : Bares name bare_name
name_bares = stands_bares _ _ _ bare_name (λ u. refl)

spaced_bares : Bares spaced_name bare_name
spaced_bares = stands_bares _ _ _ bare_name (λ u. refl)

decl_bares : Bares decl bare_name
unfolding decl
decl_bares = back_bares _ _ bare_name (back_bares _ _ bare_name spaced_bares)

further_bares : Bares further_decl bare_name
unfolding further_decl
further_bares = front_bares _ _ bare_name decl_bares

declared_bares : (k : NameKind) → Bares (declared k) bare_statement
declared_bares k =
    via_bares _ _ (map bare_name) bare_statement (Declares k) (λ ns. refl) (back_bares _ _ (map bare_name) (via_bares _ _ (paired bare_name (map bare_name)) (map bare_name) (λ p. p.0 ∷ p.1) (λ p. refl) (both_bares decl _ bare_name (map bare_name) decl_bares (many_bares further_decl bare_name further_bares))))

declares_bares : Bares declares bare_statement
unfolding declares
declares_bares =
    choose_bares _ _ _ (front_bares _ _ _ (declared_bares kind.Endogenous)) (choose_bares _ _ _ (front_bares _ _ _ (declared_bares kind.Exogenous)) (front_bares _ _ _ (declared_bares kind.Parameter)))

assigns_bares : (e : Whole) → Bares (expr e) bare → Bares (assigns e) bare_statement
unfolding assigns
assigns_bares e h =
    via_bares _ _ (paired bare_name bare) bare_statement (λ p. Assigns p.0 p.1) (λ p. refl) (both_bares _ _ bare_name bare (back_bares _ _ bare_name name_bares) (back_bares _ _ bare h))

local_bares : (e : Whole) → Bares (expr e) bare → Bares (local e) bare_item
unfolding local
local_bares e h =
    via_bares _ _ (paired bare_name bare) bare_item (λ p. Local p.0 p.1) (λ p. refl) (both_bares _ _ bare_name bare (front_bares _ _ bare_name (back_bares _ _ bare_name spaced_bares)) (back_bares _ _ bare h))

equation_bares : (e : Whole) → Bares (expr e) bare → Bares (equation e) bare_equation
unfolding equation
equation_bares e h =
    via_bares _ _ (paired (map bare_tag) (paired bare (option_map bare))) bare_equation (λ (p : List Tag × (Expr × Option Expr)). record { tags = p.0; left = p.1.0; right = p.1.1 }) (λ p. refl) (both_bares _ _ (map bare_tag) (paired bare (option_map bare)) (if_any_bares tags bare_tag tags_bares) (both_bares _ _ bare (option_map bare) h (back_bares _ _ (option_map bare) (opt_bares _ bare (front_bares _ _ bare h)))))

pub item_bares : (e : Whole) → Bares (expr e) bare → Bares (item e) bare_item
unfolding item
item_bares e h =
    choose_bares _ _ bare_item (local_bares e h) (via_bares _ _ bare_equation bare_item Equates (λ x. refl) (equation_bares e h))

model_bares : (e : Whole) → Bares (expr e) bare → Bares (model e) bare_statement
unfolding model
model_bares e h =
    via_bares _ _ (paired unplaced (paired (map bare_choice) (map bare_item))) bare_statement (λ p. Model 0 p.1.0 p.1.1) (λ p. refl) (both_bares _ _ unplaced _ (tok_bares _ _) (both_bares _ _ (map bare_choice) (map bare_item) (back_bares _ _ _ (if_any_bares choices bare_choice choices_bares)) (back_bares _ _ _ (back_bares _ _ _ (many_bares (item e) bare_item (item_bares e h))))))

word_bares : (k : Terminal) (c : Command) → Bares (k stands c) itself
word_bares k c = stands_bares _ _ _ itself (λ u. refl)

noted_bares : Bares noted itself
unfolding noted
noted_bares =
    choose_bares _ _ itself (word_bares _ _) (choose_bares _ _ itself (word_bares _ _) (choose_bares _ _ itself (word_bares _ _) (choose_bares _ _ itself (word_bares _ _) (choose_bares _ _ itself (word_bares _ _) (word_bares _ _)))))

notes_bares : Bares notes bare_statement
unfolding notes further_name
notes_bares =
    via_bares _ _ (paired itself (map bare_name)) bare_statement (λ p. Notes p.0 p.1) (λ p. refl) (both_bares _ _ itself (map bare_name) (back_bares _ _ itself noted_bares) (back_bares _ _ _ (many_bares _ bare_name (front_bares _ _ bare_name spaced_bares))))

statement_bares : (e : Whole) → Bares (expr e) bare → Bares (statement e) bare_statement
unfolding statement
statement_bares e h =
    choose_bares _ _ _ declares_bares (choose_bares _ _ _ (assigns_bares e h) (choose_bares _ _ _ (model_bares e h) notes_bares))

pub file_bares : (e : Whole) → Bares (expr e) bare → Bares (statements e) (map bare_statement)
unfolding statements
file_bares e h = many_bares (statement e) bare_statement (statement_bares e h)
