-- What reads from the tokens of a text is in form.
use Rattle.std.proofs.Common.{◌≡◌, ℕ, zero, suc, List, [], ◌∷◌, inl, inr, Option, Some, None, Ok, Bool, true, ap, ◌∙◌, subst, arith}
use Rattle.mp_tokens.specs.Tokens.{Tok, tokens}
use Rattle.mp_tokens.specs.declared.terminal.Terminal.TheVariants as t
use Rattle.mp_statements.specs.declared.kind.NameKind.{NameKind}
use Rattle.mp_syntax.specs.Syntax.{Named, Expr}
use Rattle.mp_statements.specs.Statements.{Equation, Item, Statement, Declares}
use Rattle.mp_format.specs.Format.{Every, opt, Reads, Made}
use Rattle.mp_format.specs.Notation.{wide, ◌▸◌}
use Rattle.mp_format.specs.Spelling.{FitsAll, FitsOpt}
use Rattle.mp_expressions.specs.InForm.{Flat, Deep, InForm}
use Rattle.mp_expressions.specs.Expressions.{sum, atom, flat_atom}
use Rattle.mp_expressions.specs.Productions.{expr, name}
use Rattle.mp_grammar.specs.Tags.{tags, IsTag}
use Rattle.mp_grammar.specs.Options.{choices, IsChoice}
use Rattle.mp_grammar.specs.Productions.{decl, further_decl, declared, declares, assigns, local, equation, item, model, further_name, notes, statement, statements}
use Rattle.mp_grammar.specs.Levels.{expression, flat, deeper}
use Rattle.mp_grammar.specs.Statements.{IsExpression, IsNamed, IsEquation, IsItem, IsStatement}
use Rattle.mp_format.proofs.Whole.{whole-made}
use Rattle.mp_format.proofs.MadeLaws.{made}
use Rattle.mp_format.proofs.Looks.{both_true}
use Rattle.std.specs.List.{list_all}
use Rattle.mp_format.proofs.TokenWords.{tokens-words}
use Rattle.mp_format.proofs.TokenForms.{IsToken, name_is}
use Rattle.mp_grammar.proofs.Lists.{each_form, if_any_form}
use Rattle.mp_grammar.proofs.Tags.{tags_form}
use Rattle.mp_grammar.proofs.Options.{choices_form}
use Rattle.mp_expressions.proofs.FormLaws.{flat_form, atom_form, sum_form, flat_alone, deep_alone}

pub expression_form : (room : ℕ) (x : Expr) → Made (expr (expression room)) IsToken x → InForm room x
unfolding Made expression flat deeper InForm
expression_form zero x m =
    sum_form flat_atom Flat flat_alone flat_form x (subst (λ (M : (Tok → Type 0) → Expr → Type 0). M IsToken x) (whole-made _ _ _ (sum flat_atom) _ _) m)
expression_form (suc room) x m =
    sum_form (atom (expression room)) (Deep (InForm room)) (deep_alone (InForm room)) (atom_form (expression room) (InForm room) (expression_form room)) x (subst (λ (M : (Tok → Type 0) → Expr → Type 0). M IsToken x) (whole-made _ _ _ (sum (atom (expression room))) _ _) m)

pub name_form : (n : Named) → Made name IsToken n → IsNamed n
unfolding Made
name_form n (u, e, m) = subst IsNamed e (name_is u m.0 m.1)

decl_form : (n : Named) → Made decl IsToken n → IsNamed n
unfolding Made decl
decl_form n (p, e, ((q, f, ((u, g, m), x)), y)) = subst IsNamed (g ∙ f ∙ e) (name_is u m.0 m.1)

further_form : (n : Named) → Made further_decl IsToken n → IsNamed n
unfolding Made further_decl
further_form n (p, e, (c, m)) = subst IsNamed e (decl_form p.1 m)

declared_form : (k : NameKind) (s : Statement) → Made (declared k) IsToken s → IsStatement s
unfolding Made
declared_form k s (ns, e, (p, d, ((q, f, m), c))) =
    subst IsStatement (ap (Declares k) (f ∙ d) ∙ e) (omega arith, (decl_form q.0 m.0, each_form (Made further_decl IsToken) IsNamed further_form q.1 m.1))

declares_form : (s : Statement) → Made declares IsToken s → IsStatement s
unfolding Made declares
declares_form s (inl (p, e, m)) = subst IsStatement e (declared_form _ p.1 m.1)
declares_form s (inr (inl (p, e, m))) = subst IsStatement e (declared_form _ p.1 m.1)
declares_form s (inr (inr (p, e, m))) = subst IsStatement e (declared_form _ p.1 m.1)

assigns_form : (s : Statement) → Made (assigns (expression 500)) IsToken s → IsStatement s
unfolding Made assigns
assigns_form s (p, e, ((q, f, m), (r, g, n))) =
    subst IsStatement e (subst IsNamed f (name_form q.0 m.0), subst IsExpression g (expression_form 500 r.0 n.0))

local_form : (x : Item) → Made (local (expression 500)) IsToken x → IsItem x
unfolding Made local
local_form x (p, e, ((v, d, (h, (q, f, ((u, k, m), c)))), (r, g, n))) =
    subst IsItem e (subst IsNamed (k ∙ f ∙ d) (name_is u m.0 m.1), subst IsExpression g (expression_form 500 r.0 n.0))

right_form : (o : Option Expr) → Made (opt (wide t.Equals ▸ expr (expression 500))) IsToken o → FitsOpt IsExpression o
unfolding Made
right_form None m = tt
right_form (Some r) (v, g, (c, m)) = subst IsExpression g (expression_form 500 v.1 m)

pub equation_form : (x : Equation) → Made (equation (expression 500)) IsToken x → IsEquation x
unfolding Made equation
equation_form x (p, e, (ts, (m, (q, f, n)))) =
    subst IsEquation e (if_any_form tags IsTag tags_form p.0 ts, expression_form 500 p.1.0 m, subst (FitsOpt IsExpression) f (right_form q.0 n.0))

pub item_form : (x : Item) → Made (item (expression 500)) IsToken x → IsItem x
unfolding Made item
item_form x (inl m) = local_form x m
item_form x (inr (y, e, m)) = subst IsItem e (equation_form y m)

model_form : (s : Statement) → Made (model (expression 500)) IsToken s → IsStatement s
unfolding Made model
model_form s (p, e, (w, ((v, h, (o, l)), (q, f, ((r, g, (m, c)), d))))) =
    subst IsStatement e (subst (FitsAll IsChoice) h (if_any_form choices IsChoice choices_form v.0 o), subst (FitsAll IsItem) (g ∙ f) (each_form (Made (item (expression 500)) IsToken) IsItem item_form r.0 m))

noted_form : (n : Named) → Made further_name IsToken n → IsNamed n
unfolding Made further_name
noted_form n (p, e, (c, (u, f, m))) = subst IsNamed (f ∙ e) (name_is u m.0 m.1)

notes_form : (s : Statement) → Made notes IsToken s → IsStatement s
unfolding Made notes
notes_form s (p, e, (w, (q, f, (m, c)))) =
    subst IsStatement e (subst (FitsAll IsNamed) f (each_form (Made further_name IsToken) IsNamed noted_form q.0 m))

statement_form : (s : Statement) → Made (statement (expression 500)) IsToken s → IsStatement s
unfolding Made statement
statement_form s (inl m) = declares_form s m
statement_form s (inr (inl m)) = assigns_form s m
statement_form s (inr (inr (inl m))) = model_form s m
statement_form s (inr (inr (inr m))) = notes_form s m

-- what is true of each token is true of what the file is made of
pub file_made : (Q : Tok → Type 0) (ts : List Tok) (xs : List Statement) → Every Q ts → Reads (statements (expression 500)) ts xs [] → Made (statements (expression 500)) Q xs
file_made Q ts xs all r = (made (statements (expression 500)) Q ts [] xs r all).0

-- of a test
pub file_tested : (test : Tok → Bool) (ts : List Tok) (xs : List Statement) → list_all test ts ≡ true → Reads (statements (expression 500)) ts xs [] → Made (statements (expression 500)) (λ t. test t ≡ true) xs
file_tested test ts xs all r = file_made (λ t. test t ≡ true) ts xs (each ts all) r
  where
    each : (ts : List Tok) → list_all test ts ≡ true → Every (λ t. test t ≡ true) ts
    each [] all = tt
    each (t ∷ ts) all = let p = both_true _ _ all in (p.0, each ts p.1)

pub file_form : (ts : List Tok) (xs : List Statement) → Every IsToken ts → Reads (statements (expression 500)) ts xs [] → FitsAll IsStatement xs
unfolding Made statements
file_form ts xs all r =
    each_form (Made (statement (expression 500)) IsToken) IsStatement statement_form xs (made (statements (expression 500)) IsToken ts [] xs r all).0

-- what reads from a text is in form
pub text_form : (text : List ℕ) (ts : List Tok) (xs : List Statement) → tokens text ≡ Ok ts → Reads (statements (expression 500)) ts xs [] → FitsAll IsStatement xs
text_form text ts xs e r = file_form ts xs (tokens-words text ts e) r
