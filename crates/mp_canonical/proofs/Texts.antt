-- The texts of trees, part by part.
use Rattle.std.proofs.Common.{◌≡◌, ℕ, List, [], ◌∷◌, ◌++◌, map, flat_map, Bool, true, false, ◌==◌, Option, Some, None, option_map, codes, refl, sym, ap, ◌∙◌, append-nil, append_assoc}
use Rattle.mp_tokens.specs.declared.terminal.Terminal.TheVariants as t
use Rattle.mp_syntax.specs.declared.operator.Sign.{Sign}
use Rattle.mp_syntax.specs.declared.operator.Sign.TheVariants as sign
use Rattle.mp_syntax.specs.declared.operator.Operator.{Operator}
use Rattle.mp_syntax.specs.declared.operator.Operator.TheVariants as o
use Rattle.mp_syntax.specs.declared.operator.Function.{Function}
use Rattle.mp_syntax.specs.declared.operator.Function.TheVariants as f
use Rattle.mp_syntax.specs.Syntax.{Shift, Named, Expr, Number, Variable, Signed, Binary, Power, Paren, Call, Diff, Pick}
use Rattle.mp_statements.specs.declared.kind.NameKind.{NameKind}
use Rattle.mp_statements.specs.declared.kind.NameKind.TheVariants as kind
use Rattle.mp_statements.specs.declared.kind.Command.{Command}
use Rattle.mp_statements.specs.declared.kind.Command.TheVariants as command
use Rattle.mp_statements.specs.Statements.{Setting, Amount, Word, Quoted, Choice, Tag, Equation, Item, Local, Equates, Statement, Declares, Assigns, Model, Notes}
use Rattle.mp_format.specs.Pieces.{Piece, Solid, Blank, text_of}
use Rattle.mp_format.specs.Spelling.{Tree, text, opt_text}
use Rattle.mp_tokens.specs.Tokens.{number_length, digits_length}
use Rattle.mp_expressions.specs.Productions.{number}
use Rattle.mp_expressions.specs.InForm.{number_by, number_tree}
use Rattle.mp_expressions.specs.Script.{the, sign_piece, signs, shift_pieces, operator_terminal, function_terminal, expr_pieces}
use Rattle.mp_grammar.specs.Lists.{if_any_tree}
use Rattle.mp_grammar.specs.Tags.{tag, further_tag, some_tags, tags, tag_tree, some_tags_tree, tags_tree}
use Rattle.mp_grammar.specs.Options.{setting, given, choice, further_choice, choices, setting_tree, given_tree, choice_tree, choices_tree}
use Rattle.mp_grammar.specs.Productions.{decl, further_decl, names, declares, assigns, local, equation, item, model, noted, further_name, notes, statement, statements}
use Rattle.mp_grammar.specs.Statements.{decl_tree, further_tree, names_tree, declares_tree, assigns_tree, local_tree, equation_tree, item_tree, model_tree, command_tree, noted_tree, notes_tree, statement_tree, statements_tree}
use Rattle.mp_grammar.specs.Levels.{expression}
use Rattle.mp_grammar.specs.Grammar.{file_text}
use Rattle.mp_canonical.specs.Spelled.{sign_text, signs_text, shift_text, operator_text, function_text, spelled, item_text, statement_text, kind_word, command_word, with_commas, tag_text, tags_text, setting_text, given_text, choice_text, choices_text, name_text, right_text}

text-append : (ps qs : List Piece) → text_of (ps ++ qs) ≡ text_of ps ++ text_of qs
text-append [] qs = refl
text-append (Solid u ∷ ps) qs = ap (λ l. u.bytes ++ l) (text-append ps qs) ∙ sym (append_assoc u.bytes (text_of ps) (text_of qs))
text-append (Blank b ∷ ps) qs = ap (λ l. b ∷ l) (text-append ps qs)

-- two texts with others before, between and after them
two : (ps qs : List Piece) {x y : List ℕ} → text_of ps ≡ x → text_of qs ≡ y → text_of (ps ++ qs) ≡ x ++ y
two ps qs {x = x} e h = text-append ps qs ∙ ap (λ l. l ++ text_of qs) e ∙ ap (λ l. x ++ l) h

sign_is : (s : Sign) (ps : List Piece) → text_of (sign_piece s ∷ ps) ≡ sign_text s ++ text_of ps
sign_is sign.Plus ps = refl
sign_is sign.Minus ps = refl

signs_are : (s : Option Sign) (ps : List Piece) → text_of (signs s ++ ps) ≡ signs_text s ++ text_of ps
signs_are None ps = refl
signs_are (Some s) ps = sign_is s ps

shift_is : (s : Option Shift) → text_of (shift_pieces s) ≡ shift_text s
shift_is None = refl
shift_is (Some s) = ap (λ l. 40 ∷ l) (sign_is s.sign (Solid _ ∷ Solid _ ∷ []))

operator_is : (op : Operator) (ps : List Piece) → text_of (the (operator_terminal op) ∷ ps) ≡ operator_text op ++ text_of ps
operator_is o.Plus ps = refl
operator_is o.Minus ps = refl
operator_is o.Times ps = refl
operator_is o.Over ps = refl

function_is : (g : Function) (ps : List Piece) → text_of (the (function_terminal g) ∷ ps) ≡ function_text g ++ text_of ps
function_is f.Min ps = refl
function_is f.Max ps = refl

pub text-spelled : (e : Expr) → text_of (expr_pieces e) ≡ spelled e
unfolding expr_pieces spelled
text-spelled (Number literal at) = append-nil literal
text-spelled (Variable name shift) = ap (λ l. name.name ++ l) (shift_is shift)
text-spelled (Signed s a) = sign_is s (expr_pieces a) ∙ ap (λ l. sign_text s ++ l) (text-spelled a)
text-spelled (Binary op a at b) =
    two (expr_pieces a) (the (operator_terminal op) ∷ expr_pieces b) (text-spelled a) (operator_is op (expr_pieces b) ∙ ap (λ l. operator_text op ++ l) (text-spelled b))
text-spelled (Power a at s b) =
    two (expr_pieces a) (the t.Caret ∷ (signs s ++ expr_pieces b)) (text-spelled a) (ap (λ l. 94 ∷ l) (signs_are s (expr_pieces b) ∙ ap (λ l. signs_text s ++ l) (text-spelled b)))
text-spelled (Paren a) = ap (λ l. 40 ∷ l) (two (expr_pieces a) (the t.Close ∷ []) (text-spelled a) refl)
text-spelled (Call g a b) =
    function_is g (the t.Open ∷ (expr_pieces a ++ (the t.Comma ∷ (expr_pieces b ++ (the t.Close ∷ [])))))
    ∙ ap (λ l. function_text g ++ (40 ∷ l)) (two (expr_pieces a) (the t.Comma ∷ (expr_pieces b ++ (the t.Close ∷ []))) (text-spelled a) (ap (λ l. 44 ∷ l) (two (expr_pieces b) (the t.Close ∷ []) (text-spelled b) refl)))
text-spelled (Diff at a) = ap (λ l. codes "diff" ++ (40 ∷ l)) (two (expr_pieces a) (the t.Close ∷ []) (text-spelled a) refl)
text-spelled (Pick a b c d) =
    ap (λ l. codes "pick" ++ (40 ∷ l)) (two (expr_pieces a) _ (text-spelled a) (ap (λ l. 44 ∷ l) (two (expr_pieces b) _ (text-spelled b) (ap (λ l. 44 ∷ l) (two (expr_pieces c) _ (text-spelled c) (ap (λ l. 44 ∷ l) (two (expr_pieces d) (the t.Close ∷ []) (text-spelled d) refl)))))))

-- ---- lines

flat-map : {X Y Z : Type 0} (g : Y → List Z) (h : X → Y) (xs : List X) → flat_map g (map h xs) ≡ flat_map (λ x. g (h x)) xs
flat-map g h [] = refl
flat-map g h (x ∷ xs) = ap (λ l. g (h x) ++ l) (flat-map g h xs)

-- declared names, each after a blank
decl_is : (n : Named) → text decl (decl_tree n) ≡ name_text n.name
unfolding text decl decl_tree
decl_is n = append-nil (name_text n.name ++ []) ∙ append-nil (name_text n.name)

further_is : (ns : List Named) → flat_map (text further_decl) (map further_tree ns) ≡ flat_map name_text (map (λ (n : Named). n.name) ns)
unfolding text further_decl further_tree
further_is [] = refl
further_is (n ∷ ns) = ap (λ l. l ++ flat_map (text further_decl) (map further_tree ns)) (decl_is n) ∙ ap (λ l. name_text n.name ++ l) (further_is ns)

names_are : (n : Named) (ns : List Named) → text names (names_tree (n ∷ ns)) ≡ flat_map name_text (map (λ (n : Named). n.name) (n ∷ ns))
unfolding text
names_are n ns = ap (λ l. l ++ flat_map (text further_decl) (map further_tree ns)) (decl_is n) ∙ ap (λ l. name_text n.name ++ l) (further_is ns)

-- the line of a declaration
pub declares_text : (k : NameKind) (n : Named) (ns : List Named) → statement_text (Declares k (n ∷ ns)) ≡ kind_word k ++ (flat_map name_text (map (λ (n : Named). n.name) (n ∷ ns)) ++ codes ";\n")
unfolding text statement statement_tree declares declares_tree
declares_text kind.Endogenous n ns = ap (λ l. codes "var" ++ (l ++ codes ";\n")) (names_are n ns)
declares_text kind.Exogenous n ns = ap (λ l. codes "varexo" ++ (l ++ codes ";\n")) (names_are n ns)
declares_text kind.Parameter n ns = ap (λ l. codes "parameters" ++ (l ++ codes ";\n")) (names_are n ns)

pub assigns_text : (n : Named) (e : Expr) → statement_text (Assigns n e) ≡ (n.name ++ codes " = ") ++ (spelled e ++ codes ";\n")
unfolding text statement statement_tree assigns assigns_tree
assigns_text n e = ap (λ l. (n.name ++ codes " = ") ++ (l ++ codes ";\n")) (text-spelled e)

-- ---- tags and options

tag_is : (t : Tag) → text tag (tag_tree t) ≡ tag_text t
unfolding text tag tag_tree
tag_is t = append_assoc t.name.name (codes "=") t.text

-- a tag after a comma
further_tag_tree : Tag → Tree further_tag
unfolding further_tag
further_tag_tree t = (tt, tag_tree t)

further_tags_are : (ts : List Tag) → flat_map (text further_tag) (map further_tag_tree ts) ≡ flat_map (λ t. 44 ∷ tag_text t) ts
unfolding text further_tag further_tag_tree
further_tags_are [] = refl
further_tags_are (t ∷ ts) = ap (λ l. (44 ∷ l) ++ flat_map (text further_tag) (map further_tag_tree ts)) (tag_is t) ∙ ap (λ l. (44 ∷ tag_text t) ++ l) (further_tags_are ts)

some_tags_are : (t : Tag) (ts : List Tag) → text some_tags (some_tags_tree (t ∷ ts)) ≡ with_commas tag_text (t ∷ ts)
unfolding text some_tags some_tags_tree further_tag further_tag_tree
some_tags_are t ts = ap (λ l. l ++ flat_map (text further_tag) (map further_tag_tree ts)) (tag_is t) ∙ ap (λ l. tag_text t ++ l) (further_tags_are ts)

tags_are : (ts : List Tag) → opt_text (text tags) (if_any_tree tags_tree ts) ≡ tags_text ts
unfolding text tags tags_tree
tags_are [] = refl
tags_are (t ∷ ts) = ap (λ l. 91 ∷ (l ++ codes "] ")) (some_tags_are t ts)

number_is : (literal : List ℕ) → text number (number_tree literal) ≡ literal
unfolding text
number_is literal = by (number_length literal == digits_length literal)
  where
    by : (b : Bool) → text number (number_by b literal) ≡ literal
    by true = refl
    by false = refl

setting_is : (s : Setting) → text setting (setting_tree s) ≡ setting_text s
unfolding text setting setting_tree
setting_is (Amount None literal) = number_is literal
setting_is (Amount (Some sign.Plus) literal) = ap (λ l. 43 ∷ l) (number_is literal)
setting_is (Amount (Some sign.Minus) literal) = ap (λ l. 45 ∷ l) (number_is literal)
setting_is (Word name) = refl
setting_is (Quoted text) = refl

given_is : (s : Option Setting) → opt_text (text given) (option_map given_tree s) ≡ given_text s
unfolding text given given_tree
given_is None = refl
given_is (Some s) = ap (λ l. 61 ∷ l) (setting_is s)

choice_is : (c : Choice) → text choice (choice_tree c) ≡ choice_text c
unfolding text choice choice_tree
choice_is c = ap (λ l. c.name.name ++ l) (given_is c.setting)

-- an option after a comma
further_choice_tree : Choice → Tree further_choice
unfolding further_choice
further_choice_tree c = (tt, choice_tree c)

further_choices_are : (cs : List Choice) → flat_map (text further_choice) (map further_choice_tree cs) ≡ flat_map (λ c. 44 ∷ choice_text c) cs
unfolding text further_choice further_choice_tree
further_choices_are [] = refl
further_choices_are (c ∷ cs) = ap (λ l. (44 ∷ l) ++ flat_map (text further_choice) (map further_choice_tree cs)) (choice_is c) ∙ ap (λ l. (44 ∷ choice_text c) ++ l) (further_choices_are cs)

choices_are : (cs : List Choice) → opt_text (text choices) (if_any_tree choices_tree cs) ≡ choices_text cs
unfolding text choices choices_tree further_choice further_choice_tree
choices_are [] = refl
choices_are (c ∷ cs) =
    ap (λ l. 40 ∷ ((l ++ flat_map (text further_choice) (map further_choice_tree cs)) ++ codes ")")) (choice_is c) ∙ ap (λ l. 40 ∷ ((choice_text c ++ l) ++ codes ")")) (further_choices_are cs)

-- ---- items

pub local_text : (n : Named) (e : Expr) → item_text (Local n e) ≡ codes "# " ++ (n.name ++ (codes " = " ++ (spelled e ++ codes ";\n")))
unfolding text item item_tree local local_tree
local_text n e =
    ap (λ l. 35 ∷ 32 ∷ l) (append_assoc n.name (codes " = ") (text_of (expr_pieces e) ++ codes ";\n"))
    ∙ ap (λ l. codes "# " ++ (n.name ++ (codes " = " ++ (l ++ codes ";\n")))) (text-spelled e)

right_is : (r : Option Expr) → opt_text (λ (p : Unit {0} × Expr). codes " = " ++ text_of (expr_pieces p.1)) (option_map (λ r. (tt, r)) r) ≡ right_text r
right_is None = refl
right_is (Some e) = ap (λ l. codes " = " ++ l) (text-spelled e)

-- the line of an equation
pub equation_text : (x : Equation) → item_text (Equates x) ≡ tags_text x.tags ++ (spelled x.left ++ (right_text x.right ++ codes ";\n"))
unfolding text item item_tree equation equation_tree
equation_text x =
    let right = opt_text (λ (p : Unit {0} × Expr). codes " = " ++ text_of (expr_pieces p.1)) (option_map (λ r. (tt, r)) x.right) in
    ap (λ l. l ++ (text_of (expr_pieces x.left) ++ (right ++ codes ";\n"))) (tags_are x.tags)
    ∙ ap (λ l. tags_text x.tags ++ (l ++ (right ++ codes ";\n"))) (text-spelled x.left)
    ∙ ap (λ l. tags_text x.tags ++ (spelled x.left ++ (l ++ codes ";\n"))) (right_is x.right)

-- ---- blocks and commands

pub model_text : (at : ℕ) (cs : List Choice) (xs : List Item) → statement_text (Model at cs xs) ≡ codes "model" ++ (choices_text cs ++ (codes ";\n" ++ (flat_map item_text xs ++ codes "end;\n")))
unfolding text statement statement_tree model model_tree
model_text at cs xs =
    let lines = flat_map (text (item (expression 500))) (map (item_tree (expression 500)) xs) in
    ap (λ l. codes "model" ++ ((l ++ codes ";\n") ++ ((lines ++ codes "end") ++ codes ";\n"))) (choices_are cs)
    ∙ ap (λ l. codes "model" ++ l) (append_assoc (choices_text cs) (codes ";\n") ((lines ++ codes "end") ++ codes ";\n"))
    ∙ ap (λ l. codes "model" ++ (choices_text cs ++ (codes ";\n" ++ l))) (append_assoc lines (codes "end") (codes ";\n") ∙ ap (λ l. l ++ codes "end;\n") (flat-map (text (item (expression 500))) (item_tree (expression 500)) xs))

noted_are : (ns : List Named) → flat_map (text further_name) (map noted_tree ns) ≡ flat_map name_text (map (λ (n : Named). n.name) ns)
unfolding text further_name noted_tree
noted_are [] = refl
noted_are (n ∷ ns) = ap (λ l. name_text n.name ++ l) (noted_are ns)

command_is : (c : Command) → text noted (command_tree c) ≡ command_word c
unfolding text noted command_tree
command_is command.Check = refl
command_is command.Resid = refl
command_is command.Rplot = refl
command_is command.ModelDiagnostics = refl
command_is command.OccbinSetup = refl
command_is command.OccbinSolver = refl

pub notes_text : (c : Command) (ns : List Named) → statement_text (Notes c ns) ≡ command_word c ++ (flat_map name_text (map (λ (n : Named). n.name) ns) ++ codes ";\n")
unfolding text statement statement_tree notes notes_tree
notes_text c ns =
    let names = flat_map (text further_name) (map noted_tree ns) in
    ap (λ l. l ++ (names ++ codes ";\n")) (append-nil (text noted (command_tree c)) ∙ command_is c) ∙ ap (λ l. command_word c ++ (l ++ codes ";\n")) (noted_are ns)

pub file_texts : (file : List Statement) → file_text file ≡ flat_map statement_text file
unfolding text statements statements_tree
file_texts file = flat-map (text (statement (expression 500))) (statement_tree (expression 500)) file
