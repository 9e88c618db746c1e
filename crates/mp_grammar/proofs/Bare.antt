-- What has no places stays as it is where they are taken away.
use Rattle.std.proofs.Common.{◌≡◌, List, [], ◌∷◌, map, Option, Some, None, option_map, refl, ap, ◌∙◌}
use Rattle.mp_syntax.specs.Syntax.{Expr, Number, Variable, Signed, Binary, Power, Paren, Call, Diff, Pick}
use Rattle.mp_statements.specs.Statements.{Tag, Equation, Item, Local, Equates, Statement, Declares, Assigns, Model, Notes}
use Rattle.mp_format.proofs.Stands.{ap_two}
use Rattle.mp_expressions.specs.Script.{bare_name, bare}
use Rattle.mp_grammar.specs.Statements.{bare_equation, bare_item, bare_statement, bare_file}
use Rattle.mp_grammar.specs.Tags.{bare_tag}
use Rattle.mp_grammar.specs.Options.{bare_choice}

bare_bare : (e : Expr) → bare (bare e) ≡ bare e
unfolding bare
bare_bare (Number l at) = refl
bare_bare (Variable n s) = refl
bare_bare (Signed s a) = ap (Signed s) (bare_bare a)
bare_bare (Binary op a at b) = ap_two (λ x y. Binary op x 0 y) (bare_bare a) (bare_bare b)
bare_bare (Power a at s b) = ap_two (λ x y. Power x 0 s y) (bare_bare a) (bare_bare b)
bare_bare (Paren a) = ap Paren (bare_bare a)
bare_bare (Call f a b) = ap_two (Call f) (bare_bare a) (bare_bare b)
bare_bare (Diff at a) = ap (Diff 0) (bare_bare a)
bare_bare (Pick a b c d) =
    ap_two (λ (p q : Expr × Expr). Pick p.0 p.1 q.0 q.1) (ap_two (λ x y. (x, y)) (bare_bare a) (bare_bare b)) (ap_two (λ x y. (x, y)) (bare_bare c) (bare_bare d))

each_again : {X : Type 0} (b : X → X) → ((x : X) → b (b x) ≡ b x) → (xs : List X) → map b (map b xs) ≡ map b xs
each_again b h [] = refl
each_again b h (x ∷ xs) = ap_two (λ y ys. y ∷ ys) (h x) (each_again b h xs)

right_again : (r : Option Expr) → option_map bare (option_map bare r) ≡ option_map bare r
right_again None = refl
right_again (Some r) = ap Some (bare_bare r)

equation_again : (x : Equation) → bare_equation (bare_equation x) ≡ bare_equation x
equation_again x =
    ap (λ (ts : List Tag). record { tags = ts; left = bare (bare x.left); right = option_map bare (option_map bare x.right) }) (each_again bare_tag (λ t. refl) x.tags)
    ∙ ap_two (λ (l : Expr) (r : Option Expr). record { tags = map bare_tag x.tags; left = l; right = r }) (bare_bare x.left) (right_again x.right)

pub item_again : (x : Item) → bare_item (bare_item x) ≡ bare_item x
item_again (Local n x) = ap (Local (bare_name n)) (bare_bare x)
item_again (Equates x) = ap Equates (equation_again x)

statement_again : (s : Statement) → bare_statement (bare_statement s) ≡ bare_statement s
statement_again (Declares k ns) = ap (Declares k) (each_again bare_name (λ n. refl) ns)
statement_again (Assigns n e) = ap (Assigns (bare_name n)) (bare_bare e)
statement_again (Model at cs xs) =
    ap_two (Model 0) (each_again bare_choice (λ c. refl) cs) (each_again bare_item item_again xs)
statement_again (Notes c ns) = ap (Notes c) (each_again bare_name (λ n. refl) ns)

pub bare_again : (xs : List Statement) → bare_file (bare_file xs) ≡ bare_file xs
bare_again xs = each_again bare_statement statement_again xs
