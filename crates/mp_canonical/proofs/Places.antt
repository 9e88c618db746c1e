-- What a file means does not depend on places.
use Rattle.std.proofs.Common.{◌≡◌, ℕ, ℤ, List, [], ◌∷◌, ◌++◌, map, find, Bool, true, false, cond, Option, Some, None, option_map, codes, Ok, Err, refl, sym, ap, ◌∙◌}
use Rattle.std.proofs.lemmas.List.{map-append}
use Rattle.mp_rational.specs.Fraction.{Fraction}
use Rattle.mp_statements.specs.declared.kind.NameKind.{NameKind}
use Rattle.mp_statements.specs.declared.kind.NameKind.TheVariants as kind
use Rattle.mp_syntax.specs.declared.operator.Sign.{Sign}
use Rattle.mp_syntax.specs.Syntax.{Named, Expr, Number, Variable, Signed, Binary, Power, Paren, Call, Diff, Pick}
use Rattle.mp_statements.specs.Statements.{Tag, Equation, Item, Local, Equates, Statement, Declares, Assigns, Model, Notes}
use Rattle.mp_statements.specs.Parts.{is_kind, is_tag, unquoted, names_in, items_in, items_of}
use Rattle.mp_statements.specs.Parts as parts
use Rattle.mp_semantics.specs.Term.{Term}
use Rattle.mp_semantics.specs.Value.{result_of}
use Rattle.mp_semantics.specs.Model as m
use Rattle.mp_expressions.specs.Script.{bare_name, bare}
use Rattle.mp_grammar.specs.Statements.{bare_equation, bare_item, bare_statement, bare_file}
use Rattle.mp_grammar.specs.Tags.{bare_tag}
use Rattle.mp_values.specs.Table.{Table, unset, with_value}
use Rattle.mp_values.specs.Names.{Names, names_of}
use Rattle.mp_values.specs.Limits.{Folded, ◌>>=◌, answer, exact, exponent_or, whole_of, defined, binary_of}
use Rattle.mp_values.specs.Values.{with_sign_if, exponent_at, value_by, assigned_by, values_by}
use Rattle.mp_values.specs.ModelOf.{Locals, meaning_of, term_by, right_by, equation_named, equation_by, items_by, parameters_given, model_with, model_of}
use Rattle.mp_canonical.proofs.Meanings.{IsMeaning, term_means}
use Rattle.mp_canonical.proofs.Results.{some_is}

-- ---- the same answer, or none

abbrev pub Alike : {A : Type 0} → Folded A → Folded A → Type 0
Alike u v = answer u ≡ answer v

pub next : {A B : Type 0} (u v : Folded A) (f g : A → Folded B) → Alike u v → ((x : A) → Alike (f x) (g x)) → Alike (u >>= f) (v >>= g)
next (Ok x) (Ok y) f g e same = same x ∙ ap (λ z. answer (g z)) (some_is x y e)
next (Ok x) (Err w) f g e same = absurd cc
next (Err w) (Ok y) f g e same = absurd cc
next (Err w) (Err z) f g e same = refl

-- an operation has its result wherever it stands
defined_alike : (i j : ℕ) (x y a b : Fraction) (r : Option Fraction) → Alike (defined i x y r) (defined j a b r)
defined_alike i j x y a b None = refl
defined_alike i j x y a b (Some z) = refl

-- so does an exponent
whole_alike : (i j : ℕ) (x : Fraction) (k : Option ℤ) → Alike (exponent_or i x k) (exponent_or j x k)
whole_alike i j x None = refl
whole_alike i j x (Some k) = refl

exponent_alike : (i j : ℕ) (s : Option Sign) (y : Fraction) → Alike (exponent_at exact i s y) (exponent_at exact j s y)
exponent_alike i j s y = whole_alike i j (with_sign_if s y) (whole_of (with_sign_if s y))

-- ---- values and terms

value_bare : (t : Table) (e : Expr) → Alike (value_by exact t (bare e)) (value_by exact t e)
unfolding bare
value_bare t (Number literal at) = refl
value_bare t (Variable name shift) = refl
value_bare t (Signed s a) = next _ _ _ _ (value_bare t a) (λ x. refl)
value_bare t (Binary o a at b) =
    next _ _ _ _ (value_bare t a) (λ x. next _ _ _ _ (value_bare t b) (λ y. defined_alike 0 at x y x y (result_of (binary_of o) x y)))
value_bare t (Power a at s b) =
    next _ _ _ _ (value_bare t a) (λ x. next _ _ _ _ (value_bare t b) (λ y. next _ _ _ _ (exponent_alike 0 at s y) (λ k. defined_alike 0 at x _ x _ _)))
value_bare t (Paren a) = value_bare t a
value_bare t (Call f a b) = next _ _ _ _ (value_bare t a) (λ x. next _ _ _ _ (value_bare t b) (λ y. refl))
value_bare t (Diff at a) = next _ _ _ _ (value_bare t a) (λ x. refl)
value_bare t (Pick a b c d) = refl

-- a choice means what four expressions mean, wherever they stand
abbrev pub MeansAlikeChoices : (Expr → Folded Term) → Type 0
MeansAlikeChoices mean =
    (a b c d e f g h : Expr) → Alike (mean a) (mean e) → Alike (mean b) (mean f) → Alike (mean c) (mean g) → Alike (mean d) (mean h) → Alike (mean (Pick a b c d)) (mean (Pick e f g h))

-- what means the same as these
alike : {A : Type 0} {u v w z : Folded A} → u ≡ v → w ≡ z → Alike v z → Alike u w
alike e h same = ap answer e ∙ same ∙ sym (ap answer h)

pub meaning_bare : (named : List ℕ → ℤ → Option Term) (t : Table) (mean : Expr → Folded Term) → IsMeaning named t mean → MeansAlikeChoices mean → (e : Expr) → Alike (mean (bare e)) (mean e)
unfolding bare
meaning_bare named t mean m choices (Number literal at) = ap answer (m.number literal 0 ∙ sym (m.number literal at))
meaning_bare named t mean m choices (Variable name shift) = ap answer (m.variable (bare_name name) shift ∙ sym (m.variable name shift))
meaning_bare named t mean m choices (Signed s a) =
    alike (m.signed s (bare a)) (m.signed s a) (next _ _ _ _ (meaning_bare named t mean m choices a) (λ x. refl))
meaning_bare named t mean m choices (Binary o a at b) =
    alike (m.operation o (bare a) 0 (bare b)) (m.operation o a at b) (next _ _ _ _ (meaning_bare named t mean m choices a) (λ x. next _ _ _ _ (meaning_bare named t mean m choices b) (λ y. refl)))
meaning_bare named t mean m choices (Power a at s b) =
    alike (m.power (bare a) 0 s (bare b)) (m.power a at s b) (next _ _ _ _ (meaning_bare named t mean m choices a) (λ x. next _ _ _ _ (value_bare t b) (λ y. next _ _ _ _ (exponent_alike 0 at s y) (λ k. refl))))
meaning_bare named t mean m choices (Paren a) =
    alike (m.paren (bare a)) (m.paren a) (meaning_bare named t mean m choices a)
meaning_bare named t mean m choices (Call f a b) =
    alike (m.call f (bare a) (bare b)) (m.call f a b) (next _ _ _ _ (meaning_bare named t mean m choices a) (λ x. next _ _ _ _ (meaning_bare named t mean m choices b) (λ y. refl)))
meaning_bare named t mean m choices (Diff at a) =
    alike (m.diff 0 (bare a)) (m.diff at a) (next _ _ _ _ (meaning_bare named t mean m choices a) (λ x. refl))
meaning_bare named t mean m choices (Pick a b c d) =
    choices _ _ _ _ _ _ _ _ (meaning_bare named t mean m choices a) (meaning_bare named t mean m choices b) (meaning_bare named t mean m choices c) (meaning_bare named t mean m choices d)

-- the text of a tag does not change
name-bare : (ts : List Tag) → option_map (λ (t : Tag). unquoted t.text) (find (is_tag (codes "name")) (map bare_tag ts)) ≡ option_map (λ (t : Tag). unquoted t.text) (find (is_tag (codes "name")) ts)
name-bare [] = refl
name-bare (x ∷ xs) = by (is_tag (codes "name") x) (name-bare xs)
  where
    text_in : Option Tag → Option (List ℕ)
    text_in = option_map (λ (t : Tag). unquoted t.text)

    by : (b : Bool) → text_in (find (is_tag (codes "name")) (map bare_tag xs)) ≡ text_in (find (is_tag (codes "name")) xs) → text_in (cond b (Some (bare_tag x)) (find (is_tag (codes "name")) (map bare_tag xs))) ≡ text_in (cond b (Some x) (find (is_tag (codes "name")) xs))
    by true more = refl
    by false more = more

module _ (ns : Names) (ls : Locals) (t : Table) where
  term_bare : (e : Expr) → Alike (term_by exact ns ls t (bare e)) (term_by exact ns ls t e)
  term_bare e =
      meaning_bare (meaning_of ns ls) t (term_by exact ns ls t) (term_means ns ls t) (λ a b c d e f g h x y z w. refl) e

  right_bare : (right : Option Expr) → Alike (right_by exact ns ls t (option_map bare right)) (right_by exact ns ls t right)
  right_bare None = refl
  right_bare (Some e) = term_bare e

  equation_bare : (x : Equation) → Alike (equation_by exact ns ls t (bare_equation x)) (equation_by exact ns ls t x)
  equation_bare x =
      next _ _ _ _ (term_bare x.left) (λ l. next _ _ _ _ (right_bare x.right) (λ r. ap (λ n. Some (equation_named n l r)) (name-bare x.tags)))

items_bare : (ns : Names) (t : Table) (ls : Locals) (xs : List Item) → Alike (items_by exact ns t ls (map bare_item xs)) (items_by exact ns t ls xs)
items_bare ns t ls [] = refl
items_bare ns t ls (Local n e ∷ xs) = next _ _ _ _ (term_bare ns ls t e) (λ x. items_bare ns t ((n.name, x) ∷ ls) xs)
items_bare ns t ls (Equates x ∷ xs) =
    next (equation_by exact ns ls t (bare_equation x)) (equation_by exact ns ls t x) _ _ (equation_bare ns ls t x) (λ y. next _ _ _ _ (items_bare ns t ls xs) (λ ys. refl))

-- ---- files

names-bare : (ns : List Named) → map (λ (n : Named). n.name) (map bare_name ns) ≡ map (λ (n : Named). n.name) ns
names-bare [] = refl
names-bare (n ∷ ns) = ap (λ l. n.name ∷ l) (names-bare ns)

names_in-bare : (k : NameKind) (s : Statement) → names_in k (bare_statement s) ≡ names_in k s
names_in-bare k (Declares j ns) = ap (λ l. cond (is_kind k j) l []) (names-bare ns)
names_in-bare k (Assigns name value) = refl
names_in-bare k (Model at choices items) = refl
names_in-bare k (Notes command ns) = refl

kind_names-bare : (k : NameKind) (file : List Statement) → parts.names_of k (bare_file file) ≡ parts.names_of k file
kind_names-bare k [] = refl
kind_names-bare k (s ∷ file) =
    ap (λ l. l ++ parts.names_of k (bare_file file)) (names_in-bare k s) ∙ ap (λ l. names_in k s ++ l) (kind_names-bare k file)

names_of-bare : (file : List Statement) → names_of (bare_file file) ≡ names_of file
names_of-bare file =
    ap (λ l. record { endogenous = l; exogenous = parts.names_of kind.Exogenous (bare_file file); parameters = parts.names_of kind.Parameter (bare_file file) }) (kind_names-bare kind.Endogenous file)
    ∙ ap (λ l. record { endogenous = parts.names_of kind.Endogenous file; exogenous = l; parameters = parts.names_of kind.Parameter (bare_file file) }) (kind_names-bare kind.Exogenous file)
    ∙ ap (λ l. record { endogenous = parts.names_of kind.Endogenous file; exogenous = parts.names_of kind.Exogenous file; parameters = l }) (kind_names-bare kind.Parameter file)

items_in-bare : (s : Statement) → items_in (bare_statement s) ≡ map bare_item (items_in s)
items_in-bare (Declares j ns) = refl
items_in-bare (Assigns name value) = refl
items_in-bare (Model at choices items) = refl
items_in-bare (Notes command ns) = refl

items_of-bare : (file : List Statement) → items_of (bare_file file) ≡ map bare_item (items_of file)
items_of-bare [] = refl
items_of-bare (s ∷ file) =
    ap (λ l. l ++ items_of (bare_file file)) (items_in-bare s) ∙ ap (λ l. map bare_item (items_in s) ++ l) (items_of-bare file) ∙ sym (map-append bare_item (items_in s) (items_of file))

assigned_bare : (t : Table) (file : List Statement) → Alike (assigned_by exact t (bare_file file)) (assigned_by exact t file)
assigned_bare t [] = refl
assigned_bare t (Declares j ns ∷ file) = assigned_bare t file
assigned_bare t (Assigns n e ∷ file) = next _ _ _ _ (value_bare t e) (λ x. assigned_bare (with_value n.name (Some x) t) file)
assigned_bare t (Model at choices xs ∷ file) = assigned_bare t file
assigned_bare t (Notes command ns ∷ file) = assigned_bare t file

-- the model of these names and equations, where this gives the values of parameters
abbrev model_with_items : Names → List Item → Folded Table → Folded m.Model
model_with_items ns xs u = u >>= λ t. parameters_given t >>= λ ps. items_by exact ns t [] xs >>= λ es. Ok (model_with ns ps es)

model_of-bare : (file : List Statement) → model_of (bare_file file) ≡ model_of file
model_of-bare file =
    let ns = names_of file in
    ap (λ (n : Names). answer (model_with_items n (items_of (bare_file file)) (assigned_by exact (unset n.parameters) (bare_file file)))) (names_of-bare file)
    ∙ ap (λ (xs : List Item). answer (model_with_items ns xs (assigned_by exact (unset ns.parameters) (bare_file file)))) (items_of-bare file)
    ∙ next (assigned_by exact (unset ns.parameters) (bare_file file)) (values_by exact file) _ _ (assigned_bare (unset ns.parameters) file) (λ t. next (parameters_given t) (parameters_given t) _ _ refl (λ ps. next _ _ _ _ (items_bare ns t [] (items_of file)) (λ es. refl)))

-- a file that reads back as another one, but for places, has its model
pub same_model : (file again : List Statement) → bare_file again ≡ bare_file file → model_of again ≡ model_of file
same_model file again e = sym (model_of-bare again) ∙ ap model_of e ∙ model_of-bare file
