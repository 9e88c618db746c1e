-- Contents of files that are joined, and that a file's contents tell its model.
use Rattle.std.proofs.Common.{◌≡◌, ℕ, List, [], ◌∷◌, ◌++◌, map, Some, Ok, Err, refl, sym, ap, ◌∙◌, append_assoc}
use Rattle.mp_syntax.specs.Syntax.{Named, Expr}
use Rattle.mp_statements.specs.declared.kind.NameKind.TheVariants as kind
use Rattle.mp_statements.specs.Statements.{Item, Statement, Declares, Assigns, Model, Notes}
use Rattle.mp_statements.specs.Parts.{items_of}
use Rattle.mp_statements.specs.Parts as parts
use Rattle.mp_semantics.specs.Model as m
use Rattle.mp_values.specs.Table.{Table, unset, with_value}
use Rattle.mp_values.specs.Names.{Names, names_of}
use Rattle.mp_values.specs.Limits.{Folded, ◌>>=◌, Limits}
use Rattle.mp_values.specs.Values.{value_by, assigned_by}
use Rattle.mp_values.specs.ModelOf.{items_by, parameters_given, model_with, model_by}
use Rattle.mp_canonical.specs.Contents.{Contents, joined, contents_in, contents_of}

-- ---- joined files

-- contents of the same lists
pub same_contents : {e f u v p q : List (List ℕ)} {a b : List (List ℕ × Expr)} {i j : List Item} → e ≡ f → u ≡ v → p ≡ q → a ≡ b → i ≡ j → (let x : Contents = record { endogenous = e; exogenous = u; parameters = p; assignments = a; items = i } in x) ≡ record { endogenous = f; exogenous = v; parameters = q; assignments = b; items = j }
same_contents {f = f} {u = u} {v = v} {p = p} {q = q} {a = a} {b = b} {i = i} {j = j} se su sp sa si =
    ap (λ l. record { endogenous = l; exogenous = u; parameters = p; assignments = a; items = i }) se
    ∙ ap (λ l. record { endogenous = f; exogenous = l; parameters = p; assignments = a; items = i }) su
    ∙ ap (λ l. record { endogenous = f; exogenous = v; parameters = l; assignments = a; items = i }) sp
    ∙ ap (λ l. record { endogenous = f; exogenous = v; parameters = q; assignments = l; items = i }) sa
    ∙ ap (λ l. record { endogenous = f; exogenous = v; parameters = q; assignments = b; items = l }) si

joined_assoc : (x y z : Contents) → joined (joined x y) z ≡ joined x (joined y z)
joined_assoc x y z = same_contents (append_assoc x.endogenous y.endogenous z.endogenous) (append_assoc x.exogenous y.exogenous z.exogenous) (append_assoc x.parameters y.parameters z.parameters) (append_assoc x.assignments y.assignments z.assignments) (append_assoc x.items y.items z.items)

-- files one after the other hold what they hold together
pub contents-append : (xs ys : List Statement) → contents_of (xs ++ ys) ≡ joined (contents_of xs) (contents_of ys)
contents-append [] ys = refl
contents-append (s ∷ xs) ys = ap (joined (contents_in s)) (contents-append xs ys) ∙ sym (joined_assoc (contents_in s) (contents_of xs) (contents_of ys))

pub both_parts : (xs ys : List Statement) {x y : Contents} → contents_of xs ≡ x → contents_of ys ≡ y → contents_of (xs ++ ys) ≡ joined x y
both_parts xs ys {x = x} e f = contents-append xs ys ∙ ap (λ c. joined c (contents_of ys)) e ∙ ap (joined x) f

-- ---- the model

abbrev pub contents_names : Contents → Names
contents_names c = record { endogenous = c.endogenous; exogenous = c.exogenous; parameters = c.parameters }

-- the parameters after these assignments
abbrev pub assigned_all : Limits → Table → List (List ℕ × Expr) → Folded Table
assigned_all L t [] = Ok t
assigned_all L t (a ∷ more) = value_by L t a.1 >>= λ x. assigned_all L (with_value a.0 (Some x) t) more

-- the model that contents mean
abbrev pub contents_model : Limits → Contents → Folded m.Model
contents_model L c =
    assigned_all L (unset c.parameters) c.assignments >>= λ t. parameters_given t >>= λ ps. items_by L (contents_names c) t [] c.items >>= λ es. Ok (model_with (contents_names c) ps es)

endogenous-told : (file : List Statement) → parts.names_of kind.Endogenous file ≡ (contents_of file).endogenous
endogenous-told [] = refl
endogenous-told (Declares kind.Endogenous ns ∷ file) = ap (λ l. map (λ (n : Named). n.name) ns ++ l) (endogenous-told file)
endogenous-told (Declares kind.Exogenous ns ∷ file) = endogenous-told file
endogenous-told (Declares kind.Parameter ns ∷ file) = endogenous-told file
endogenous-told (Assigns n e ∷ file) = endogenous-told file
endogenous-told (Model at choices xs ∷ file) = endogenous-told file
endogenous-told (Notes command ns ∷ file) = endogenous-told file

exogenous-told : (file : List Statement) → parts.names_of kind.Exogenous file ≡ (contents_of file).exogenous
exogenous-told [] = refl
exogenous-told (Declares kind.Endogenous ns ∷ file) = exogenous-told file
exogenous-told (Declares kind.Exogenous ns ∷ file) = ap (λ l. map (λ (n : Named). n.name) ns ++ l) (exogenous-told file)
exogenous-told (Declares kind.Parameter ns ∷ file) = exogenous-told file
exogenous-told (Assigns n e ∷ file) = exogenous-told file
exogenous-told (Model at choices xs ∷ file) = exogenous-told file
exogenous-told (Notes command ns ∷ file) = exogenous-told file

parameters-told : (file : List Statement) → parts.names_of kind.Parameter file ≡ (contents_of file).parameters
parameters-told [] = refl
parameters-told (Declares kind.Endogenous ns ∷ file) = parameters-told file
parameters-told (Declares kind.Exogenous ns ∷ file) = parameters-told file
parameters-told (Declares kind.Parameter ns ∷ file) = ap (λ l. map (λ (n : Named). n.name) ns ++ l) (parameters-told file)
parameters-told (Assigns n e ∷ file) = parameters-told file
parameters-told (Model at choices xs ∷ file) = parameters-told file
parameters-told (Notes command ns ∷ file) = parameters-told file

pub items-told : (file : List Statement) → items_of file ≡ (contents_of file).items
items-told [] = refl
items-told (Declares kind.Endogenous ns ∷ file) = items-told file
items-told (Declares kind.Exogenous ns ∷ file) = items-told file
items-told (Declares kind.Parameter ns ∷ file) = items-told file
items-told (Assigns n e ∷ file) = items-told file
items-told (Model at choices xs ∷ file) = ap (λ l. xs ++ l) (items-told file)
items-told (Notes command ns ∷ file) = items-told file

names-told : (file : List Statement) → names_of file ≡ contents_names (contents_of file)
names-told file =
    ap (λ l. record { endogenous = l; exogenous = parts.names_of kind.Exogenous file; parameters = parts.names_of kind.Parameter file }) (endogenous-told file)
    ∙ ap (λ l. record { endogenous = (contents_of file).endogenous; exogenous = l; parameters = parts.names_of kind.Parameter file }) (exogenous-told file)
    ∙ ap (λ l. record { endogenous = (contents_of file).endogenous; exogenous = (contents_of file).exogenous; parameters = l }) (parameters-told file)

next : {A B : Type 0} (u : Folded A) (f g : A → Folded B) → ((x : A) → f x ≡ g x) → (u >>= f) ≡ (u >>= g)
next (Ok x) f g same = same x
next (Err w) f g same = refl

assigned-told : (L : Limits) (t : Table) (file : List Statement) → assigned_by L t file ≡ assigned_all L t (contents_of file).assignments
assigned-told L t [] = refl
assigned-told L t (Declares kind.Endogenous ns ∷ file) = assigned-told L t file
assigned-told L t (Declares kind.Exogenous ns ∷ file) = assigned-told L t file
assigned-told L t (Declares kind.Parameter ns ∷ file) = assigned-told L t file
assigned-told L t (Assigns n e ∷ file) = next (value_by L t e) _ _ (λ x. assigned-told L (with_value n.name (Some x) t) file)
assigned-told L t (Model at choices xs ∷ file) = assigned-told L t file
assigned-told L t (Notes command ns ∷ file) = assigned-told L t file

-- the model of a file is that of its contents
pub model-told : (L : Limits) (file : List Statement) → model_by L file ≡ contents_model L (contents_of file)
model-told L file =
    ap (λ (ns : Names). assigned_by L (unset ns.parameters) file >>= λ t. parameters_given t >>= λ ps. items_by L ns t [] (items_of file) >>= λ es. Ok (model_with ns ps es)) (names-told file)
    ∙ ap (λ (xs : List Item). assigned_by L (unset (contents_of file).parameters) file >>= λ t. parameters_given t >>= λ ps. items_by L (contents_names (contents_of file)) t [] xs >>= λ es. Ok (model_with (contents_names (contents_of file)) ps es)) (items-told file)
    ∙ ap (λ (u : Folded Table). u >>= λ t. parameters_given t >>= λ ps. items_by L (contents_names (contents_of file)) t [] (contents_of file).items >>= λ es. Ok (model_with (contents_names (contents_of file)) ps es)) (assigned-told L (unset (contents_of file).parameters) file)
