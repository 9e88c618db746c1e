-- The names of equations in text order, and the first one that stands again.
use Rattle.std.proofs.Common.{◌≡◌, ℕ, ◌+◌, ◌-◌, ◌<◌, ◌≤◌, List, [], ◌∷◌, ◌++◌, append-nil, append_assoc, map, length, drop, get_or, Bor, Bool, true, false, cond, not, ◌||◌, if◌then◌else◌, Option, Some, None, refl, sym, ap, subst, ◌∙◌, arith}
use Rattle.std.specs.List.{flat_map, list_any}
use Rattle.std.specs.Str.{bytes_eq}
use Rattle.std.proofs.Math.ListN.{drop_of_length-le}
use Rattle.std.proofs.lemmas.Grind.{flat_map-append}
use Rattle.std.proofs.lemmas.List.{drop_more}
use Rattle.std.proofs.lemmas.Slice.Eq.{bytes_eq-Decides}
use Rattle.mp_statements.specs.Statements.{Equation, Item, Statement}
use Rattle.mp_statements.specs.Parts.{name_of, items_in, equations_in, equations_of}
use Rattle.mp_declared.specs.Declared.{with_name, equation_names, first_shared}
use Rattle.mp_decl.proofs.GivenLaws.{Same}

with_name-append : (r : Option (List ℕ)) (xs ys : List (List ℕ)) → with_name r (xs ++ ys) ≡ with_name r xs ++ ys
with_name-append None xs ys = refl
with_name-append (Some name) xs ys = refl

equation_names-append : (xs ys : List Equation) → equation_names (xs ++ ys) ≡ equation_names xs ++ equation_names ys
equation_names-append [] ys = refl
equation_names-append (x ∷ xs) ys = ap (with_name (name_of x)) (equation_names-append xs ys) ∙ with_name-append (name_of x) (equation_names xs) (equation_names ys)

-- the names of the equations among items
abbrev pub item_names : List Item → List (List ℕ)
item_names items = equation_names (flat_map equations_in items)

pub item_names-more : (x : Item) (items : List Item) → item_names (x ∷ items) ≡ equation_names (equations_in x) ++ item_names items
item_names-more x items = equation_names-append (equations_in x) (flat_map equations_in items)

pub file_names-more : (x : Statement) (file : List Statement) → equation_names (equations_of (x ∷ file)) ≡ item_names (items_in x) ++ equation_names (equations_of file)
file_names-more x file =
    ap equation_names (flat_map-append equations_in (items_in x) (flat_map items_in file)) ∙ equation_names-append (flat_map equations_in (items_in x)) (equations_of file)

-- one turn of a loop that adds the names of each element
module _ {S : Type 0} (names : S → List (List ℕ)) (all : List S → List (List ℕ)) (more : (x : S) (xs : List S) → all (x ∷ xs) ≡ names x ++ all xs)
    (xs : List S) (i : ℕ) (x d : S) (found whole : List (List ℕ)) (within : i < length xs) (is : x ≡ get_or xs i d) (so_far : found ++ all (drop i xs) ≡ whole) where
  pub names_turn : (next : List (List ℕ)) → next ≡ found ++ names x → next ++ all (drop (i + 1) xs) ≡ whole
  names_turn next added =
      ap (λ l. l ++ all (drop (i + 1) xs)) added
      ∙ append_assoc found (names x) (all (drop (i + 1) xs))
      ∙ ap (λ l. found ++ l) (sym (ap all (drop_more xs i d within ∙ ap (λ y. y ∷ drop (i + 1) xs) (sym is)) ∙ more x (drop (i + 1) xs)))
      ∙ so_far

-- all are added
pub names_end : {S : Type 0} (all : List S → List (List ℕ)) (xs : List S) (i : ℕ) (found whole : List (List ℕ)) → all [] ≡ [] → length xs ≤ i → found ++ all (drop i xs) ≡ whole → found ≡ whole
names_end all xs i found whole none past so_far =
    sym (ap (λ l. found ++ l) (ap all (drop_of_length-le xs past) ∙ none) ∙ append-nil found) ∙ so_far

-- ---- from the last name to the first

abbrev pub lent : List (Bor (List ℕ)) → List (List ℕ)
lent names = map (λ (n : Bor (List ℕ)). n.now) names

lent-before : (names : List (Bor (List ℕ))) (i : ℕ) (d : Bor (List ℕ)) → 0 < i → i ≤ length names → lent (drop (i - 1) names) ≡ (get_or names (i - 1) d).now ∷ lent (drop i names)
lent-before names i d some within =
    let on : (i - 1) + 1 ≡ i = omega arith in
    let here : i - 1 < length names = omega arith in
    ap lent (drop_more names (i - 1) d here) ∙ ap (λ k. (get_or names (i - 1) d).now ∷ lent (drop k names)) on

there : (b : Bool) → false ≡ not b → b ≡ true
there true e = refl
there false e = absurd cc

-- a name that is there adds nothing
any-again : (rest : List (List ℕ)) (n : List ℕ) → list_any (bytes_eq n) rest ≡ true → Same rest (n ∷ rest)
any-again rest n again name = by (bytes_eq name n) refl
  where
    by : (b : Bool) → bytes_eq name n ≡ b → list_any (bytes_eq name) rest ≡ (b || list_any (bytes_eq name) rest)
    by false e = refl
    by true e =
        let s : name ≡ n = (bytes_eq-Decides name n).0 e in
        ap (λ m. list_any (bytes_eq m) rest) s ∙ again

again : (old new rest : List (List ℕ)) (n : List ℕ) (r : Bool) → Same old rest → r ≡ not (list_any (bytes_eq n) old) → new ≡ (if r then old ++ n ∷ [] else old) → r ≡ false → Same new (n ∷ rest) × (Some n ≡ first_shared (n ∷ rest))
again old new rest n true same added is not_added = absurd cc
again old new rest n false same added is not_added =
    let h : list_any (bytes_eq n) rest ≡ true = sym (same n) ∙ there (list_any (bytes_eq n) old) added in
    (λ name. ap (list_any (bytes_eq name)) is ∙ same name ∙ any-again rest n h name, ap (λ b. cond b (Some n) (first_shared rest)) (sym h))

-- a name that stands further on is the first one that does
pub again_turn : (names : List (Bor (List ℕ))) (i : ℕ) (d : Bor (List ℕ)) (old new : List (List ℕ)) (r : Bool) → 0 < i → i ≤ length names → Same old (lent (drop i names)) → r ≡ not (list_any (bytes_eq (get_or names (i - 1) d).now) old) → new ≡ (if r then old ++ (get_or names (i - 1) d).now ∷ [] else old) → r ≡ false
    → Same new (lent (drop (i - 1) names)) × (Some (get_or names (i - 1) d).now ≡ first_shared (lent (drop (i - 1) names)))
again_turn names i d old new r some within same added is not_added =
    subst (λ l. Same new l × (Some (get_or names (i - 1) d).now ≡ first_shared l)) (sym (lent-before names i d some within)) (again old new (lent (drop i names)) (get_or names (i - 1) d).now r same added is not_added)
