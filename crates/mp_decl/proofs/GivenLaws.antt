-- Which parameters are given a value, by the names alone.
use Rattle.std.proofs.Common.{◌≡◌, ℕ, ◌+◌, ◌<◌, ◌≤◌, List, [], ◌∷◌, ◌++◌, map, length, drop, get_or, Bool, true, false, cond, not, ◌||◌, Option, Some, None, refl, sym, ap, ◌∙◌, append-nil}
use Rattle.std.specs.Prelude.{find}
use Rattle.std.specs.List.{list_any, flat_map}
use Rattle.std.specs.Option.{option_or}
use Rattle.std.specs.Str.{bytes_eq}
use Rattle.std.proofs.Math.ListN.{drop_of_length-le}
use Rattle.std.proofs.lemmas.List.{drop_more}
use Rattle.std.proofs.lemmas.List.Folds.{list_any-append}
use Rattle.mp_statements.specs.Statements as f
use Rattle.mp_file.specs.declared.Statement.{Statement}
use Rattle.mp_file.specs.Shown.{statement_of}
use Rattle.mp_declared.specs.Points.{Constant, reads}
use Rattle.mp_declared.specs.Declared.{is_missing, names_read, read_early, assigned_in}
use Rattle.mp_decl.specs.Values.{early_in}

-- the same names
abbrev pub Same : List (List ℕ) → List (List ℕ) → Type 0
Same given other = (name : List ℕ) → list_any (bytes_eq name) given ≡ list_any (bytes_eq name) other

pub find-same : (given other names : List (List ℕ)) → Same given other → find (is_missing given) names ≡ find (is_missing other) names
find-same given other [] same = refl
find-same given other (n ∷ names) same = λ i. cond (not (same n i)) (Some n) (find-same given other names same i)

or-same : (a : List (List ℕ)) (given other : List (List ℕ)) → Same given other → Same (a ++ given) (a ++ other)
or-same a given other same name =
    list_any-append (bytes_eq name) a given ∙ ap (λ b. list_any (bytes_eq name) a || b) (same name) ∙ sym (list_any-append (bytes_eq name) a other)

read_early-same : (given other : List (List ℕ)) (file : List f.Statement) → Same given other → read_early given file ≡ read_early other file
read_early-same given other [] same = refl
read_early-same given other (f.Declares kind names ∷ file) same = read_early-same given other file same
read_early-same given other (f.Assigns name value ∷ file) same =
    λ i. option_or (find-same given other (names_read (reads Constant value)) same i) (read_early-same (name.name ∷ given) (name.name ∷ other) file (or-same (name.name ∷ []) given other same) i)
read_early-same given other (f.Model at choices items ∷ file) same = read_early-same given other file same
read_early-same given other (f.Notes command names ∷ file) same = read_early-same given other file same

read_early-more : (given : List (List ℕ)) (x : f.Statement) (file : List f.Statement) → read_early given (x ∷ file) ≡ option_or (early_in given x) (read_early (assigned_in x ++ given) file)
read_early-more given (f.Declares kind names) file = refl
read_early-more given (f.Assigns name value) file = refl
read_early-more given (f.Model at choices items) file = refl
read_early-more given (f.Notes command names) file = refl

or_moved : (a g r : Bool) → ((a || g) || r) ≡ (g || (a || r))
or_moved true true r = refl
or_moved true false r = refl
or_moved false true r = refl
or_moved false false r = refl

module _ (xs : List Statement) (i : ℕ) (x d : Statement) (given : List (List ℕ)) (within : i < length xs) (is : x ≡ get_or xs i d) where
  here : drop i xs ≡ x ∷ drop (i + 1) xs
  here = drop_more xs i d within ∙ ap (λ y. y ∷ drop (i + 1) xs) (sym is)

  early_here : (whole : Option (List ℕ)) → read_early given (map statement_of (drop i xs)) ≡ whole → option_or (early_in given (statement_of x)) (read_early (assigned_in (statement_of x) ++ given) (map statement_of (drop (i + 1) xs))) ≡ whole
  early_here whole so_far = sym (read_early-more given (statement_of x) (map statement_of (drop (i + 1) xs))) ∙ ap (λ l. read_early given (map statement_of l)) (sym here) ∙ so_far

  -- a statement that reads no parameter early
  pub early_turn : (whole : Option (List ℕ)) (next : List (List ℕ)) → None ≡ early_in given (statement_of x) → Same next (assigned_in (statement_of x) ++ given) → read_early given (map statement_of (drop i xs)) ≡ whole → read_early next (map statement_of (drop (i + 1) xs)) ≡ whole
  early_turn whole next none same so_far =
      read_early-same next (assigned_in (statement_of x) ++ given) (map statement_of (drop (i + 1) xs)) same
      ∙ ap (λ r. option_or r (read_early (assigned_in (statement_of x) ++ given) (map statement_of (drop (i + 1) xs)))) none
      ∙ early_here whole so_far

  -- one that does
  pub early_found : (whole : Option (List ℕ)) (name : List ℕ) → Some name ≡ early_in given (statement_of x) → read_early given (map statement_of (drop i xs)) ≡ whole → Some name ≡ whole
  early_found whole name some so_far =
      ap (λ r. option_or r (read_early (assigned_in (statement_of x) ++ given) (map statement_of (drop (i + 1) xs)))) some ∙ early_here whole so_far

  -- the names that are given in all
  pub given_turn : (next whole : List (List ℕ)) → Same next (assigned_in (statement_of x) ++ given) → Same (given ++ flat_map assigned_in (map statement_of (drop i xs))) whole → Same (next ++ flat_map assigned_in (map statement_of (drop (i + 1) xs))) whole
  given_turn next whole same so_far name =
      let rest = flat_map assigned_in (map statement_of (drop (i + 1) xs)) in
      let a = assigned_in (statement_of x) in
      let test = bytes_eq name in
      list_any-append test next rest
      ∙ ap (λ b. b || list_any test rest) (same name ∙ list_any-append test a given)
      ∙ or_moved (list_any test a) (list_any test given) (list_any test rest)
      ∙ sym (list_any-append test given (a ++ rest) ∙ ap (λ b. list_any test given || b) (list_any-append test a rest))
      ∙ ap (λ l. list_any test (given ++ flat_map assigned_in (map statement_of l))) (sym here)
      ∙ so_far name

-- all are given
pub given_end : (xs : List Statement) (i : ℕ) (given whole : List (List ℕ)) → length xs ≤ i → Same (given ++ flat_map assigned_in (map statement_of (drop i xs))) whole → Same given whole
given_end xs i given whole past so_far name =
    ap (list_any (bytes_eq name)) (sym (append-nil given))
    ∙ ap (λ l. list_any (bytes_eq name) (given ++ flat_map assigned_in (map statement_of l))) (sym (drop_of_length-le xs past))
    ∙ so_far name

pub early_end : (xs : List Statement) (i : ℕ) (given : List (List ℕ)) (whole : Option (List ℕ)) → length xs ≤ i → read_early given (map statement_of (drop i xs)) ≡ whole → None ≡ whole
early_end xs i given whole past so_far = ap (λ l. read_early given (map statement_of l)) (sym (drop_of_length-le xs past)) ∙ so_far
