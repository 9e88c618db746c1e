-- The row of an array is its list.
use Rattle.std.proofs.Common.{◌≡◌, ℕ, suc, ◌+◌, ◌<◌, take, get_or, rules, ◌∷◌, [], ◌++◌, max, map, refl, sym, ap, ◌∙◌, ◌&&◌, ◌||◌, codes, List, append_assoc, append-nil, Bool, true, false, length}
use Rattle.std.specs.List.{list_any}
use Rattle.std.proofs.lemmas.List.{map_push, take_more}
use Rattle.mp_mvalue.specs.declared.value.Value.TheVariants as v
use Rattle.mp_mvalue.specs.declared.value.Value.TheViews.{the_lemmas}
use Rattle.mp_mvalue.specs.declared.sharing.SharedValue.{SharedValue}
use Rattle.mp_mvalue.specs.Shared.{unshared, all_unshared}
use Rattle.mp_mvalue.specs.declared.value.Value.{Value, Row_of-Value, items-the_row-Value, end_of-Value, more_of-Value}
use Rattle.mp_mvalue.specs.Values.{same, same_rows, same_all, row_items, depth, row_deepest, deepest, shown, row_shown, listed_after}

pub rows-same : (m n : _) (r : Row_of-Value m) (s : Row_of-Value n) → same_rows r s ≡ same_all (items-the_row-Value m r) (items-the_row-Value n s)
rows-same _ _ end_of-Value end_of-Value = refl
rows-same _ _ end_of-Value (more_of-Value y s) = refl
rows-same _ _ (more_of-Value x r) end_of-Value = refl
rows-same _ _ (more_of-Value x r) (more_of-Value y s) = ap (λ b. same x y && b) (rows-same _ _ r s)

pub rows-items : (n : _) (r : Row_of-Value n) → row_items r ≡ items-the_row-Value n r
rows-items _ end_of-Value = refl
rows-items _ (more_of-Value x r) = ap (λ l. x ∷ l) (rows-items _ r)

pub rows-deepest : (n : _) (r : Row_of-Value n) → row_deepest r ≡ deepest (items-the_row-Value n r)
rows-deepest _ end_of-Value = refl
rows-deepest _ (more_of-Value x r) = ap (λ d. max (depth x) d) (rows-deepest _ r)

pub rows-shown : (n : _) (r : Row_of-Value n) → row_shown r ≡ map shown (items-the_row-Value n r)
rows-shown _ end_of-Value = refl
rows-shown _ (more_of-Value x r) = ap (λ l. shown x ∷ l) (rows-shown _ r)

pub listed_after-push : (xs : List (List ℕ)) (x : List ℕ) → listed_after (xs ++ x ∷ []) ≡ listed_after xs ++ (codes ", " ++ x)
listed_after-push [] x = simp append-nil
listed_after-push (y ∷ ys) x = ap (λ l. codes ", " ++ y ++ l) (listed_after-push ys x) ∙ sym (append_assoc (codes ", " ++ y) (listed_after ys) (codes ", " ++ x))

-- arrays of different lengths differ
pub same_all-lengths : (xs ys : List Value) → (length xs ≡ length ys → ⊥) → same_all xs ys ≡ false
same_all-lengths [] [] h = absurd (h refl)
same_all-lengths [] (y ∷ ys) h = refl
same_all-lengths (x ∷ xs) [] h = refl
same_all-lengths (x ∷ xs) (y ∷ ys) h = ap (λ b. same x y && b) (same_all-lengths xs ys (λ e. h (ap (λ n. suc n) e))) ∙ and-false (same x y)
  where
    and-false : (b : Bool) → (b && false) ≡ false
    and-false true = refl
    and-false false = refl

-- one element more is printed
pub shown-turn : (before comma after front : List ℕ) (xs ys : List Value) (x : Value) → before ≡ front ++ listed_after (map shown xs) → comma ≡ before ++ codes ", " → after ≡ comma ++ shown x → ys ≡ xs ++ x ∷ [] → after ≡ front ++ listed_after (map shown ys)
shown-turn before comma after front xs ys x b c a y =
    a ∙ ap (λ l. l ++ shown x) (c ∙ ap (λ l. l ++ codes ", ") b)
    ∙ append_assoc (front ++ listed_after (map shown xs)) (codes ", ") (shown x)
    ∙ append_assoc front (listed_after (map shown xs)) (codes ", " ++ shown x)
    ∙ ap (λ l. front ++ l) (sym (ap listed_after (ap (map shown) y ∙ map_push shown xs x) ∙ listed_after-push (map shown xs) (shown x)))

pub same-lists : (xs ys : List Value) → same (v.List xs) (v.List ys) ≡ same_all xs ys
same-lists xs ys = search (rules, the_lemmas, rows-same)

pub ruleset lists = (same-lists)

-- a loop's first elements, and the next
pub take-unshared : (xs : List SharedValue) (i : ℕ) (x y : SharedValue) → i < length xs → x ≡ get_or xs i y → all_unshared (take (i + 1) xs) ≡ all_unshared (take i xs) ++ unshared x ∷ []
take-unshared xs i x y lt is =
    ap all_unshared (take_more xs i y lt ∙ ap (λ z. take i xs ++ z ∷ []) (sym is)) ∙ map_push unshared (take i xs) x

pub any-unshared : (f : Value → Bool) (xs : List SharedValue) → list_any f (all_unshared xs) ≡ list_any (λ x. f (unshared x)) xs
any-unshared f [] = refl
any-unshared f (x ∷ xs) = ap (λ b. f (unshared x) || b) (any-unshared f xs)

pub ruleset anys = (any-unshared)
