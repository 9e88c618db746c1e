-- How long and how deep arrays are.
use Rattle.std.proofs.Common.{◌≡◌, ℕ, suc, ◌+◌, ◌∷◌, [], ◌++◌, map, max, refl, ap, ◌∙◌, codes, List, length, length-append, arith, rules}
use Rattle.mp_mvalue.specs.declared.value.Value.{Value}
use Rattle.mp_mvalue.specs.declared.sharing.SharedValue.{SharedValue}
use Rattle.mp_mvalue.specs.Shared.{unshared}
use Rattle.mp_mvalue.specs.declared.value.Value.TheVariants as v
use Rattle.mp_mvalue.specs.declared.value.Value.TheViews.{the_lemmas}
use Rattle.mp_mvalue.specs.Values.{depth, deepest, shown, listed, listed_after, printed}
use Rattle.mp_mvalue.specs.Measures.{spread}
use Rattle.mp_mvalue.proofs.Rows.{rows-shown, rows-deepest}

pub shown-list : (xs : List Value) → shown (v.List xs) ≡ codes "[" ++ listed (map shown xs) ++ codes "]"
shown-list xs = search (rules, the_lemmas, rows-shown)

pub printed-list : (xs : List Value) → printed (v.List xs) ≡ codes "[" ++ listed (map shown xs) ++ codes "]"
printed-list xs = search (rules, the_lemmas, rows-shown)

pub depth-list : (xs : List Value) → depth (v.List xs) ≡ 1 + deepest xs
depth-list xs = search (rules, the_lemmas, rows-deepest)

pub length-listed_after : (xs : List Value) → length (listed_after (map shown xs)) ≡ spread xs
length-listed_after [] = refl
length-listed_after (x ∷ xs) =
    omega (arith, length-append (codes ", ") (shown x ++ listed_after (map shown xs)), length-append (shown x) (listed_after (map shown xs)), length-listed_after xs)

pub length-bracketed : (xs : List Value) → length (codes "[" ++ listed (map shown xs) ++ codes "]") ≡ max 2 (spread xs)
length-bracketed [] = refl
length-bracketed (x ∷ xs) =
    let whole : length (codes "[" ++ (shown x ++ listed_after (map shown xs)) ++ codes "]") ≡ length (shown x) + 2 + spread xs = omega (arith, length-append (codes "[") ((shown x ++ listed_after (map shown xs)) ++ codes "]"), length-append (shown x ++ listed_after (map shown xs)) (codes "]"), length-append (shown x) (listed_after (map shown xs)), length-listed_after xs) in
    grind (arith, whole)

pub length-shown : (xs : List Value) → length (shown (v.List xs)) ≡ max 2 (spread xs)
length-shown xs = ap length (shown-list xs) ∙ length-bracketed xs

pub length-printed : (xs : List Value) → length (printed (v.List xs)) ≡ max 2 (spread xs)
length-printed xs = ap length (printed-list xs) ∙ length-bracketed xs

pub length-quoted : (t : List ℕ) → length (shown (v.Text t)) ≡ length t + 2
length-quoted t = omega (arith, length-append (codes "\"") (t ++ codes "\""), length-append t (codes "\""))

pub spread-append : (xs ys : List Value) → spread (xs ++ ys) ≡ spread xs + spread ys
spread-append [] ys = omega arith
spread-append (x ∷ xs) ys = omega (arith, spread-append xs ys)

pub deepest-append : (xs ys : List Value) → deepest (xs ++ ys) ≡ max (deepest xs) (deepest ys)
deepest-append [] ys = grind arith
deepest-append (x ∷ xs) ys = grind (arith, deepest-append xs ys)

pub length-unshared : (xs : List SharedValue) → length (map unshared xs) ≡ length xs
length-unshared [] = refl
length-unshared (x ∷ xs) = ap suc (length-unshared xs)

pub ruleset lists = (shown-list, depth-list, length-shown)

pub ruleset alone = (printed-list, shown-list)

pub ruleset texts = (length-quoted)

pub ruleset counting = (length-unshared)

pub ruleset joining = (spread-append, deepest-append, length-append)
