-- What holds of the elements of a list that are still ahead.
use Rattle.std.proofs.Common.{◌≡◌, ℕ, zero, suc, ◌+◌, ◌<◌, List, [], ◌∷◌, ◌++◌, map, drop, length, get_or, append_assoc, sym, ap, ◌∙◌, subst, arith}
use Rattle.std.specs.List.{AllByRecursion}
use Rattle.std.proofs.lemmas.List.{drop_more}

-- the next one is the first of those
pub next_is : {X Y : Type 0} (view : X → Y) (xs : List X) (i : ℕ) (x : X) → i < length xs → x ≡ get_or xs i x → map view (drop i xs) ≡ view x ∷ map view (drop (i + 1) xs)
next_is view xs i x within is = ap (map view) (drop_more xs i x within ∙ ap (λ y. y ∷ drop (i + 1) xs) (sym is))

-- what all have, the one at a place has
pub one_has : {X Y : Type 0} (P : Y → Type 0) (view : X → Y) (xs : List X) (i : ℕ) (x d : X) → AllByRecursion P (map view xs) → i < length xs → x ≡ get_or xs i d → P (view x)
one_has P view [] i x d all within is = absurd (omega arith)
one_has P view (y ∷ xs) zero x d all within is = subst (λ z. P (view z)) (sym is) all.0
one_has P view (y ∷ xs) (suc i) x d all within is = one_has P view xs i x d all.1 (omega arith) is

-- one more is done, which stood first among those ahead
pub one_more : {X : Type 0} (done more ahead rest whole : List X) (new first : X) → more ≡ done ++ new ∷ [] → new ≡ first → ahead ≡ first ∷ rest → done ++ ahead ≡ whole → more ++ rest ≡ whole
one_more done more ahead rest whole new first is same next so_far =
    ap (λ l. l ++ rest) (is ∙ ap (λ x. done ++ x ∷ []) same) ∙ append_assoc done (first ∷ []) rest ∙ ap (λ l. done ++ l) (sym next) ∙ so_far
