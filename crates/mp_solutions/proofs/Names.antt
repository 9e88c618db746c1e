-- Auxiliaries of one name are one, if the variables' names are distinct.
use Rattle.std.proofs.Common.{◌≡◌, ℕ, suc, zero, ◌+◌, ◌<◌, Some, List, [], ◌∷◌, ◌++◌, map, length, slice_get, slice_index_or, drop, eqb, true≢false, refl, ap, sym, ◌∙◌, subst, arith, append_assoc}
use Rattle.std.specs.List.{AllByRecursion as Each}
use Rattle.std.proofs.lemmas.Option.{none-some, same_Some, slice_get-get_or}
use Rattle.mp_semantics.specs.Model.{Model}
use Rattle.mp_solutions.specs.Auxiliaries.{Direction, lead, lag, width, Auxiliary, lengths, auxiliaries_of, decimal_digits, direction_word, auxiliary_name}
use Rattle.mp_solutions.specs.Laws.{IsDistinct}
use Rattle.mp_solutions.proofs.Lists.{each_of, each_right, each_get}
use Rattle.mp_solutions.proofs.Digits.{IsDigit, all_digits, digits_same}
use Rattle.mp_solutions.proofs.Numbering.{auxiliary, spot, auxiliaries_at}
use Rattle.mp_solutions.proofs.Which.{IsWithinChains, each_within}

-- no byte is "_"
abbrev NoLine : List ℕ → Type 0
NoLine ds = Each (λ (d : ℕ). d ≡ 95 → ⊥) ds

no_line : (n : ℕ) → NoLine (decimal_digits n)
no_line n = each_of IsDigit (λ (d : ℕ). d ≡ 95 → ⊥) (λ d h e. let low = h.1 in absurd (omega arith)) (decimal_digits n) (all_digits n)

-- a text is cut at its last "_" in one way
cut : (xs ys ds es : List ℕ) → NoLine ds → NoLine es → xs ++ 95 ∷ ds ≡ ys ++ 95 ∷ es → (xs ≡ ys) × (ds ≡ es)
cut [] [] ds es h k e = (refl, cc)
cut [] (y ∷ ys) ds es h k e =
    let f : ds ≡ ys ++ 95 ∷ es = cc in
    absurd ((each_right (λ (d : ℕ). d ≡ 95 → ⊥) ys (95 ∷ es) (subst NoLine f h)).0 refl)
cut (x ∷ xs) [] ds es h k e =
    let f : es ≡ xs ++ 95 ∷ ds = cc in
    absurd ((each_right (λ (d : ℕ). d ≡ 95 → ⊥) xs (95 ∷ ds) (subst NoLine f k)).0 refl)
cut (x ∷ xs) (y ∷ ys) ds es h k e =
    let f : xs ++ 95 ∷ ds ≡ ys ++ 95 ∷ es = cc in
    let g = cut xs ys ds es h k f in
    (cc (g.0), g.1)

direction_same : (c d : Direction) (x y : List ℕ) → direction_word c ++ x ≡ direction_word d ++ y → (c ≡ d) × (x ≡ y)
direction_same lead lead x y e = (refl, ap (drop 9) e)
direction_same lead lag x y e = absurd (true≢false (ap (λ (l : List ℕ). eqb (slice_index_or l 5 0) 69) e))
direction_same lag lead x y e = absurd (true≢false (ap (λ (l : List ℕ). eqb (slice_index_or l 5 0) 65) e))
direction_same lag lag x y e = (refl, ap (drop 8) e)

-- what precedes the number
abbrev front : List (List ℕ) → Auxiliary → List ℕ
front names a = direction_word a.direction ++ slice_index_or names a.place []

-- direction, variable's name and number can be read from an auxiliary's name
name_same : (names : List (List ℕ)) (a b : Auxiliary) → auxiliary_name names a ≡ auxiliary_name names b
    → (a.direction ≡ b.direction) × (slice_index_or names a.place [] ≡ slice_index_or names b.place []) × (a.index ≡ b.index)
name_same names a b e =
    let f : front names a ++ 95 ∷ decimal_digits (a.index + 1) ≡ front names b ++ 95 ∷ decimal_digits (b.index + 1) =
    append_assoc (direction_word a.direction) (slice_index_or names a.place []) (95 ∷ decimal_digits (a.index + 1)) ∙ e ∙ sym (append_assoc (direction_word b.direction) (slice_index_or names b.place []) (95 ∷ decimal_digits (b.index + 1))) in
    let (x, y) = cut (front names a) (front names b) (decimal_digits (a.index + 1)) (decimal_digits (b.index + 1)) (no_line (a.index + 1)) (no_line (b.index + 1)) f in
    let (d, n) = direction_same a.direction b.direction _ _ x in
    let i = digits_same (a.index + 1) (b.index + 1) y in
    (d, n, omega arith)

mapped : {X Y : Type 0} (f : X → Y) (xs : List X) (i : ℕ) (y : Y) → slice_get (map f xs) i ≡ Some y → (x : X) × (slice_get xs i ≡ Some x) × (f x ≡ y)
mapped f [] i y e = absurd (none-some y e)
mapped f (x ∷ xs) zero y e = (x, refl, same_Some _ _ e)
mapped f (x ∷ xs) (suc i) y e = mapped f xs i y e

auxiliary_same : (names : List (List ℕ)) (a b : Auxiliary) → IsDistinct names → a.place < length names → b.place < length names
    → auxiliary_name names a ≡ auxiliary_name names b → a ≡ b
auxiliary_same names a b d la lb e =
    let (w, n, i) = name_same names a b e in
    let o = d a.place b.place (slice_index_or names b.place []) (slice_get-get_or names a.place [] la ∙ ap Some n) (slice_get-get_or names b.place [] lb) in
    joined a.place b.place a.direction b.direction a.index b.index o w i
  where
    joined : (u v : ℕ) (x y : Direction) (k l : ℕ) → u ≡ v → x ≡ y → k ≡ l → auxiliary u x k ≡ auxiliary v y l
    joined u v x y k l p q r = cc

pub names_distinct : (M : Model) → IsDistinct M.endogenous_names → IsDistinct (map (auxiliary_name M.endogenous_names) (auxiliaries_of M))
names_distinct M d i j x e f =
    let (a, ga, na) = mapped (auxiliary_name M.endogenous_names) (auxiliaries_of M) i x e in
    let (b, gb, nb) = mapped (auxiliary_name M.endogenous_names) (auxiliaries_of M) j x f in
    let wa = each_get (IsWithinChains M) (auxiliaries_of M) i a (each_within M) ga in
    let wb = each_get (IsWithinChains M) (auxiliaries_of M) j b (each_within M) gb in
    let s = auxiliary_same M.endogenous_names a b d wa.0 wb.0 (na ∙ sym nb) in
    sym (auxiliaries_at (lengths M) (width M) i a ga) ∙ ap (spot (lengths M)) s ∙ auxiliaries_at (lengths M) (width M) j b gb
