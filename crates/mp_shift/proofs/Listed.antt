-- Lists of auxiliaries, and their names in one text.
use Rattle.std.proofs.Common.{◌≡◌, ℕ, zero, suc, ◌+◌, ◌-◌, ◌<◌, ◌≤◌, List, [], ◌∷◌, ◌++◌, map, take, drop, length, get_or, append_assoc, add-one, refl, ap, sym, ◌∙◌, subst, arith}
use Rattle.std.specs.Prelude.{slice_range}
use Rattle.std.specs.List.{AllByRecursion}
use Rattle.std.proofs.lemmas.List.{map-append, length-append, length-drop, take-append-le, drop-append-le}
use Rattle.mp_solutions.specs.Auxiliaries as a
use Rattle.mp_solutions.specs.Auxiliaries.{Direction, lead, lag, Lengths, chain, auxiliaries}
use Rattle.mp_shift.specs.declared.reach.Reach.{Reach}
use Rattle.mp_shift.specs.declared.list.Entry.{Entry}
use Rattle.mp_shift.specs.Reach.{no_reach, lengths_of}
use Rattle.mp_shift.specs.Called.{called_in, auxiliary_of, IsInside}

-- ---- chains

pub chain_more : (xs ys zs : List a.Auxiliary) (v : ℕ) (d : Direction) (k : ℕ) → ys ≡ xs ++ chain v d k → zs ≡ ys ++ record { place = v; direction = d; index = k } ∷ [] → zs ≡ xs ++ chain v d (k + 1)
chain_more xs ys zs v d k so_far is =
    is ∙ ap (λ l. l ++ record { place = v; direction = d; index = k } ∷ []) so_far
    ∙ append_assoc xs (chain v d k) (record { place = v; direction = d; index = k } ∷ [])
    ∙ ap (λ (n : ℕ). xs ++ chain v d n) (sym (add-one k))

pub row_at : (rs : List Reach) (v : ℕ) (r : Reach) → v < length rs → r ≡ get_or rs v r → get_or rs v no_reach ≡ r
row_at [] v r l e = absurd (omega arith)
row_at (x ∷ rs) zero r l e = sym e
row_at (x ∷ rs) (suc v) r l e = row_at rs v r (omega arith) e

pub row_more : (rs : List Reach) (v : ℕ) (r : Reach) (xs ys zs : List a.Auxiliary) → v < length rs → r ≡ get_or rs v r
    → xs ≡ auxiliaries (lengths_of rs) v → ys ≡ xs ++ chain v lead (r.lead - 1) → zs ≡ ys ++ chain v lag (r.lag - 1) → zs ≡ auxiliaries (lengths_of rs) (v + 1)
row_more rs v r xs ys zs l e so_far leads lags =
    lags
    ∙ ap (λ m. m ++ chain v lag (r.lag - 1)) (leads ∙ ap (λ m. m ++ chain v lead (r.lead - 1)) so_far)
    ∙ append_assoc (auxiliaries (lengths_of rs) v) (chain v lead (r.lead - 1)) (chain v lag (r.lag - 1))
    ∙ ap (λ (x : Reach). auxiliaries (lengths_of rs) v ++ (chain v lead (x.lead - 1) ++ chain v lag (x.lag - 1))) (sym (row_at rs v r l e))
    ∙ ap (auxiliaries (lengths_of rs)) (sym (add-one v))

pub chain_same : (f g : ℕ) (v : ℕ) (d : Direction) → f ≡ g → chain v d f ≡ chain v d g
chain_same f g v d e = ap (chain v d) e

pub auxiliaries_same : (f g : Lengths) → ((d : Direction) (v : ℕ) → f d v ≡ g d v) → (n : ℕ) → auxiliaries f n ≡ auxiliaries g n
auxiliaries_same f g h zero = refl
auxiliaries_same f g h (suc v) =
    ap (λ l. l ++ (chain v lead (f lead v) ++ chain v lag (f lag v))) (auxiliaries_same f g h v)
    ∙ ap (λ (n : ℕ). auxiliaries g v ++ (chain v lead n ++ chain v lag (f lag v))) (h lead v)
    ∙ ap (λ (n : ℕ). auxiliaries g v ++ (chain v lead (g lead v) ++ chain v lag n)) (h lag v)

-- ---- names in one text

range_left : (xs ys : List ℕ) (i j : ℕ) → i ≤ j → j ≤ length xs → slice_range (xs ++ ys) i j ≡ slice_range xs i j
range_left xs ys i j p q =
    ap (take (j - i)) (drop-append-le i xs ys (omega arith))
    ∙ take-append-le (j - i) (drop i xs) ys (omega (arith, length-drop i xs))

range_right : (xs ys : List ℕ) → slice_range (xs ++ ys) (length xs) (length (xs ++ ys)) ≡ ys
range_right xs ys =
    ap (take (length (xs ++ ys) - length xs)) (drop_front xs ys) ∙ ap (λ (n : ℕ). take n ys) (omega (arith, length-append xs ys)) ∙ take_all ys
  where
    drop_front : (xs ys : List ℕ) → drop (length xs) (xs ++ ys) ≡ ys
    drop_front [] ys = refl
    drop_front (x ∷ xs) ys = drop_front xs ys

    take_all : (ys : List ℕ) → take (length ys) ys ≡ ys
    take_all [] = refl
    take_all (y ∷ ys) = ap (λ l. y ∷ l) (take_all ys)

called_still : (text more : List ℕ) (es : List Entry) → AllByRecursion (IsInside (length text)) es → map (called_in (text ++ more)) es ≡ map (called_in text) es
called_still text more [] h = refl
called_still text more (e ∷ es) h =
    let p = range_left text more e.start e.end h.0.order h.0.end in
    ap (λ n. record { auxiliary = auxiliary_of e.auxiliary; name = n } ∷ map (called_in (text ++ more)) es) p
    ∙ ap (λ l. called_in text e ∷ l) (called_still text more es h.1)

pub inside_still : (size more : ℕ) (es : List Entry) → size ≤ more → AllByRecursion (IsInside size) es → AllByRecursion (IsInside more) es
inside_still size more [] l h = tt
inside_still size more (e ∷ es) l h = (record { order = h.0.order; end = omega (arith, h.0.end) }, inside_still size more es l h.1)

inside_push : (size : ℕ) (es : List Entry) (e : Entry) → AllByRecursion (IsInside size) es → IsInside size e → AllByRecursion (IsInside size) (es ++ e ∷ [])
inside_push size [] e h k = (k, tt)
inside_push size (x ∷ es) e h k = (h.0, inside_push size es e h.1 k)

module _ (text name new : List ℕ) (is : new ≡ text ++ name) (es : List Entry) (h : AllByRecursion (IsInside (length text)) es) where
  longer : length text ≤ length new
  longer = omega (arith, ap (λ (l : List ℕ). length l) is, length-append text name)

  pub inside_longer : AllByRecursion (IsInside (length new)) es
  inside_longer = inside_still (length text) (length new) es longer h

  pub inside_more : (e : Entry) (more : List Entry) → e.start ≡ length text → e.end ≡ length new → more ≡ es ++ e ∷ [] → AllByRecursion (IsInside (length new)) more
  inside_more e more p q r =
      subst (λ l. AllByRecursion (IsInside (length new)) l) (sym r)
      (inside_push (length new) es e inside_longer (record { order = omega (arith, longer); end = omega arith }))

  pub called_more : (e : Entry) (more : List Entry) → e.start ≡ length text → e.end ≡ length new → more ≡ es ++ e ∷ []
      → map (called_in new) more ≡ map (called_in text) es ++ record { auxiliary = auxiliary_of e.auxiliary; name = name } ∷ []
  called_more e more p q r =
      ap (map (called_in new)) r
      ∙ map-append (called_in new) es (e ∷ [])
      ∙ ap (λ l. l ++ called_in new e ∷ []) (ap (λ t. map (called_in t) es) is ∙ called_still text name es h)
      ∙ ap (λ n. map (called_in text) es ++ record { auxiliary = auxiliary_of e.auxiliary; name = n } ∷ []) named
    where
      named : slice_range new e.start e.end ≡ name
      named = ap (λ (i : ℕ). slice_range new i e.end) p ∙ ap (λ (j : ℕ). slice_range new (length text) j) q ∙ ap (λ t. slice_range t (length text) (length t)) is ∙ range_right text name
