-- Where a reading stops, the tokens before begin something that reads, and with the wrong one they do not.
use Rattle.std.proofs.Common.{◌≡◌, ℕ, zero, suc, ◌+◌, ◌<◌, ◌⊎◌, inl, inr, List, [], ◌∷◌, ◌++◌, length, Bool, true, false, cond, Some, None, Result, Ok, Err, refl, sym, ap, ◌∙◌, subst, arith, append_assoc, append-nil}
use Rattle.std.proofs.lemmas.List.{append_cancel_right}
use Rattle.mp_tokens.specs.Tokens.{Tok}
use Rattle.mp_format.specs.Reading.{Read, ◌>>=◌, go_on, more_at}
use Rattle.mp_format.proofs.ReadLaws.{got}
use Rattle.mp_format.specs.Pieces.{Around, close}
use Rattle.mp_format.specs.Format.{Look, sees, sample_of, meets, Reading, left_of, leaving, Mends, Format, tok, both, choose, opt, many, via, part, ManyReads, Reads, first, told, tok_at, begin, ending, read, at_end, read_all, Begins, Refused}
use Rattle.mp_format.proofs.Laws.{told_both, told_choose, told_opt, told_many, told_via, sound, shorter, local, complete}
use Rattle.mp_format.proofs.Kept.{kept}

told_tok : (l : Look) (w : Around) → told (tok l w) ≡ true → sees l (sample_of l) ≡ true
unfolding told
told_tok l w k = k

-- the ending of a format reads
pub ended : {X : Type 0} (f : Format X) → told f ≡ true → (r : List Tok) → Reads f ((ending f).0 ++ r) (ending f).1 r
unfolding Reads ending
ended (tok l w) k r = (told_tok l w k, refl)
ended (both f g) k r =
    let t = told_both f g k in
    ((ending g).0 ++ r, subst (λ l. Reads f l (ending f).1 ((ending g).0 ++ r)) (sym (append_assoc (ending f).0 (ending g).0 r)) (ended f t.0 ((ending g).0 ++ r)), ended g t.1 r)
ended (choose f g) k r = inl (ended f (told_choose f g k).0 r)
ended (opt f) k r = refl
ended (many f) k r = refl
ended (via to f) k r = ((ending f).1, ended f (told_via to f k) r, refl)
ended (part ls ms w p) k r = p.laws.ends r

abbrev cons : {X : Type 0} → X → Read (List X) → Read (List X)
cons x s = s >>= λ xs. Ok (x ∷ xs.0, xs.1)

abbrev pair_with : {X Y : Type 0} → X → Read Y → Read (X × Y)
pair_with a s = s >>= λ b. Ok ((a, b.0), b.1)

abbrev mapped : {X Y : Type 0} → (X → Y) → Read X → Read Y
mapped to s = s >>= λ x. Ok (to x.0, x.1)

-- a reading that fails
failed : {A B : Type 0} (r : Result A (List Tok)) (f : A → Result B (List Tok)) (l : List Tok) → (r >>= f) ≡ Err l → (r ≡ Err l) ⊎ ((x : A) × (r ≡ Ok x) × (f x ≡ Err l))
failed (Err q) f l e = inl (let same : q ≡ l = cc in ap (λ z. Err z) same)
failed (Ok x) f l e = inr (x, refl, e)

-- what fails after what is read
mends_after : {X Y : Type 0} (f : Format X) (R : Reading Y) (ts left : List Tok) (x : X × List Tok) → read f ts ≡ Ok x → Mends R x.1 left → (front more : List Tok) × (y : Y) × (ts ≡ front ++ left) × ((r : List Tok) → (mid : List Tok) × Reads f (front ++ (more ++ r)) x.0 mid × R mid y r)
mends_after f R ts left x e m =
    let a = local f ts x.1 x.0 (sound f ts x e) in
    (a.0 ++ m.0, m.1, m.2, a.1 ∙ ap (λ l. a.0 ++ l) m.3 ∙ sym (append_assoc a.0 m.0 left), λ r. (m.0 ++ (m.1 ++ r), subst (λ l. Reads f l x.0 (m.0 ++ (m.1 ++ r))) (sym (append_assoc a.0 m.0 (m.1 ++ r))) (a.2 (m.0 ++ (m.1 ++ r))), m.4 r))

mends_tok : (l : Look) → sees l (sample_of l) ≡ true → (ts left : List Tok) → tok_at l ts ≡ Err left → Mends (Reads (tok l close)) ts left
unfolding tok_at Reads
mends_tok l k [] left e =
    let none : [] ≡ left = cc in ([], sample_of l ∷ [], sample_of l, none, λ r. (k, refl))
mends_tok l k (u ∷ us) left e = by_sees (sees l u) e
  where
    by_sees : (b : Bool) → cond b (got {X = Tok × List Tok} (u, us)) (Err (u ∷ us)) ≡ Err left → Mends (Reads (tok l close)) (u ∷ us) left
    by_sees true e = cc
    by_sees false e =
        let all : u ∷ us ≡ left = cc in ([], sample_of l ∷ [], sample_of l, all, λ r. (k, refl))

mends_many : {X : Type 0} (f : Format X) → told (many f) ≡ true → ((ts left : List Tok) → read f ts ≡ Err left → Mends (Reads f) ts left) → (n : ℕ) (ts left : List Tok) → length ts < n → more_at n (begin (first f)) (read f) ts ≡ Err left → Mends (ManyReads (Reads f)) ts left
unfolding more_at
mends_many f k one zero ts left lt e = absurd (omega arith)
mends_many {X} f k one (suc n) ts left lt e = by_meets (λ us. mends_many f k one n us left) (meets (first f) ts) e
  where
    Rest : Type 0
    Rest = (us : List Tok) → length us < n → more_at n (begin (first f)) (read f) us ≡ Err left → Mends (ManyReads (Reads f)) us left

    first_fails : Mends (Reads f) ts left → Mends (ManyReads (Reads f)) ts left
    first_fails m = (m.0, m.1, m.2 ∷ [], m.3, λ r. (r, m.4 r, refl))

    goes : (x : X × List Tok) → read f ts ≡ Ok x → Mends (ManyReads (Reads f)) x.1 left → Mends (ManyReads (Reads f)) ts left
    goes x is m = let a = mends_after f (ManyReads (Reads f)) ts left x is m in (a.0, a.1, x.0 ∷ a.2, a.3, a.4)

    more_fails : (x : X × List Tok) (s : Read (List X)) → more_at n (begin (first f)) (read f) x.1 ≡ s → cons x.0 s ≡ Err left → more_at n (begin (first f)) (read f) x.1 ≡ Err left
    more_fails x (Ok xs) is e = cc
    more_fails x (Err q) is e = is ∙ (let same : q ≡ left = cc in ap (λ z. Err z) same)

    by_side : Rest → (read f ts ≡ Err left) ⊎ ((x : X × List Tok) × (read f ts ≡ Ok x) × (cons x.0 (more_at n (begin (first f)) (read f) x.1) ≡ Err left)) → Mends (ManyReads (Reads f)) ts left
    by_side rest (inl h) = first_fails (one ts left h)
    by_side rest (inr p) =
        let lt' = shorter f ts p.0.1 p.0.0 (told_many f k).1 (sound f ts p.0 p.1) in
        goes p.0 p.1 (rest p.0.1 (omega arith) (more_fails p.0 (more_at n (begin (first f)) (read f) p.0.1) refl p.2))

    by_meets : Rest → (b : Bool) → go_on (cond b (Some ts) None) (Ok ([], ts)) (λ b. read f b >>= λ x. cons x.0 (more_at n (begin (first f)) (read f) x.1)) ≡ Err left → Mends (ManyReads (Reads f)) ts left
    by_meets rest false e = cc
    by_meets rest true e =
        by_side rest (failed (read f ts) (λ x. cons x.0 (more_at n (begin (first f)) (read f) x.1)) left e)

-- what stands before the wrong token begins something that reads
pub mends : {X : Type 0} (f : Format X) → told f ≡ true → (ts left : List Tok) → read f ts ≡ Err left → Mends (Reads f) ts left
unfolding Reads read
mends (tok l w) k ts left e = mends_tok l (told_tok l w k) ts left e
mends (both {X} {Y} f g) k ts left e =
    let t = told_both f g k in
    by_side (mends f t.0 ts left) (λ us. mends g t.1 us left) (failed (read f ts) (λ a. pair_with a.0 (read g a.1)) left e)
  where
    by_second : (a : X × List Tok) → read f ts ≡ Ok a → ((us : List Tok) → read g us ≡ Err left → Mends (Reads g) us left) → (s : Read Y) → read g a.1 ≡ s → pair_with a.0 s ≡ Err left → Mends (Reads (both f g)) ts left
    by_second a is h (Ok b) now e = cc
    by_second a is h (Err q) now e =
        let same : q ≡ left = cc in
        let m = mends_after f (Reads g) ts left a is (h a.1 (now ∙ ap (λ z. Err z) same)) in
        (m.0, m.1, (a.0, m.2), m.3, m.4)

    by_side : (read f ts ≡ Err left → Mends (Reads f) ts left) → ((us : List Tok) → read g us ≡ Err left → Mends (Reads g) us left) → (read f ts ≡ Err left) ⊎ ((a : X × List Tok) × (read f ts ≡ Ok a) × (pair_with a.0 (read g a.1) ≡ Err left)) → Mends (Reads (both f g)) ts left
    by_side p q (inl h) =
        let m = p h in
        (m.0, m.1 ++ (ending g).0, (m.2, (ending g).1), m.3, λ r. ((ending g).0 ++ r, subst (λ l. Reads f (m.0 ++ l) m.2 ((ending g).0 ++ r)) (sym (append_assoc m.1 (ending g).0 r)) (m.4 ((ending g).0 ++ r)), ended g (told_both f g k).1 r))
    by_side p q (inr s) = by_second s.0 s.1 q (read g s.0.1) refl s.2
mends (choose {X} f g) k ts left e =
    let t = told_choose f g k in
    by_meets (meets (first f) ts) (mends f t.0 ts left) (mends g t.1 ts left) e
  where
    by_meets : (b : Bool) → (read f ts ≡ Err left → Mends (Reads f) ts left) → (read g ts ≡ Err left → Mends (Reads g) ts left) → cond b (read f ts) (read g ts) ≡ Err left → Mends (Reads (choose f g)) ts left
    by_meets true p q e = let m = p e in (m.0, m.1, m.2, m.3, λ r. inl (m.4 r))
    by_meets false p q e = let m = q e in (m.0, m.1, m.2, m.3, λ r. inr (m.4 r))
mends (opt {X} f) k ts left e = by_meets (meets (first f) ts) (mends f (told_opt f k).0 ts left) e
  where
    by_read : (read f ts ≡ Err left → Mends (Reads f) ts left) → (s : Read X) → read f ts ≡ s → mapped (λ x. Some x) s ≡ Err left → Mends (Reads (opt f)) ts left
    by_read p (Ok x) is e = cc
    by_read p (Err q) is e =
        let same : q ≡ left = cc in
        let m = p (is ∙ ap (λ z. Err z) same) in (m.0, m.1, Some m.2, m.3, m.4)

    by_meets : (b : Bool) → (read f ts ≡ Err left → Mends (Reads f) ts left) → cond b (mapped (λ x. Some x) (read f ts)) (Ok (None, ts)) ≡ Err left → Mends (Reads (opt f)) ts left
    by_meets true p e = by_read p (read f ts) refl e
    by_meets false p e = cc
mends (many f) k ts left e =
    mends_many f k (λ us l h. mends f (told_many f k).0 us l h) (length ts + 1) ts left (omega arith) e
mends (via {X} {Y} to f) k ts left e = by_read (mends f (told_via to f k) ts left) (read f ts) refl e
  where
    by_read : (read f ts ≡ Err left → Mends (Reads f) ts left) → (s : Read X) → read f ts ≡ s → mapped to s ≡ Err left → Mends (Reads (via to f)) ts left
    by_read p (Ok x) is e = cc
    by_read p (Err q) is e =
        let same : q ≡ left = cc in
        let m = p (is ∙ ap (λ z. Err z) same) in (m.0, m.1, to m.2, m.3, λ r. (m.2, m.4 r, refl))
mends (part ls ms w p) k ts left e = p.laws.mends ts left e

-- a list on which a reading stops at m does not begin anything with m
refused : {X : Type 0} (f : Format X) → told f ≡ true → (front : List Tok) (m : Tok) (y : Read X) → ((ns : List Tok) → read f (front ++ (m ∷ ns)) ≡ leaving y (m ∷ ns)) → Begins f (front ++ (m ∷ [])) → ⊥
refused {X} f k front m y h b =
    let all : (front ++ (m ∷ [])) ++ b.0 ≡ front ++ (m ∷ b.0) = append_assoc front (m ∷ []) b.0 in
    let whole : read f (front ++ (m ∷ b.0)) ≡ Ok (b.1, []) = ap (read f) (sym all) ∙ complete f ((front ++ (m ∷ [])) ++ b.0) [] b.1 k b.2 refl in
    by_left (sym (h b.0) ∙ whole)
  where
    left_leaving : (y : Read X) (l : List Tok) → left_of (leaving y l) ≡ l
    left_leaving (Ok z) l = refl
    left_leaving (Err q) l = refl

    by_left : leaving y (m ∷ b.0) ≡ Ok (b.1, []) → ⊥
    by_left e = let none : m ∷ b.0 ≡ [] = sym (left_leaving y (m ∷ b.0)) ∙ ap left_of e in cc

-- where a whole list is refused, the tokens before the wrong one begin something that reads, and with it they do not
pub first_wrong : {X : Type 0} (f : Format X) → told f ≡ true → (ts left : List Tok) → read_all f ts ≡ Err left → (front : List Tok) × (ts ≡ front ++ left) × Begins f front × Refused f front left
unfolding read_all
first_wrong {X} f k ts left e = by_read (read f ts) refl e
  where
    Goal : Type 0
    Goal = (front : List Tok) × (ts ≡ front ++ left) × Begins f front × Refused f front left

    at_wrong : (y : Read X) → read f ts ≡ y → left_of y ≡ left → (front : List Tok) → ts ≡ front ++ left → ((l : List Tok) → left ≡ l → l ≡ [] → Refused f front left) → Begins f front → Goal
    at_wrong y is l front at none b = by_left left refl
      where
        by_left : (l : List Tok) → left ≡ l → Goal
        by_left [] same = (front, at, b, none [] same refl)
        by_left (m ∷ ms) same =
            let p = kept f k ts ms m y is (l ∙ same) in
            let fronts : p.0 ≡ front = append_cancel_right p.0 front (m ∷ ms) (sym p.1 ∙ at ∙ ap (λ q. front ++ q) same) in
            (front, at, b, subst (Refused f front) (sym same) (refused f k front m y (λ ns. ap (λ q. read f (q ++ (m ∷ ns))) (sym fronts) ∙ p.2 ns)))

    by_read : (y : Read X) → read f ts ≡ y → (y >>= λ y. at_end y.0 y.1) ≡ Err left → Goal
    by_read (Err q) is e =
        let same : q ≡ left = cc in
        let m = mends f k ts left (is ∙ ap (λ z. Err z) same) in
        at_wrong (Err q) is same m.0 m.3 (λ l a none. subst (Refused f m.0) (sym (a ∙ none)) (λ x r. stuck q is m.0 x (m.3 ∙ ap (λ z. m.0 ++ z) (a ∙ none) ∙ append-nil m.0) r)) (m.1 ++ [], m.2, m.4 [])
      where
        stuck : (q : List Tok) → read f ts ≡ Err q → (front : List Tok) (x : X) → ts ≡ front → Reads f front x [] → ⊥
        stuck q is front x same r =
            let whole : read f ts ≡ Ok (x, []) = ap (read f) same ∙ complete f front [] x k r refl in
            let clash : got (x, []) ≡ Err q = sym whole ∙ is in cc
    by_read (Ok y) is e = by_end y.1 refl e
      where
        by_end : (l : List Tok) → y.1 ≡ l → at_end y.0 l ≡ Err left → Goal
        by_end [] same e = cc
        by_end (m ∷ ms) same e =
            let whole : m ∷ ms ≡ left = cc in
            let a = local f ts y.1 y.0 (sound f ts y is) in
            at_wrong (Ok y) is (same ∙ whole) a.0 (a.1 ∙ ap (λ q. a.0 ++ q) (same ∙ whole)) (λ l b none. absurd (let no : m ∷ ms ≡ [] = whole ∙ b ∙ none in cc)) ([], y.0, a.2 [])
