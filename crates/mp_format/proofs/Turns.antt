-- One turn of a repetition.
use Rattle.std.proofs.Common.{◌≡◌, ℕ, zero, suc, ◌+◌, ◌<◌, List, [], ◌∷◌, ◌++◌, length, Bool, true, false, cond, Some, None, Ok, Err, refl, sym, ap, ◌∙◌, arith, append_assoc, append-nil}
use Rattle.mp_tokens.specs.Tokens.{Tok}
use Rattle.mp_format.specs.Reading.{Read, ◌>>=◌, go_on, more_at}
use Rattle.mp_format.specs.Format.{Look, meets, Format, many, empty, first, begin, read, with_front}
use Rattle.mp_format.proofs.Laws.{sound, shorter}

-- one, and then more
abbrev turn : {X : Type 0} → (List Tok → Read (List X)) → Read X → Read (List X)
turn more s = s >>= λ x. more x.1 >>= λ xs. Ok (x.0 ∷ xs.0, xs.1)

-- one where there is one, and then more
abbrev turns : {X : Type 0} → (List Tok → Read (List X)) → Read X → List Tok → Bool → Read (List X)
turns more s ts b = cond b (turn more s) (Ok ([], ts))

-- any fuel will do that is more than the tokens
fuel : {X : Type 0} (ls : List Look) (step : List Tok → Read X) → ((ts : List Tok) (x : X × List Tok) → step ts ≡ Ok x → length x.1 < length ts) → (n k : ℕ) (ts : List Tok) → length ts < n → length ts < k → more_at n (begin ls) step ts ≡ more_at k (begin ls) step ts
unfolding more_at
fuel ls step size zero k ts a b = absurd (omega arith)
fuel ls step size (suc n) zero ts a b = absurd (omega arith)
fuel {X} ls step size (suc n) (suc k) ts a b = by_meets (λ us. fuel ls step size n k us) (meets ls ts)
  where
    Rest : Type 0
    Rest = (us : List Tok) → length us < n → length us < k → more_at n (begin ls) step us ≡ more_at k (begin ls) step us

    by_step : Rest → (s : Read X) → step ts ≡ s → turn (more_at n (begin ls) step) s ≡ turn (more_at k (begin ls) step) s
    by_step rest (Err l) e = refl
    by_step rest (Ok x) e =
        let lt = size ts x e in
        ap (λ s. s >>= λ xs. Ok (x.0 ∷ xs.0, xs.1)) (rest x.1 (omega arith) (omega arith))

    by_meets : Rest → (b : Bool) → go_on (cond b (Some ts) None) (Ok ([], ts)) (λ b. turn (more_at n (begin ls) step) (step b)) ≡ go_on (cond b (Some ts) None) (Ok ([], ts)) (λ b. turn (more_at k (begin ls) step) (step b))
    by_meets rest true = by_step rest (step ts) refl
    by_meets rest false = refl

-- a repetition, turn by turn
many_turn : {X : Type 0} (f : Format X) (ts : List Tok) → empty f ≡ false → read (many f) ts ≡ turns (read (many f)) (read f ts) ts (meets (first f) ts)
unfolding read more_at
many_turn {X} f ts k =
    fuel (first f) (read f) size (length ts + 1) (suc (length ts)) ts (omega arith) (omega arith) ∙ by_meets (meets (first f) ts)
  where
    size : (ts : List Tok) (x : X × List Tok) → read f ts ≡ Ok x → length x.1 < length ts
    size ts x e = shorter f ts x.1 x.0 k (sound f ts x e)

    by_step : (s : Read X) → read f ts ≡ s → turn (more_at (length ts) (begin (first f)) (read f)) s ≡ turn (read (many f)) s
    by_step (Err l) e = refl
    by_step (Ok x) e =
        ap (λ s. s >>= λ xs. Ok (x.0 ∷ xs.0, xs.1)) (fuel (first f) (read f) size (length ts) (length x.1 + 1) x.1 (size ts x e) (omega arith))

    by_meets : (b : Bool) → go_on (cond b (Some ts) None) (Ok ([], ts)) (λ b. turn (more_at (length ts) (begin (first f)) (read f)) (read f b)) ≡ turns (read (many f)) (read f ts) ts b
    by_meets true = by_step (read f ts) refl
    by_meets false = refl

pub many_end : {X : Type 0} (f : Format X) (front : List X) (ts : List Tok) → empty f ≡ false → meets (first f) ts ≡ false → with_front front (read (many f) ts) ≡ Ok (front, ts)
many_end f front ts k h =
    ap (with_front front) (many_turn f ts k ∙ ap (turns (read (many f)) (read f ts) ts) h) ∙ ap (λ l. Ok (l, ts)) (append-nil front)

many_goes : {X : Type 0} (f : Format X) (ts : List Tok) → empty f ≡ false → meets (first f) ts ≡ true → read (many f) ts ≡ turn (read (many f)) (read f ts)
many_goes f ts k h = many_turn f ts k ∙ ap (turns (read (many f)) (read f ts) ts) h

pub many_fails : {X : Type 0} (f : Format X) (front : List X) (ts left : List Tok) → empty f ≡ false → meets (first f) ts ≡ true → read f ts ≡ Err left → with_front front (read (many f) ts) ≡ Err left
many_fails f front ts left k h e =
    ap (with_front front) (many_goes f ts k h ∙ ap (turn (read (many f))) e)

one_more : {X : Type 0} (front : List X) (x : X) (r : Read (List X)) → with_front front (r >>= λ xs. Ok (x ∷ xs.0, xs.1)) ≡ with_front (front ++ x ∷ []) r
one_more front x (Err l) = refl
one_more front x (Ok r) = ap (λ l. Ok (l, r.1)) (sym (append_assoc front (x ∷ []) r.0))

pub many_next : {X : Type 0} (f : Format X) (front : List X) (ts : List Tok) (x : X × List Tok) → empty f ≡ false → meets (first f) ts ≡ true → read f ts ≡ Ok x → with_front front (read (many f) ts) ≡ with_front (front ++ x.0 ∷ []) (read (many f) x.1)
many_next f front ts x k h e =
    ap (with_front front) (many_goes f ts k h ∙ ap (turn (read (many f))) e) ∙ one_more front x.0 (read (many f) x.1)
