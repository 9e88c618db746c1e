-- A reading depends on the tokens up to the first one that it leaves.
use Rattle.std.proofs.Common.{◌≡◌, ℕ, zero, suc, ◌+◌, ◌<◌, List, [], ◌∷◌, ◌++◌, length, Bool, true, false, cond, if◌then◌else◌, Some, None, Ok, Err, refl, sym, ap, ◌∙◌, arith, append_assoc}
use Rattle.mp_tokens.specs.Tokens.{Tok}
use Rattle.mp_format.specs.Reading.{Read, ◌>>=◌, go_on, more_at}
use Rattle.mp_format.specs.Format.{Look, sees, meets, left_of, leaving, Keeps, Format, tok, both, choose, opt, many, via, part, first, told, tok_at, begin, read}
use Rattle.mp_format.proofs.Laws.{told_both, told_choose, told_opt, told_many, told_via, sound, shorter}

pub meets_same : (ls : List Look) (front ms ns : List Tok) (m : Tok) → meets ls (front ++ (m ∷ ns)) ≡ meets ls (front ++ (m ∷ ms))
meets_same ls [] ms ns m = refl
meets_same ls (u ∷ us) ms ns m = refl

-- so it is where more than one token is the same
pub spread : {X : Type 0} (r : List Tok → Read X) → Keeps r → (ts mid ms : List Tok) (m : Tok) (y : Read X) → r ts ≡ y → left_of y ≡ mid ++ (m ∷ ms) → (front : List Tok) × (ts ≡ front ++ (mid ++ (m ∷ ms))) × ((ns : List Tok) → r (front ++ (mid ++ (m ∷ ns))) ≡ leaving y (mid ++ (m ∷ ns)))
spread r k ts [] ms m y e l = k ts ms m y e l
spread r k ts (u ∷ us) ms m y e l =
    let p = k ts (us ++ (m ∷ ms)) u y e l in (p.0, p.1, λ ns. p.2 (us ++ (m ∷ ns)))

pub keeps_pure : {X : Type 0} (x : X) → Keeps (λ ts. Ok (x, ts))
keeps_pure {X} x ts ms m y e l = ([], ap left_of e ∙ l, λ ns. ap (λ (z : Read X). leaving z (m ∷ ns)) e)

pub keeps_bind : {A B : Type 0} (r : List Tok → Read A) (s : A → List Tok → Read B) → Keeps r → ((a : A) → Keeps (s a)) → Keeps (λ ts. r ts >>= λ a. s a.0 a.1)
keeps_bind {A} {B} r s k h ts ms m y e l = by_first (r ts) refl e
  where
    by_first : (a : Read A) → r ts ≡ a → (a >>= λ a. s a.0 a.1) ≡ y → (front : List Tok) × (ts ≡ front ++ (m ∷ ms)) × ((ns : List Tok) → (r (front ++ (m ∷ ns)) >>= λ a. s a.0 a.1) ≡ leaving y (m ∷ ns))
    by_first (Err q) is e =
        let p = k ts ms m (Err q) is (ap left_of e ∙ l) in
        (p.0, p.1, λ ns. ap (λ a. a >>= λ a. s a.0 a.1) (p.2 ns) ∙ ap (λ z. leaving z (m ∷ ns)) e)
    by_first (Ok a) is e =
        let q = h a.0 a.1 ms m y e l in
        let p = spread r k ts q.0 ms m (Ok a) is q.1 in
        (p.0 ++ q.0, p.1 ∙ sym (append_assoc p.0 q.0 (m ∷ ms)), λ ns. ap (λ l. r l >>= λ a. s a.0 a.1) (append_assoc p.0 q.0 (m ∷ ns)) ∙ ap (λ a. a >>= λ a. s a.0 a.1) (p.2 ns) ∙ q.2 ns)

pub keeps_if : {X : Type 0} (ls : List Look) (r s : List Tok → Read X) → Keeps r → Keeps s → Keeps (λ ts. if meets ls ts then r ts else s ts)
keeps_if {X} ls r s k h ts ms m y e l = by_meets (meets ls ts) refl e
  where
    same : (b : Bool) → meets ls ts ≡ b → (front : List Tok) → ts ≡ front ++ (m ∷ ms) → (ns : List Tok) → meets ls (front ++ (m ∷ ns)) ≡ b
    same b is front at ns = meets_same ls front ms ns m ∙ ap (meets ls) (sym at) ∙ is

    by_meets : (b : Bool) → meets ls ts ≡ b → cond b (r ts) (s ts) ≡ y → (front : List Tok) × (ts ≡ front ++ (m ∷ ms)) × ((ns : List Tok) → cond (meets ls (front ++ (m ∷ ns))) (r (front ++ (m ∷ ns))) (s (front ++ (m ∷ ns))) ≡ leaving y (m ∷ ns))
    by_meets true is e =
        let p = k ts ms m y e l in
        (p.0, p.1, λ ns. ap (λ b. cond b (r (p.0 ++ (m ∷ ns))) (s (p.0 ++ (m ∷ ns)))) (same true is p.0 p.1 ns) ∙ p.2 ns)
    by_meets false is e =
        let p = h ts ms m y e l in
        (p.0, p.1, λ ns. ap (λ b. cond b (r (p.0 ++ (m ∷ ns))) (s (p.0 ++ (m ∷ ns)))) (same false is p.0 p.1 ns) ∙ p.2 ns)

keeps_tok : (l : Look) → Keeps (tok_at l)
unfolding tok_at
keeps_tok l [] ms m y e k = let none : [] ≡ m ∷ ms = ap left_of e ∙ k in cc
keeps_tok l (u ∷ us) ms m y e k = by_sees (sees l u) refl e
  where
    by_sees : (b : Bool) → sees l u ≡ b → cond b (Ok (u, us)) (Err (u ∷ us)) ≡ y → (front : List Tok) × (u ∷ us ≡ front ++ (m ∷ ms)) × ((ns : List Tok) → tok_at l (front ++ (m ∷ ns)) ≡ leaving y (m ∷ ns))
    by_sees true s e =
        (u ∷ [], ap (λ l. u ∷ l) (ap left_of e ∙ k), λ ns. ap (λ b. cond b (Ok (u, m ∷ ns)) (Err (u ∷ m ∷ ns))) s ∙ ap (λ z. leaving z (m ∷ ns)) e)
    by_sees false s e =
        let is : u ∷ us ≡ m ∷ ms = ap left_of e ∙ k in
        let same : u ≡ m = cc in
        ([], is, λ ns. ap (λ b. cond b (Ok (m, ns)) (Err (m ∷ ns))) (ap (sees l) (sym same) ∙ s) ∙ ap (λ z. leaving z (m ∷ ns)) e)

keeps_more : {X : Type 0} (ls : List Look) (step : List Tok → Read X) → Keeps step → ((ts : List Tok) (x : X × List Tok) → step ts ≡ Ok x → length x.1 < length ts) → (n : ℕ) (ts ms : List Tok) (m : Tok) (y : Read (List X)) → length ts < n → more_at n (begin ls) step ts ≡ y → left_of y ≡ m ∷ ms → (front : List Tok) × (ts ≡ front ++ (m ∷ ms)) × ((ns : List Tok) (k : ℕ) → length (front ++ (m ∷ ns)) < k → more_at k (begin ls) step (front ++ (m ∷ ns)) ≡ leaving y (m ∷ ns))
unfolding more_at
keeps_more ls step keeps size zero ts ms m y lt e l = absurd (omega arith)
keeps_more {X} ls step keeps size (suc n) ts ms m y lt e l =
    by_meets (λ us z. keeps_more ls step keeps size n us ms m z) (meets ls ts) refl e
  where
    Rest : Type 0
    Rest = (us : List Tok) (z : Read (List X)) → length us < n → more_at n (begin ls) step us ≡ z → left_of z ≡ m ∷ ms → (front : List Tok) × (us ≡ front ++ (m ∷ ms)) × ((ns : List Tok) (k : ℕ) → length (front ++ (m ∷ ns)) < k → more_at k (begin ls) step (front ++ (m ∷ ns)) ≡ leaving z (m ∷ ns))

    Goal : Type 0
    Goal = (front : List Tok) × (ts ≡ front ++ (m ∷ ms)) × ((ns : List Tok) (k : ℕ) → length (front ++ (m ∷ ns)) < k → more_at k (begin ls) step (front ++ (m ∷ ns)) ≡ leaving y (m ∷ ns))

    same : (b : Bool) → meets ls ts ≡ b → (front : List Tok) → ts ≡ front ++ (m ∷ ms) → (ns : List Tok) → meets ls (front ++ (m ∷ ns)) ≡ b
    same b is front at ns = meets_same ls front ms ns m ∙ ap (meets ls) (sym at) ∙ is

    body : ℕ → List Tok → Bool → Read (List X)
    body k us b = go_on (cond b (Some us) None) (Ok ([], us)) (λ b. step b >>= λ x. more_at k (begin ls) step x.1 >>= λ xs. Ok (x.0 ∷ xs.0, xs.1))

    cons : X → Read (List X) → Read (List X)
    cons x s = s >>= λ xs. Ok (x ∷ xs.0, xs.1)

    left_cons : (x : X) (s : Read (List X)) → left_of (cons x s) ≡ left_of s
    left_cons x (Ok xs) = refl
    left_cons x (Err q) = refl

    leaving_cons : (x : X) (s : Read (List X)) (q : List Tok) → cons x (leaving s q) ≡ leaving (cons x s) q
    leaving_cons x (Ok xs) q = refl
    leaving_cons x (Err r) q = refl

    stop : meets ls ts ≡ false → Ok ([], ts) ≡ y → Goal
    stop is e = ([], ap left_of e ∙ l, go)
      where
        go : (ns : List Tok) (k : ℕ) → length (m ∷ ns) < k → more_at k (begin ls) step (m ∷ ns) ≡ leaving y (m ∷ ns)
        go ns zero lt = absurd (omega arith)
        go ns (suc k) lt = ap (body k (m ∷ ns)) (same false is [] (ap left_of e ∙ l) ns) ∙ ap (λ z. leaving z (m ∷ ns)) e

    by_step : Rest → meets ls ts ≡ true → (s : Read X) → step ts ≡ s → (s >>= λ x. more_at n (begin ls) step x.1 >>= λ xs. Ok (x.0 ∷ xs.0, xs.1)) ≡ y → Goal
    by_step rest is (Err q) now e = (p.0, p.1, go)
      where
        p : (front : List Tok) × (ts ≡ front ++ (m ∷ ms)) × ((ns : List Tok) → step (front ++ (m ∷ ns)) ≡ Err (m ∷ ns))
        p = keeps ts ms m (Err q) now (ap left_of e ∙ l)

        go : (ns : List Tok) (k : ℕ) → length (p.0 ++ (m ∷ ns)) < k → more_at k (begin ls) step (p.0 ++ (m ∷ ns)) ≡ leaving y (m ∷ ns)
        go ns zero lt = absurd (omega arith)
        go ns (suc k) lt =
            ap (body k (p.0 ++ (m ∷ ns))) (same true is p.0 p.1 ns) ∙ ap (λ s. s >>= λ x. more_at k (begin ls) step x.1 >>= λ xs. Ok (x.0 ∷ xs.0, xs.1)) (p.2 ns) ∙ ap (λ z. leaving z (m ∷ ns)) e
    by_step rest is (Ok x) now e = (p.0 ++ q.0, at, go)
      where
        q : (front : List Tok) × (x.1 ≡ front ++ (m ∷ ms)) × ((ns : List Tok) (k : ℕ) → length (front ++ (m ∷ ns)) < k → more_at k (begin ls) step (front ++ (m ∷ ns)) ≡ leaving (more_at n (begin ls) step x.1) (m ∷ ns))
        q = rest x.1 (more_at n (begin ls) step x.1) (omega (arith, size ts x now)) refl (sym (left_cons x.0 (more_at n (begin ls) step x.1)) ∙ ap left_of e ∙ l)

        p : (front : List Tok) × (ts ≡ front ++ (q.0 ++ (m ∷ ms))) × ((ns : List Tok) → step (front ++ (q.0 ++ (m ∷ ns))) ≡ Ok (x.0, q.0 ++ (m ∷ ns)))
        p = spread step keeps ts q.0 ms m (Ok x) now q.1

        at : ts ≡ (p.0 ++ q.0) ++ (m ∷ ms)
        at = p.1 ∙ sym (append_assoc p.0 q.0 (m ∷ ms))

        go : (ns : List Tok) (k : ℕ) → length ((p.0 ++ q.0) ++ (m ∷ ns)) < k → more_at k (begin ls) step ((p.0 ++ q.0) ++ (m ∷ ns)) ≡ leaving y (m ∷ ns)
        go ns zero lt = absurd (omega arith)
        go ns (suc k) lt =
            let us = (p.0 ++ q.0) ++ (m ∷ ns) in
            let is_step : step us ≡ Ok (x.0, q.0 ++ (m ∷ ns)) = ap step (append_assoc p.0 q.0 (m ∷ ns)) ∙ p.2 ns in
            ap (body k us) (same true is (p.0 ++ q.0) at ns)
            ∙ ap (λ s. s >>= λ x. more_at k (begin ls) step x.1 >>= λ xs. Ok (x.0 ∷ xs.0, xs.1)) is_step
            ∙ ap (cons x.0) (q.2 ns k (omega (arith, size us (x.0, q.0 ++ (m ∷ ns)) is_step)))
            ∙ leaving_cons x.0 (more_at n (begin ls) step x.1) (m ∷ ns)
            ∙ ap (λ z. leaving z (m ∷ ns)) e

    by_meets : Rest → (b : Bool) → meets ls ts ≡ b → body n ts b ≡ y → Goal
    by_meets rest true is e = by_step rest is (step ts) refl e
    by_meets rest false is e = stop is e

keeps_many : {X : Type 0} (ls : List Look) (step : List Tok → Read X) → Keeps step → ((ts : List Tok) (x : X × List Tok) → step ts ≡ Ok x → length x.1 < length ts) → Keeps (λ ts. more_at (length ts + 1) (begin ls) step ts)
keeps_many ls step keeps size ts ms m y e l =
    let p = keeps_more ls step keeps size (length ts + 1) ts ms m y (omega arith) e l in
    (p.0, p.1, λ ns. p.2 ns (length (p.0 ++ (m ∷ ns)) + 1) (omega arith))

pub kept : {X : Type 0} (f : Format X) → told f ≡ true → Keeps (read f)
unfolding read
kept (tok l _) k = keeps_tok l
kept (both f g) k =
    let t = told_both f g k in
    keeps_bind (read f) (λ a ts. read g ts >>= λ b. Ok ((a, b.0), b.1)) (kept f t.0) (λ a. keeps_bind (read g) (λ b ts. Ok ((a, b), ts)) (kept g t.1) (λ b. keeps_pure (a, b)))
kept (choose f g) k =
    let t = told_choose f g k in keeps_if (first f) (read f) (read g) (kept f t.0) (kept g t.1)
kept (opt f) k =
    let t = told_opt f k in
    keeps_if (first f) (λ ts. read f ts >>= λ x. Ok (Some x.0, x.1)) (λ ts. Ok (None, ts)) (keeps_bind (read f) (λ x ts. Ok (Some x, ts)) (kept f t.0) (λ x. keeps_pure (Some x))) (keeps_pure None)
kept (many f) k =
    let t = told_many f k in
    keeps_many (first f) (read f) (kept f t.0) (λ ts x e. shorter f ts x.1 x.0 t.1 (sound f ts x e))
kept (via to f) k = keeps_bind (read f) (λ x ts. Ok (to x, ts)) (kept f (told_via to f k)) (λ x. keeps_pure (to x))
kept (part ls ms w p) k = p.laws.keeps
