-- The tokens of a text are its longest ones, between blanks and comments.
use Rattle.std.proofs.Common.{◌≡◌, inl, ℕ, zero, suc, ◌+◌, ◌-◌, ◌≤◌, List, [], ◌∷◌, ◌++◌, length, take, drop, Bool, true, false, cond, Result, Ok, Err, refl, sym, ap, subst, ◌∙◌, arith, add-zero, length-take, take-append-drop, length-take-le}
use Rattle.mp_tokens.specs.Tokens.{Tok, Fault, Begun, Token, Comment, Wrong, is_blank, begun_at, before, and_then, tokens_from, tokens}
use Rattle.mp_tokens.specs.Forms.{BeginsComment, IsLongest, Spelled, Nothing, Between, Longest}
use Rattle.mp_tokens.proofs.SliceLaws.{Makes, makes}
use Rattle.mp_tokens.proofs.FoundForms.{Good, begun_good}
use Rattle.mp_tokens.proofs.LongestForms.{as_long, no_comment}

-- what is spelled after so many further bytes
abbrev Further : List ℕ → ℕ → Type 0
Further bs at =
    (n : ℕ) (us : List Tok) → n ≤ length bs → tokens_from bs at n ≡ Ok us → Spelled (at + n) (drop n bs) us

token_spelled : (at b : ℕ) (bs : List ℕ) (t : Tok) (ts : List Tok) → begun_at at b bs ≡ Token t → Good b bs (Token t) → Makes at (b ∷ bs) (Token t) → Further bs (at + 1) → before (t ∷ []) (tokens_from bs (at + 1) (length t.bytes - 1)) ≡ Ok ts → Spelled at (b ∷ bs) ts
token_spelled at b bs t ts begun good made further = by (tokens_from bs (at + 1) (length t.bytes - 1)) refl
  where
    n : ℕ
    n = length t.bytes

    rest : List ℕ
    rest = drop (n - 1) bs

    within : n - 1 ≤ length bs
    within = omega (arith, ap length made.front, length-take n (b ∷ bs), made.some)

    split : t.bytes ++ rest ≡ b ∷ bs
    split =
        let k : suc (n - 1) ≡ n = omega (arith, made.some) in
        let dropped : rest ≡ drop n (b ∷ bs) = ap (λ m. drop m (b ∷ bs)) k in
        ap (λ l. t.bytes ++ l) dropped ∙ ap (λ l. l ++ drop n (b ∷ bs)) made.front ∙ take-append-drop n (b ∷ bs)

    longest : IsLongest t.kind t.bytes rest
    longest =
        record {
          form = good;
          plain = λ c. no_comment at b bs t begun (subst BeginsComment split c);
          longest = λ other more left is e. as_long at b bs t other more left begun is (sym split ∙ e);
        }

    is : record { kind = t.kind; bytes = t.bytes; at = at } ≡ t
    is = ap (λ i. record { kind = t.kind; bytes = t.bytes; at = i }) (sym made.place)

    by : (r : Result (List Tok) Fault) → tokens_from bs (at + 1) (n - 1) ≡ r → before (t ∷ []) r ≡ Ok ts → Spelled at (b ∷ bs) ts
    by (Err f) e g = cc
    by (Ok us) e g =
        let all : t ∷ us ≡ ts = cc in
        let place : at + 1 + (n - 1) ≡ at + n = omega (arith, made.some) in
        let after : Spelled (at + n) rest us = subst (λ i. Spelled i rest us) place (further (n - 1) us within e) in
        subst (Spelled at (b ∷ bs)) all (subst (λ l. Spelled at l (t ∷ us)) split (subst (λ u. Spelled at (t.bytes ++ rest) (u ∷ us)) is (Longest at t.kind t.bytes rest us longest after)))

comment_spelled : (at b : ℕ) (bs : List ℕ) (n : ℕ) (ts : List Tok) → Good b bs (Comment n) → Further bs (at + 1) → tokens_from bs (at + 1) n ≡ Ok ts → Spelled at (b ∷ bs) ts
comment_spelled at b bs n ts good further e =
    let counted : length (take n bs) ≡ n = length-take-le n bs good.0 in
    let place : at + 1 + n ≡ at + suc (length (take n bs)) = omega (arith, counted) in
    subst (λ l. Spelled at (b ∷ l) ts) (take-append-drop n bs) (Between at (b ∷ take n bs) (drop n bs) ts good.1 (subst (λ i. Spelled i (drop n bs) ts) place (further n ts good.0 e)))

begun_spelled : (at b : ℕ) (bs : List ℕ) (ts : List Tok) (x : Begun) → begun_at at b bs ≡ x → Good b bs x → Makes at (b ∷ bs) x → Further bs (at + 1) → and_then x (tokens_from bs (at + 1)) ≡ Ok ts → Spelled at (b ∷ bs) ts
begun_spelled at b bs ts (Token t) begun good made further e = token_spelled at b bs t ts begun good made further e
begun_spelled at b bs ts (Comment n) begun good made further e = comment_spelled at b bs n ts good further e
begun_spelled at b bs ts (Wrong f) begun good made further e = cc

spelled_from : (bs : List ℕ) (at inside : ℕ) (ts : List Tok) → inside ≤ length bs → tokens_from bs at inside ≡ Ok ts → Spelled (at + inside) (drop inside bs) ts
unfolding tokens_from
spelled_from [] at zero ts le h = let none : [] ≡ ts = cc in subst (Spelled (at + 0) []) none (Nothing (at + 0))
spelled_from [] at (suc inside) ts le h = absurd (omega (arith, le))
spelled_from (b ∷ bs) at (suc inside) ts le h =
    let place : at + 1 + inside ≡ at + suc inside = omega arith in
    subst (λ i. Spelled i (drop inside bs) ts) place (spelled_from bs (at + 1) inside ts (omega (arith, le)) h)
spelled_from (b ∷ bs) at zero ts le h =
    subst (λ i. Spelled i (b ∷ bs) ts) (sym (add-zero at)) (by (is_blank b) refl h (λ n us. spelled_from bs (at + 1) n us))
  where
    by : (blank : Bool) → is_blank b ≡ blank → cond blank (tokens_from bs (at + 1) 0) (and_then (begun_at at b bs) (tokens_from bs (at + 1))) ≡ Ok ts → Further bs (at + 1) → Spelled at (b ∷ bs) ts
    by true e h further =
        let place : at + 1 + 0 ≡ at + 1 = omega arith in
        Between at (b ∷ []) bs ts (inl (b, e, refl)) (subst (λ i. Spelled i bs ts) place (further 0 ts (omega arith) h))
    by false e h further =
        begun_spelled at b bs ts (begun_at at b bs) refl (begun_good at b bs) (makes at b bs) further h

pub tokens-spelled : (text : List ℕ) (ts : List Tok) → tokens text ≡ Ok ts → Spelled 0 text ts
tokens-spelled text ts h = spelled_from text 0 0 ts (omega arith) h
