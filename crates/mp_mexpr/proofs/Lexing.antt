-- One turn of the lexer.
use Rattle.std.proofs.Common.{◌≡◌, ℕ, zero, suc, List, [], ◌∷◌, ◌++◌, take, drop, length, Bool, true, false, Some, None, refl, sym, ap, ◌∙◌, arith, append-nil, append_assoc}
use Rattle.std.specs.List.{prefix_len}
use Rattle.std.specs.Char.{is_ascii_digit}
use Rattle.mp_tokens.specs.Tokens.{is_blank, is_first, is_word}
use Rattle.mp_mexpr.specs.Tokens.{Tok, word_of, token_at, before, tokens_from}

skip : (bs : List ℕ) (k : ℕ) → tokens_from bs k ≡ tokens_from (drop k bs) 0
unfolding tokens_from
skip [] zero = refl
skip [] (suc k) = refl
skip (b ∷ bs) zero = refl
skip (b ∷ bs) (suc k) = skip bs k

pub turn-blank : (front : List Tok) (rest more : List ℕ) (b : ℕ) (r : List Tok × Bool) → rest ≡ b ∷ more → is_blank b ≡ true → before front (tokens_from rest 0) ≡ r → before front (tokens_from more 0) ≡ r
unfolding tokens_from
turn-blank front rest more b r e blank told = sym (ap (λ l. before front (tokens_from l 0)) e ∙ rw blank refl) ∙ told

pub turn-none : (front : List Tok) (rest more : List ℕ) (b : ℕ) (r : List Tok × Bool) → rest ≡ b ∷ more → is_blank b ≡ false → None ≡ token_at rest → before front (tokens_from rest 0) ≡ r → r ≡ (front, false)
unfolding tokens_from
turn-none front rest more b r e blank none told =
    let none' : token_at (b ∷ more) ≡ None = sym (none ∙ ap token_at e) in
    sym told ∙ ap (λ l. before front (tokens_from l 0)) e ∙ rw (blank, none') (ap (λ l. (l, false)) (append-nil front))

pub turn-token : (front : List Tok) (rest more : List ℕ) (b k : ℕ) (t : Tok) (r : List Tok × Bool) → rest ≡ b ∷ more → is_blank b ≡ false → Some (t, k) ≡ token_at rest → before front (tokens_from rest 0) ≡ r → before (front ++ t ∷ []) (tokens_from (drop k more) 0) ≡ r
unfolding tokens_from
turn-token front rest more b k t r e blank some told =
    let some' : token_at (b ∷ more) ≡ Some (t, k) = sym (some ∙ ap token_at e) in
    let one : tokens_from (b ∷ more) 0 ≡ before (t ∷ []) (tokens_from more k) = rw (blank, some') refl in
    ap (λ x. (x, (tokens_from (drop k more) 0).1)) (append_assoc front (t ∷ []) (tokens_from (drop k more) 0).0)
    ∙ ap (λ x. before front (before (t ∷ []) x)) (sym (skip more k))
    ∙ ap (before front) (sym one)
    ∙ ap (λ l. before front (tokens_from l 0)) (sym e)
    ∙ told

pub turn-end : (front : List Tok) (rest : List ℕ) (r : List Tok × Bool) → length rest ≡ 0 → before front (tokens_from rest 0) ≡ r → r ≡ (front, true)
unfolding tokens_from
turn-end front [] r e told = sym told ∙ ap (λ l. (l, true)) (append-nil front)
turn-end front (b ∷ rest) r e told = absurd (nonzero e)
  where
    nonzero : suc (length rest) ≡ 0 → ⊥
    nonzero h = omega arith

pub token_at-word : (text w bs : List ℕ) (b n : ℕ) (t : Tok) → text ≡ b ∷ bs → is_ascii_digit b ≡ false → is_first b ≡ true → n ≡ prefix_len is_word bs → w ≡ b ∷ take n bs → t ≡ word_of w → Some (t, n) ≡ token_at text
unfolding token_at
token_at-word text w bs b n t e digit first long word is =
    ap (λ x. Some (x, n)) (is ∙ ap word_of word)
    ∙ ap (λ m. Some (word_of (b ∷ take m bs), m)) long
    ∙ sym (ap token_at e ∙ rw (digit, first) refl)
