-- The tokens of a text that is written piece by piece.
use Rattle.std.proofs.Common.{◌≡◌, ℕ, suc, ◌+◌, ◌-◌, ◌≤◌, List, [], ◌∷◌, ◌++◌, length, true, Ok, refl, ap, ◌∙◌, arith, length-append}
use Rattle.std.proofs.Math.Seq.{drop-append_seam}
use Rattle.mp_tokens.specs.declared.token.TokenKind.{TokenKind}
use Rattle.mp_tokens.specs.Tokens.{Tok, before, and_then, tokens_from}
use Rattle.mp_tokens.proofs.TokenLaws.{tokens_from-inside, tokens_from-blank, tokens_from-begun}
use Rattle.mp_format.specs.Pieces.{Piece, Solid, Blank, text_of, words, placed, run_of, clear, IsOne, Apart}
use Rattle.mp_format.specs.Format.{AlikeToken, AllAlike}

word_first : (kind : TokenKind) (bytes rest : List ℕ) (at : ℕ) → IsOne kind bytes → clear (run_of kind) rest ≡ true → tokens_from (bytes ++ rest) at 0 ≡ before (record { kind = kind; bytes = bytes; at = at } ∷ []) (tokens_from rest (at + length bytes) 0)
word_first kind [] rest at one s = absurd one
word_first kind (b ∷ bs) rest at one s =
    let t : Tok = record { kind = kind; bytes = b ∷ bs; at = at } in
    let room : length bs ≤ length (bs ++ rest) = omega (arith, length-append bs rest) in
    let m : suc (length bs) - 1 ≡ length bs = omega arith in
    let e : at + 1 + length bs ≡ at + suc (length bs) = omega arith in
    tokens_from-begun b (bs ++ rest) at one.0
    ∙ ap (λ x. and_then x (tokens_from (bs ++ rest) (at + 1))) (one.1 at rest s)
    ∙ ap (λ n. before (t ∷ []) (tokens_from (bs ++ rest) (at + 1) n)) m
    ∙ ap (before (t ∷ [])) (tokens_from-inside (bs ++ rest) (length bs) (at + 1) room
    ∙ ap (λ l. tokens_from l (at + 1 + length bs) 0) (drop-append_seam bs rest)
    ∙ ap (λ n. tokens_from rest n 0) e)

-- the words are the text's tokens
pub tokens-text_of : (ps : List Piece) (at : ℕ) → Apart ps → tokens_from (text_of ps) at 0 ≡ Ok (placed at ps)
unfolding tokens_from
tokens-text_of [] at a = refl
tokens-text_of (Solid u ∷ ps) at a =
    word_first u.kind u.bytes (text_of ps) at a.0 a.1 ∙ ap (before (record { kind = u.kind; bytes = u.bytes; at = at } ∷ [])) (tokens-text_of ps (at + length u.bytes) a.2)
tokens-text_of (Blank b ∷ ps) at a = tokens_from-blank b (text_of ps) at a.0 ∙ tokens-text_of ps (at + 1) a.1

-- the tokens as they stand are the same but for places
pub words-placed : (ps : List Piece) (at : ℕ) → AllAlike AlikeToken (words ps) (placed at ps)
words-placed [] at = tt
words-placed (Solid u ∷ ps) at = ((refl, refl), words-placed ps (at + length u.bytes))
words-placed (Blank b ∷ ps) at = words-placed ps (at + 1)
