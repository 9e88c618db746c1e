-- The first line of a text.
use Rattle.std.proofs.Common.{◌≡◌, ℕ, zero, suc, ◌+◌, ◌<◌, List, [], ◌∷◌, take, drop, length, Bool, true, false, ◌==◌, refl, sym, ap, ◌∙◌, arith}
use Rattle.std.specs.List.{prefix_len}
use native.Mathlib.Numerals.{unary_clauses}
use Rattle.std.proofs.lemmas.Grind.{common_steps}
use Rattle.mp_tokens.specs.Tokens.{is_on_line}
use Rattle.mp_directive.specs.Lines.{with_first, lines}

abbrev pub until : List ℕ → ℕ
until text = prefix_len is_on_line text

take-one : (b p : ℕ) (bs : List ℕ) → take (1 + p) (b ∷ bs) ≡ b ∷ take p bs
take-one b p bs = grind (arith, common_steps)

drop-one : (b p : ℕ) (bs : List ℕ) → drop (1 + p + 1) (b ∷ bs) ≡ drop (p + 1) bs
drop-one b p bs = grind (arith, common_steps)

-- the first line, and those after its newline
pub lines-first : (text : List ℕ) → 0 < length text → lines text ≡ take (until text) text ∷ lines (drop (until text + 1) text)
unfolding lines
lines-first [] h = absurd (omega arith)
lines-first (b ∷ []) h = by (b == 10) refl
  where
    by : (t : Bool) → (b == 10) ≡ t → lines (b ∷ []) ≡ take (until (b ∷ [])) (b ∷ []) ∷ lines (drop (until (b ∷ []) + 1) (b ∷ []))
    by true t = rw t refl
    by false t = rw t refl
lines-first (b ∷ c ∷ cs) h = by (b == 10) refl (lines-first (c ∷ cs) (omega arith))
  where
    by : (t : Bool) → (b == 10) ≡ t → lines (c ∷ cs) ≡ take (until (c ∷ cs)) (c ∷ cs) ∷ lines (drop (until (c ∷ cs) + 1) (c ∷ cs)) → lines (b ∷ c ∷ cs) ≡ take (until (b ∷ c ∷ cs)) (b ∷ c ∷ cs) ∷ lines (drop (until (b ∷ c ∷ cs) + 1) (b ∷ c ∷ cs))
    by true t more = rw t refl
    by false t more =
        rw t (ap (with_first b) more
        ∙ ap (λ l. l ∷ lines (drop (until (c ∷ cs) + 1) (c ∷ cs))) (sym (take-one b (until (c ∷ cs)) (c ∷ cs)))
        ∙ ap (λ l. take (1 + until (c ∷ cs)) (b ∷ c ∷ cs) ∷ lines l) (sym (drop-one b (until (c ∷ cs)) (c ∷ cs))))

drop-more : (k : ℕ) (text more : List ℕ) (b : ℕ) → drop k text ≡ b ∷ more → drop (k + 1) text ≡ more
drop-more zero [] more b e = cc
drop-more zero (c ∷ text) more b e = cc
drop-more (suc k) [] more b e = cc
drop-more (suc k) (c ∷ text) more b e = simp unary_clauses (simp unary_clauses at (drop-more k text more b e))

drop-end : (k : ℕ) (text : List ℕ) → length (drop k text) ≡ 0 → drop (k + 1) text ≡ drop k text
drop-end k text e = grind (arith, common_steps)

pub lines-more : (text line rest more : List ℕ) (n b : ℕ) → 0 < length text → n ≡ until text → line ≡ take n text → rest ≡ drop n text → rest ≡ b ∷ more → lines text ≡ line ∷ lines more
lines-more text line rest more n b h k l r e =
    lines-first text h ∙ ap (λ m. take m text ∷ lines (drop (m + 1) text)) (sym k)
    ∙ ap (λ x. x ∷ lines (drop (n + 1) text)) (sym l)
    ∙ ap (λ x. line ∷ lines x) (drop-more n text more b (sym r ∙ e))

pub lines-end : (text line rest : List ℕ) (n : ℕ) → 0 < length text → n ≡ until text → line ≡ take n text → rest ≡ drop n text → length rest ≡ 0 → lines text ≡ line ∷ lines rest
lines-end text line rest n h k l r e =
    lines-first text h ∙ ap (λ m. take m text ∷ lines (drop (m + 1) text)) (sym k)
    ∙ ap (λ x. x ∷ lines (drop (n + 1) text)) (sym l)
    ∙ ap (λ x. line ∷ lines x) (drop-end n text (ap length (sym r) ∙ e) ∙ sym r)
