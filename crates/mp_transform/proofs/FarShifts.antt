-- Where each number of a text is in range, no name is written with a shift by more than 10^37 periods.
use Rattle.std.proofs.Common.{◌≡◌, ℕ, ◌^◌, ◌≤◌, List, [], ◌∷◌, Bool, true, false, cond, ◌&&◌, not, nat_le, bytes_eq, Some, None, option_map, Ok, subst, refl, sym, ap, ◌∙◌, arith}
use Rattle.std.specs.List.{AllByRecursion, find, list_all, flat_map}
use Rattle.std.proofs.lemmas.Bool.{and_parts}
use Rattle.std.proofs.lemmas.Bool.Decides.{nat_tests}
use Rattle.mp_tokens.specs.declared.token.TokenKind.{TokenKind}
use Rattle.mp_tokens.specs.declared.token.TokenKind.TheVariants as k
use Rattle.mp_tokens.specs.declared.terminal.Terminal.{Terminal}
use Rattle.mp_tokens.specs.declared.terminal.Terminal.TheVariants as t
use Rattle.mp_tokens.specs.Terminals.{Keyword, word_in, keywords, word_of, terminal_by, terminal_of}
use Rattle.mp_tokens.specs.Tokens.{Tok, tokens}
use Rattle.mp_tokens.specs.Literals.{Decimal, number_of, decimal_of, is_in_range, is_number, is_far, far_literal}
use Rattle.mp_statements.specs.Statements.{Statement}
use Rattle.mp_format.specs.Pieces.{AreDigits}
use Rattle.mp_format.specs.Format.{Every}
use Rattle.mp_format.proofs.Looks.{clash}
use Rattle.mp_format.proofs.ReadLaws.{is-same}
use Rattle.mp_format.proofs.TokenForms.{Carries, IsToken}
use Rattle.mp_format.proofs.TokenWords.{tokens-words}
use Rattle.mp_grammar.specs.Grammar.{ReadsFile}
use Rattle.mp_statements.specs.Parts.{items_of}
use Rattle.mp_values.specs.Shifts.{Reading, item_readings}
use Rattle.mp_local.specs.Written.{IsWritten, AreWritten}
use Rattle.mp_canonical.proofs.Literals.{decimal_of-digits}
use Rattle.mp_transform.proofs.ReadShifts.{IsWithin, IsNear, read_near}

in_order : (n : ℕ) → not (nat_le n (10 ^ 37) && nat_le 0 37) ≡ false → n ≤ 10 ^ 37
in_order n e = grind (arith, nat_tests)

-- digits that write a number in range write at most 10^37
in_range : (bs : List ℕ) → AreDigits bs → not (is_in_range (decimal_of bs)) ≡ false → number_of bs ≤ 10 ^ 37
in_range bs are near =
    in_order (number_of bs) (subst (λ (d : Decimal). not (is_in_range d) ≡ false) (decimal_of-digits (number_of bs) bs are.1 refl) near)

abbrev is_whole : Terminal → Bool
is_whole t.Whole = true
is_whole _ = false

none_whole : (ws : List Keyword) (bs : List ℕ) → list_all (λ (w : Keyword). not (is_whole w.1)) ws ≡ true → is_whole (word_in ws t.Name bs) ≡ false
none_whole [] bs all = refl
none_whole (w ∷ ws) bs all =
    let p = and_parts _ _ all in by (bytes_eq bs w.0) (not_true _ p.0) (none_whole ws bs p.1)
  where
    by : (c : Bool) → is_whole w.1 ≡ false → is_whole (word_in ws t.Name bs) ≡ false → is_whole (cond c w.1 (word_in ws t.Name bs)) ≡ false
    by true first more = first
    by false first more = more

    not_true : (b : Bool) → not b ≡ true → b ≡ false
    not_true true e = cc
    not_true false e = refl

-- no word is a whole number
no_word : (bs : List ℕ) → word_of bs ≡ t.Whole → ⊥
unfolding word_of
no_word bs e = clash (is_whole t.Whole) refl (ap is_whole (sym e) ∙ none_whole keywords bs refl)

within_by : (kind : TokenKind) (bs : List ℕ) → Carries kind bs → (is_number kind && not (is_in_range (decimal_of bs))) ≡ false → terminal_by kind bs ≡ t.Whole → number_of bs ≤ 10 ^ 37
within_by k.Whole bs is near e = in_range bs is.1 near
within_by k.Name bs is near e = absurd (no_word bs e)
within_by _ bs is near e = absurd cc

within : (u : Tok) → IsToken u → is_far u ≡ false → IsWithin (10 ^ 37) u
unfolding terminal_of
within u is near s = within_by u.kind u.bytes is near (is-same t.Whole (terminal_of u) s)

-- where no number is out of range, each whole number is at most 10^37
each_within : (ts : List Tok) → Every IsToken ts → far_literal ts ≡ None → Every (IsWithin (10 ^ 37)) ts
each_within [] are none = tt
each_within (w ∷ ts) are none = by (is_far w) refl none (each_within ts are.1)
  where
    by : (far : Bool) → is_far w ≡ far → option_map (λ u. u.at) (cond far (Some w) (find is_far ts)) ≡ None → (far_literal ts ≡ None → Every (IsWithin (10 ^ 37)) ts) → Every (IsWithin (10 ^ 37)) (w ∷ ts)
    by true e h more = absurd cc
    by false e h more = (within w are.0 e, more h)

written : (rs : List Reading) → AllByRecursion (IsNear (10 ^ 37) 500) rs → AllByRecursion IsWritten rs
written [] near = tt
written (r ∷ rs) near = (record { periods = near.0.periods; depth = near.0.depth_is }, written rs near.1)

pub are-written : (text : List ℕ) (ts : List Tok) (file : List Statement) → tokens text ≡ Ok ts → ReadsFile ts file → far_literal ts ≡ None → AreWritten (items_of file)
are-written text ts file e reads none =
    written (flat_map item_readings (items_of file)) (read_near (10 ^ 37) ts file (each_within ts (tokens-words text ts e) none) reads)
