-- What the bytes of a token are, by its terminal.
use Rattle.std.proofs.Common.{◌≡◌, ℕ, List, [], ◌∷◌, cond, not, Bool, true, false, refl, sym, ap, ◌∙◌}
use Rattle.std.specs.Str.{bytes_eq}
use Rattle.std.specs.List.{list_all}
use Rattle.mp_tokens.specs.declared.token.TokenKind.{TokenKind}
use Rattle.mp_tokens.specs.declared.token.TokenKind.TheVariants as k
use Rattle.mp_tokens.specs.declared.terminal.Terminal.{Terminal}
use Rattle.mp_tokens.specs.declared.terminal.Terminal.TheVariants as t
use Rattle.mp_tokens.specs.Tokens.{Tok}
use Rattle.mp_tokens.specs.Terminals.{Keyword, word_in, keywords, word_of, terminal_by, terminal_of}
use Rattle.mp_format.specs.Reading.{is}
use Rattle.mp_format.specs.Pieces.{IsWord, IsName, IsLiteral, AreDigits, IsText}
use Rattle.mp_format.specs.Format.{Of, sees}
use Rattle.mp_format.proofs.ReadLaws.{is-same}
use Rattle.mp_format.proofs.Looks.{both_true, not_true, clash}

-- what the bytes of a token of this kind are
abbrev pub Carries : TokenKind → List ℕ → Type 0
Carries k.Name bytes = IsWord bytes
Carries k.Whole bytes = IsLiteral bytes × AreDigits bytes
Carries k.Number bytes = IsLiteral bytes
Carries k.Text bytes = IsText bytes
Carries _ bytes = Unit {0}

abbrev pub IsToken : Tok → Type 0
IsToken u = Carries u.kind u.bytes

-- a number or a text
abbrev is_free : Terminal → Bool
is_free t.Whole = true
is_free t.Number = true
is_free t.Text = true
is_free _ = false

-- a word of a list of which none is
none_in : (ws : List Keyword) (other : Terminal) (bs : List ℕ) → list_all (λ (w : Keyword). not (is_free w.1)) ws ≡ true → is_free other ≡ false → is_free (word_in ws other bs) ≡ false
none_in [] other bs all o = o
none_in (w ∷ ws) other bs all o =
    let p = both_true _ _ all in by (bytes_eq bs w.0) (not_true _ p.0) (none_in ws other bs p.1 o)
  where
    by : (c : Bool) → is_free w.1 ≡ false → is_free (word_in ws other bs) ≡ false → is_free (cond c w.1 (word_in ws other bs)) ≡ false
    by true first more = first
    by false first more = more

-- no word is a number or a text
no_word : (bs : List ℕ) (c : Terminal) → word_of bs ≡ c → is_free c ≡ true → ⊥
unfolding word_of
no_word bs c e is = clash (is_free c) is (ap is_free (sym e) ∙ none_in keywords t.Name bs refl refl)

whole_by : (kind : TokenKind) (bytes : List ℕ) → Carries kind bytes → terminal_by kind bytes ≡ t.Whole → IsLiteral bytes × AreDigits bytes
whole_by k.Whole bs h e = h
whole_by k.Name bs h e = absurd (no_word bs _ e refl)
whole_by _ bs h e = absurd cc

number_by : (kind : TokenKind) (bytes : List ℕ) → Carries kind bytes → terminal_by kind bytes ≡ t.Number → IsLiteral bytes
number_by k.Number bs h e = h
number_by k.Name bs h e = absurd (no_word bs _ e refl)
number_by _ bs h e = absurd cc

name_by : (kind : TokenKind) (bytes : List ℕ) → Carries kind bytes → terminal_by kind bytes ≡ t.Name → IsName bytes
name_by k.Name bs h e = (h, e)
name_by _ bs h e = absurd cc

text_by : (kind : TokenKind) (bytes : List ℕ) → Carries kind bytes → terminal_by kind bytes ≡ t.Text → IsText bytes
text_by k.Text bs h e = h
text_by k.Name bs h e = absurd (no_word bs _ e refl)
text_by _ bs h e = absurd cc

pub text_is : (u : Tok) → sees (Of t.Text) u ≡ true → IsToken u → IsText u.bytes
unfolding terminal_of
text_is u s h = text_by u.kind u.bytes h (is-same t.Text (terminal_of u) s)

pub whole_is : (u : Tok) → sees (Of t.Whole) u ≡ true → IsToken u → IsLiteral u.bytes × AreDigits u.bytes
unfolding terminal_of
whole_is u s h = whole_by u.kind u.bytes h (is-same t.Whole (terminal_of u) s)

pub number_is : (u : Tok) → sees (Of t.Number) u ≡ true → IsToken u → IsLiteral u.bytes
unfolding terminal_of
number_is u s h = number_by u.kind u.bytes h (is-same t.Number (terminal_of u) s)

pub name_is : (u : Tok) → sees (Of t.Name) u ≡ true → IsToken u → IsName u.bytes
unfolding terminal_of
name_is u s h = name_by u.kind u.bytes h (is-same t.Name (terminal_of u) s)
