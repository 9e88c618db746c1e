-- A format that passes the test is a part of others.
use Rattle.std.proofs.Common.{◌≡◌, inl, inr, List, [], ◌∷◌, Bool, true, false, ◌&&◌, ◌||◌, refl, sym, ap, ◌∙◌, bytes_eq}
use Rattle.std.proofs.lemmas.Slice.Eq.{bytes_eq-Decides}
use Rattle.mp_tokens.specs.declared.terminal.Terminal.TheVariants as t
use Rattle.mp_tokens.specs.Tokens.{Tok}
use Rattle.mp_tokens.specs.Terminals.{terminal_of}
use Rattle.mp_format.specs.Reading.{is}
use Rattle.mp_format.proofs.ReadLaws.{is-same}
use Rattle.mp_format.specs.Format.{Look, Of, Word, sees, sees_any, meets, same_look, one_of, covers, Format, empty, first, goes_on, told, read, Alike, Made}
use Rattle.mp_format.specs.Pieces.{Script}
use Rattle.mp_format.specs.Spelling.{Writing}
use Rattle.mp_format.specs.Whole.{WholeLaws, whole}
use Rattle.mp_format.proofs.Looks.{both_true, clash, denied}
use Rattle.mp_format.proofs.Laws.{Begun, starts, local, complete, sound}
use Rattle.mp_format.proofs.Kept.{kept}
use Rattle.mp_format.proofs.Begins.{ended, mends}
use Rattle.mp_format.proofs.Moved.{moved}
use Rattle.mp_format.proofs.MadeLaws.{made}

or_left : (a b : Bool) → a ≡ true → (a || b) ≡ true
or_left true b e = refl
or_left false b e = cc

or_right : (a b : Bool) → b ≡ true → (a || b) ≡ true
or_right true b e = refl
or_right false b e = e

same-sees : (a b : Look) (u : Tok) → same_look a b ≡ true → sees a u ≡ true → sees b u ≡ true
same-sees (Of a) (Of b) u h s = ap (λ k. is k (terminal_of u)) (sym (is-same b a h)) ∙ s
same-sees (Of a) (Word bs) u h s = cc
same-sees (Word bs) (Of a) u h s = cc
same-sees (Word bs) (Word cs) u h s =
    ap (λ q. is t.Name (terminal_of u) && bytes_eq q u.bytes) ((bytes_eq-Decides cs bs).0 h) ∙ s

one_of-sees : (l : Look) (ms : List Look) (u : Tok) → one_of l ms ≡ true → sees l u ≡ true → sees_any ms u ≡ true
one_of-sees l [] u h s = cc
one_of-sees l (m ∷ ms) u h s = by_same (same_look l m) refl h (λ k. one_of-sees l ms u k s)
  where
    by_same : (b : Bool) → same_look l m ≡ b → (b || one_of l ms) ≡ true → (one_of l ms ≡ true → sees_any ms u ≡ true) → sees_any (m ∷ ms) u ≡ true
    by_same true e h rest = or_left (sees m u) (sees_any ms u) (same-sees l m u e s)
    by_same false e h rest = or_right (sees m u) (sees_any ms u) (rest h)

covers-sees : (ls ms : List Look) (u : Tok) → covers ls ms ≡ true → sees_any ls u ≡ true → sees_any ms u ≡ true
covers-sees [] ms u h s = cc
covers-sees (l ∷ ls) ms u h s =
    let p = both_true (one_of l ms) (covers ls ms) h in
    by_first (sees l u) refl s (covers-sees ls ms u p.1)
  where
    by_first : (b : Bool) → sees l u ≡ b → (b || sees_any ls u) ≡ true → (sees_any ls u ≡ true → sees_any ms u ≡ true) → sees_any ms u ≡ true
    by_first true e s rest = one_of-sees l ms u (both_true (one_of l ms) (covers ls ms) h).0 e
    by_first false e s rest = rest s

covers-meets : (ls ms : List Look) (ts : List Tok) → covers ls ms ≡ true → meets ls ts ≡ true → meets ms ts ≡ true
covers-meets ls ms [] h s = cc
covers-meets ls ms (u ∷ us) h s = covers-sees ls ms u h s

-- a format as a part of others has the laws, with these tokens to begin it and those to go on
pub whole_laws : {T X : Type 0} (ls ms : List Look) (w : Script T X) (f : Format X) (v : Writing f w) → told f ≡ true → empty f ≡ false → covers (first f) ls ≡ true → covers (goes_on f) ms ≡ true → WholeLaws ls ms w f v.Fits
whole_laws {T} {X} ls ms w f v k e a b =
    record {
      sound = sound f;
      complete = λ ts rest x r h. complete f ts rest x k r (denied _ λ s. clash _ (covers-meets (goes_on f) ms rest b s) h);
      begins = λ ts rest x r. by_start ts rest (starts f ts rest x r);
      local = local f;
      keeps = kept f k;
      ends = ended f k;
      mends = mends f k;
      moved = moved f;
      written = v.written;
      opened = v.opened;
      made = made f;
      apart = v.apart;
    }
  where
    by_start : (ts rest : List Tok) → Begun f ts rest → meets ls ts ≡ true
    by_start ts rest (inl s) = covers-meets (first f) ls ts a s
    by_start ts rest (inr d) = absurd (clash (empty f) d.0 e)

pub whole-read : {T X : Type 0} (ls ms : List Look) (w : Script T X) (f : Format X) (Fits : T → Type 0) (laws : WholeLaws ls ms w f Fits) (ts : List Tok) → (whole ls ms w f Fits laws).read ts ≡ read f ts
unfolding whole
whole-read ls ms w f Fits laws ts = refl

pub whole-fits : {T X : Type 0} (ls ms : List Look) (w : Script T X) (f : Format X) (Fits : T → Type 0) (laws : WholeLaws ls ms w f Fits) → (whole ls ms w f Fits laws).Fits ≡ Fits
unfolding whole
whole-fits ls ms w f Fits laws = refl

pub whole-alike : {T X : Type 0} (ls ms : List Look) (w : Script T X) (f : Format X) (Fits : T → Type 0) (laws : WholeLaws ls ms w f Fits) → (whole ls ms w f Fits laws).Alike ≡ Alike f
unfolding whole
whole-alike ls ms w f Fits laws = refl

pub whole-made : {T X : Type 0} (ls ms : List Look) (w : Script T X) (f : Format X) (Fits : T → Type 0) (laws : WholeLaws ls ms w f Fits) → (whole ls ms w f Fits laws).Made ≡ Made f
unfolding whole
whole-made ls ms w f Fits laws = refl
