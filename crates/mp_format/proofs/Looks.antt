-- What is said of the next token.
use Rattle.std.proofs.Common.{◌≡◌, ℕ, List, [], ◌∷◌, ◌++◌, Bool, true, false, not, ◌&&◌, ◌||◌, refl, sym, ap, ◌∙◌, bytes_eq}
use Rattle.std.proofs.lemmas.Slice.Eq.{bytes_eq-Decides}
use Rattle.mp_tokens.specs.declared.terminal.Terminal.TheVariants as t
use Rattle.mp_tokens.specs.Tokens.{Tok}
use Rattle.mp_tokens.specs.Terminals.{terminal_of}
use Rattle.mp_format.specs.Reading.{is}
use Rattle.mp_format.proofs.ReadLaws.{is-same}
use Rattle.mp_format.specs.Format.{Look, Of, Word, sees, apart, sees_any, meets, apart_all, disjoint}

pub both_true : (a b : Bool) → (a && b) ≡ true → (a ≡ true) × (b ≡ true)
both_true true b e = (refl, e)
both_true false b e = cc

pub both_false : (a b : Bool) → (a || b) ≡ false → (a ≡ false) × (b ≡ false)
both_false true b e = cc
both_false false b e = (refl, e)

pub not_true : (a : Bool) → not a ≡ true → a ≡ false
not_true true e = cc
not_true false e = refl

pub clash : (a : Bool) → a ≡ true → a ≡ false → ⊥
clash a h k = let e : true ≡ false = sym h ∙ k in cc

-- what is not true is false
pub denied : (a : Bool) → (a ≡ true → ⊥) → a ≡ false
denied true h = absurd (h refl)
denied false h = refl

bytes_same : (xs ys : List ℕ) → bytes_eq xs ys ≡ true → xs ≡ ys
bytes_same xs ys e = (bytes_eq-Decides xs ys).0 e

pub apart-sees : (a b : Look) (u : Tok) → apart a b ≡ true → sees a u ≡ true → sees b u ≡ false
apart-sees (Of a) (Of b) u h s =
    denied _ λ r. clash (is a b) (ap (is a) (sym (is-same b (terminal_of u) r)) ∙ s) (not_true _ h)
apart-sees (Of a) (Word bs) u h s =
    ap (λ k. is t.Name k && bytes_eq bs u.bytes) (is-same a (terminal_of u) s) ∙ ap (λ b. b && bytes_eq bs u.bytes) (not_true _ h)
apart-sees (Word bs) (Of a) u h s =
    denied _ λ r. clash (is t.Name a) (ap (is t.Name) (sym (is-same a (terminal_of u) r)) ∙ (both_true _ _ s).0) (not_true _ h)
apart-sees (Word bs) (Word cs) u h s =
    denied _ λ r. clash (bytes_eq bs cs) (ap (bytes_eq bs) (bytes_same cs u.bytes (both_true _ _ r).1) ∙ (both_true _ _ s).1) (not_true _ h)

apart_all-sees : (l : Look) (ms : List Look) (u : Tok) → apart_all l ms ≡ true → sees l u ≡ true → sees_any ms u ≡ false
apart_all-sees l [] u h s = refl
apart_all-sees l (m ∷ ms) u h s =
    let p = both_true (apart l m) (apart_all l ms) h in
    ap (λ b. b || sees_any ms u) (apart-sees l m u p.0 s) ∙ apart_all-sees l ms u p.1 s

-- a token that is one of these is none of those
pub disjoint-sees : (ls ms : List Look) (u : Tok) → disjoint ls ms ≡ true → sees_any ls u ≡ true → sees_any ms u ≡ false
disjoint-sees [] ms u h s = cc
disjoint-sees (l ∷ ls) ms u h s =
    let p = both_true (apart_all l ms) (disjoint ls ms) h in
    by_first (disjoint-sees ls ms u p.1) (sees l u) refl s
  where
    by_first : (sees_any ls u ≡ true → sees_any ms u ≡ false) → (b : Bool) → sees l u ≡ b → (b || sees_any ls u) ≡ true → sees_any ms u ≡ false
    by_first rest true e s = apart_all-sees l ms u (both_true (apart_all l ms) (disjoint ls ms) h).0 e
    by_first rest false e s = rest s

pub disjoint-meets : (ls ms : List Look) (ts : List Tok) → disjoint ls ms ≡ true → meets ls ts ≡ true → meets ms ts ≡ false
disjoint-meets ls ms [] h s = refl
disjoint-meets ls ms (u ∷ us) h s = disjoint-sees ls ms u h s

-- the other way round
pub disjoint-meets_back : (ls ms : List Look) (ts : List Tok) → disjoint ls ms ≡ true → meets ms ts ≡ true → meets ls ts ≡ false
disjoint-meets_back ls ms ts h s = denied _ λ r. clash _ s (disjoint-meets ls ms ts h r)

sees_any-append : (ls ms : List Look) (u : Tok) → sees_any (ls ++ ms) u ≡ (sees_any ls u || sees_any ms u)
sees_any-append [] ms u = refl
sees_any-append (l ∷ ls) ms u = by_first (sees l u) (sees_any-append ls ms u)
  where
    by_first : (b : Bool) → sees_any (ls ++ ms) u ≡ (sees_any ls u || sees_any ms u) → (b || sees_any (ls ++ ms) u) ≡ ((b || sees_any ls u) || sees_any ms u)
    by_first true e = refl
    by_first false e = e

pub meets-append : (ls ms : List Look) (ts : List Tok) → meets (ls ++ ms) ts ≡ (meets ls ts || meets ms ts)
meets-append ls ms [] = refl
meets-append ls ms (u ∷ us) = sees_any-append ls ms u

pub meets_left : (ls ms : List Look) (ts : List Tok) → meets ls ts ≡ true → meets (ls ++ ms) ts ≡ true
meets_left ls ms ts h = meets-append ls ms ts ∙ ap (λ b. b || meets ms ts) h

pub meets_right : (ls ms : List Look) (ts : List Tok) → meets ms ts ≡ true → meets (ls ++ ms) ts ≡ true
meets_right ls ms ts h = meets-append ls ms ts ∙ ap (λ b. meets ls ts || b) h ∙ or_true (meets ls ts)
  where
    or_true : (a : Bool) → (a || true) ≡ true
    or_true true = refl
    or_true false = refl

pub meets_none : (ls ms : List Look) (ts : List Tok) → meets (ls ++ ms) ts ≡ false → (meets ls ts ≡ false) × (meets ms ts ≡ false)
meets_none ls ms ts h = both_false _ _ (sym (meets-append ls ms ts) ∙ h)

pub meets_both : (ls ms : List Look) (ts : List Tok) → meets ls ts ≡ false → meets ms ts ≡ false → meets (ls ++ ms) ts ≡ false
meets_both ls ms ts h k = meets-append ls ms ts ∙ ap (λ b. b || meets ms ts) h ∙ k
