-- How a format is written otherwise than by its own trees.
use Rattle.std.proofs.Common.{◌≡◌, List, ◌++◌, Bool, true, false, inl, inr, refl, sym, ap, ◌∙◌, subst}
use Rattle.mp_tokens.specs.Tokens.{Tok}
use Rattle.mp_format.specs.Pieces.{Piece, words, text_of, Run, stops, Apart, within, Clears, Script}
use Rattle.mp_format.specs.Format.{Format, Reads, empty}
use Rattle.mp_format.specs.Spelling.{Tree, value, pieces, Fits, opens, closes, spaced, Writing}
use Rattle.mp_format.proofs.Looks.{clash}
use Rattle.mp_format.proofs.Leaves.{within_at}
use Rattle.mp_format.proofs.TextLaws.{written, Opened, opened, apart}

-- this tree has this value and these pieces, and is in form
pub record Tells {X : Type 0} (f : Format X) (x : Tree f) (y : X) (ps : List Piece) : Type 0 where
  pub value : value f x ≡ y
  pub pieces : pieces f x ≡ ps
  pub fits : Fits f x

pub back_false : (a b : Bool) → (a ≡ true → b ≡ true) → b ≡ false → a ≡ false
back_false true b h e = sym (h refl) ∙ e
back_false false b h e = refl

-- where each x has a tree with its value and its pieces
unfoldable pub writing : {T X : Type 0} (f : Format X) (w : Script T X) (tree : T → Tree f) (Good : T → Type 0) → ((x : T) → Good x → Tells f (tree x) (w.value x) (w.pieces x)) → spaced f ≡ true → empty f ≡ false → within (opens f) w.opens ≡ true → within (closes f) w.closes ≡ true → Writing f w
writing {T} f w tree Good tells s e o c =
    record { Fits = Good; written = reads; opened = opens_so; apart = apart_so }
  where
    reads : (x : T) → Good x → (r : List Tok) → Reads f (words (w.pieces x) ++ r) (w.value x) r
    reads x is r =
        let h = tells x is in
        subst (λ l. Reads f (words l ++ r) (w.value x) r) h.pieces (subst (λ v. Reads f (words (pieces f (tree x)) ++ r) v r) h.value (written f (tree x) s h.fits r))

    opens_so : (x : T) (ps : List Piece) (r : Run) → Good x → w.opens r ≡ false → stops r (text_of (w.pieces x ++ ps)) ≡ true
    opens_so x ps r is h =
        let t = tells x is in
        by_opened t.pieces (opened f (tree x) ps r s t.fits (back_false (opens f r) (w.opens r) (within_at (opens f) w.opens r o) h))
      where
        by_opened : pieces f (tree x) ≡ w.pieces x → Opened (empty f) (pieces f (tree x)) ps r → stops r (text_of (w.pieces x ++ ps)) ≡ true
        by_opened same (inl a) = ap (λ l. stops r (text_of (l ++ ps))) (sym same) ∙ a
        by_opened same (inr a) = absurd (clash (empty f) a.0 e)

    apart_so : (x : T) (ps : List Piece) → Good x → Apart ps → Clears w.closes (text_of ps) → Apart (w.pieces x ++ ps)
    apart_so x ps is a h =
        let t = tells x is in
        subst (λ l. Apart (l ++ ps)) t.pieces (apart f (tree x) ps s t.fits a (λ r q. h r (within_at (closes f) w.closes r c q)))
