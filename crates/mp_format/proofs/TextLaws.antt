-- What a tree writes reads back as its value, and its text has the tokens of its pieces.
use Rattle.std.proofs.Common.{◌≡◌, ℕ, List, [], ◌∷◌, ◌++◌, Bool, true, false, cond, ◌&&◌, ◌||◌, ◌⊎◌, inl, inr, Some, None, Ok, refl, sym, ap, ◌∙◌, subst, append_assoc, append-nil, map}
use Rattle.std.specs.List.{list_all, flat_map}
use Rattle.mp_tokens.specs.Tokens.{Tok, is_blank, tokens}
use Rattle.mp_format.specs.Pieces.{Piece, Solid, Blank, Around, words, blanks, text_of, placed, Run, stops, Apart, free, Clears}
use Rattle.mp_format.specs.Format.{Look, Format, tok, both, choose, opt, many, via, part, ManyReads, Reads, empty, AlikeToken, AllAlike, Alike}
use Rattle.mp_format.specs.Spelling.{Leaf, token_at, Filled, Tree, value, pieces, all_pieces, behind, text, Fits, FitsAll, none, look_opens, look_closes, look_spells, opens, closes, spaced}
use Rattle.mp_format.proofs.Looks.{both_true, both_false}
use Rattle.mp_format.proofs.Leaves.{leaf_one, leaf_seen, leaf_opens, leaf_closes, blank_stops, free_at}
use Rattle.mp_format.proofs.PieceLaws.{tokens-text_of, words-placed}
use Rattle.mp_format.proofs.Moved.{moved}

pub words-append : (ps qs : List Piece) → words (ps ++ qs) ≡ words ps ++ words qs
words-append [] qs = refl
words-append (Solid u ∷ ps) qs = ap (λ l. u ∷ l) (words-append ps qs)
words-append (Blank b ∷ ps) qs = words-append ps qs

words-blanks : (bs : List ℕ) → words (blanks bs) ≡ []
words-blanks [] = refl
words-blanks (b ∷ bs) = words-blanks bs

spaced_tok : (l : Look) (w : Around) → spaced (tok l w) ≡ true → (look_spells l ≡ true) × (list_all is_blank w.before ≡ true) × (list_all is_blank w.after ≡ true)
unfolding spaced
spaced_tok l w s = let p = both_true _ _ s in let q = both_true _ _ p.1 in (p.0, q.0, q.1)

pub spaced_both : {X Y : Type 0} (f : Format X) (g : Format Y) → spaced (both f g) ≡ true → (spaced f ≡ true) × (spaced g ≡ true) × (free (closes f) (opens g) ≡ true)
unfolding spaced
spaced_both f g s = let p = both_true _ _ s in let q = both_true _ _ p.1 in (p.0, q.0, q.1)

spaced_choose : {X : Type 0} (f g : Format X) → spaced (choose f g) ≡ true → (spaced f ≡ true) × (spaced g ≡ true)
unfolding spaced
spaced_choose f g s = both_true _ _ s

spaced_many : {X : Type 0} (f : Format X) → spaced (many f) ≡ true → (spaced f ≡ true) × (free (closes f) (opens f) ≡ true)
unfolding spaced
spaced_many f s = both_true _ _ s

-- a tree's tokens read as its value
pub written : {X : Type 0} (f : Format X) (x : Tree f) → spaced f ≡ true → Fits f x → (r : List Tok) → Reads f (words (pieces f x) ++ r) (value f x) r
unfolding value pieces Fits Reads spaced
written (tok l w) x s is r =
    (leaf_seen l x (spaced_tok l w s).0 is, ap (λ l. l ++ r) (words-append (blanks w.before) (Solid (token_at l x) ∷ blanks w.after)) ∙ ap (λ m. (m ++ (token_at l x ∷ words (blanks w.after))) ++ r) (words-blanks w.before) ∙ ap (λ m. token_at l x ∷ (m ++ r)) (words-blanks w.after))
written (both f g) x s is r =
    let h = spaced_both f g s in
    let at : words (pieces f x.0 ++ pieces g x.1) ++ r ≡ words (pieces f x.0) ++ (words (pieces g x.1) ++ r) = ap (λ l. l ++ r) (words-append (pieces f x.0) (pieces g x.1)) ∙ append_assoc (words (pieces f x.0)) (words (pieces g x.1)) r in
    (words (pieces g x.1) ++ r, subst (λ l. Reads f l (value f x.0) (words (pieces g x.1) ++ r)) (sym at) (written f x.0 h.0 is.0 (words (pieces g x.1) ++ r)), written g x.1 h.1 is.1 r)
written (choose f g) (inl x) s is r = inl (written f x (spaced_choose f g s).0 is r)
written (choose f g) (inr x) s is r = inr (written g x (spaced_choose f g s).1 is r)
written (opt f) None s is r = refl
written (opt f) (Some x) s is r = written f x s is r
written (many f) xs s is r = by_list xs is (λ x. written f x (spaced_many f s).0)
  where
    by_list : (xs : List (Tree f)) → FitsAll (Fits f) xs → ((x : Tree f) → Fits f x → (r : List Tok) → Reads f (words (pieces f x) ++ r) (value f x) r) → ManyReads (Reads f) (words (all_pieces (pieces f) xs) ++ r) (map (value f) xs) r
    by_list [] is one = refl
    by_list (x ∷ xs) is one =
        let rest = all_pieces (pieces f) xs in
        let at : words (pieces f x ++ rest) ++ r ≡ words (pieces f x) ++ (words rest ++ r) = ap (λ l. l ++ r) (words-append (pieces f x) rest) ∙ append_assoc (words (pieces f x)) (words rest) r in
        (words rest ++ r, subst (λ l. Reads f l (value f x) (words rest ++ r)) (sym at) (one x is.0 (words rest ++ r)), by_list xs is.1 one)
written (via to f) x s is r = (value f x, written f x s is r, refl)
written (part ls ms w p) x s is r = p.laws.written x is r

-- what does not open so, stops so, if it is there
abbrev pub Opened : (e : Bool) → List Piece → List Piece → Run → Type 0
Opened e ps rest r = (stops r (text_of (ps ++ rest)) ≡ true) ⊎ ((e ≡ true) × (ps ≡ []))

blank_opened : (w : List ℕ) (u : Tok) (ps : List Piece) (r : Run) → list_all is_blank w ≡ true → (none w ≡ true → stops r (u.bytes ++ text_of ps) ≡ true) → stops r (text_of ((blanks w ++ (Solid u ∷ [])) ++ ps)) ≡ true
blank_opened [] u ps r all h = h refl
blank_opened (b ∷ w) u ps r all h = blank_stops r b (both_true _ _ all).0

both_no : (a b : Bool) → (a && b) ≡ false → a ≡ true → b ≡ false
both_no true b e f = e
both_no false b e f = cc

tok_opened : (l : Look) (w : Around) (x : Leaf l) (ps : List Piece) (r : Run) → look_spells l ≡ true → list_all is_blank w.before ≡ true → Filled l x → (none w.before && look_opens l r) ≡ false → stops r (text_of ((blanks w.before ++ (Solid (token_at l x) ∷ blanks w.after)) ++ ps)) ≡ true
tok_opened l w x ps r s all is e = by_before w.before all e
  where
    by_before : (before : List ℕ) → list_all is_blank before ≡ true → (none before && look_opens l r) ≡ false → stops r (text_of ((blanks before ++ (Solid (token_at l x) ∷ blanks w.after)) ++ ps)) ≡ true
    by_before [] all e = leaf_opens l x (text_of (blanks w.after ++ ps)) r s is e
    by_before (b ∷ bs) all e = blank_stops r b (both_true _ _ all).0

pub opened : {X : Type 0} (f : Format X) (x : Tree f) (ps : List Piece) (r : Run) → spaced f ≡ true → Fits f x → opens f r ≡ false → Opened (empty f) (pieces f x) ps r
unfolding pieces Fits opens empty spaced
opened (tok l w) x ps r s is e =
    let h = spaced_tok l w s in inl (tok_opened l w x ps r h.0 h.1 is e)
opened (both f g) x ps r s is e =
    let h = spaced_both f g s in
    by_empty (empty f) (opened f x.0 (pieces g x.1 ++ ps) r h.0 is.0) (opened g x.1 ps r h.1 is.1) e
  where
    by_empty : (n : Bool) → (opens f r ≡ false → Opened n (pieces f x.0) (pieces g x.1 ++ ps) r) → (opens g r ≡ false → Opened (empty g) (pieces g x.1) ps r) → cond n (opens f r || opens g r) (opens f r) ≡ false → Opened (n && empty g) (pieces f x.0 ++ pieces g x.1) ps r
    by_empty true p q e =
        let h = both_false _ _ e in by_left (p h.0) (q h.1)
      where
        by_left : Opened true (pieces f x.0) (pieces g x.1 ++ ps) r → Opened (empty g) (pieces g x.1) ps r → Opened (empty g) (pieces f x.0 ++ pieces g x.1) ps r
        by_left (inl a) b = inl (ap (λ l. stops r (text_of l)) (append_assoc (pieces f x.0) (pieces g x.1) ps) ∙ a)
        by_left (inr a) (inl b) = inl (ap (λ l. stops r (text_of ((l ++ pieces g x.1) ++ ps))) a.1 ∙ b)
        by_left (inr a) (inr b) = inr (b.0, ap (λ l. l ++ pieces g x.1) a.1 ∙ b.1)
    by_empty false p q e = by_left (p e)
      where
        by_left : Opened false (pieces f x.0) (pieces g x.1 ++ ps) r → Opened false (pieces f x.0 ++ pieces g x.1) ps r
        by_left (inl a) = inl (ap (λ l. stops r (text_of l)) (append_assoc (pieces f x.0) (pieces g x.1) ps) ∙ a)
        by_left (inr a) = cc
opened (choose f g) (inl x) ps r s is e = widen (opened f x ps r (spaced_choose f g s).0 is (both_false _ _ e).0)
  where
    widen : Opened (empty f) (pieces f x) ps r → Opened (empty f || empty g) (pieces f x) ps r
    widen (inl a) = inl a
    widen (inr a) = inr (ap (λ b. b || empty g) a.0, a.1)
opened (choose f g) (inr x) ps r s is e = widen (opened g x ps r (spaced_choose f g s).1 is (both_false _ _ e).1)
  where
    or_true : (a : Bool) → (a || true) ≡ true
    or_true true = refl
    or_true false = refl

    widen : Opened (empty g) (pieces g x) ps r → Opened (empty f || empty g) (pieces g x) ps r
    widen (inl a) = inl a
    widen (inr a) = inr (ap (λ b. empty f || b) a.0 ∙ or_true (empty f), a.1)
opened (opt f) None ps r s is e = inr (refl, refl)
opened (opt f) (Some x) ps r s is e = widen (opened f x ps r s is e)
  where
    widen : Opened (empty f) (pieces f x) ps r → Opened true (pieces f x) ps r
    widen (inl a) = inl a
    widen (inr a) = inr (refl, a.1)
opened (many f) xs ps r s is e = by_list xs is (λ x qs. opened f x qs r (spaced_many f s).0)
  where
    by_list : (xs : List (Tree f)) → FitsAll (Fits f) xs → ((x : Tree f) (qs : List Piece) → Fits f x → opens f r ≡ false → Opened (empty f) (pieces f x) qs r) → Opened true (all_pieces (pieces f) xs) ps r
    by_list [] is one = inr (refl, refl)
    by_list (x ∷ xs) is one = by_left (one x (all_pieces (pieces f) xs ++ ps) is.0 e) (by_list xs is.1 one)
      where
        by_left : Opened (empty f) (pieces f x) (all_pieces (pieces f) xs ++ ps) r → Opened true (all_pieces (pieces f) xs) ps r → Opened true (pieces f x ++ all_pieces (pieces f) xs) ps r
        by_left (inl a) b = inl (ap (λ l. stops r (text_of l)) (append_assoc (pieces f x) (all_pieces (pieces f) xs) ps) ∙ a)
        by_left (inr a) (inl b) = inl (ap (λ l. stops r (text_of ((l ++ all_pieces (pieces f) xs) ++ ps))) a.1 ∙ b)
        by_left (inr a) (inr b) = inr (refl, ap (λ l. l ++ all_pieces (pieces f) xs) a.1 ∙ b.1)
opened (via to f) x ps r s is e = opened f x ps r s is e
opened (part ls ms w p) x ps r s is e = inl (p.laws.opened x ps r is e)

blanks_apart : (w : List ℕ) (ps : List Piece) → list_all is_blank w ≡ true → Apart ps → Apart (blanks w ++ ps)
blanks_apart [] ps all a = a
blanks_apart (b ∷ w) ps all a = let p = both_true _ _ all in (p.0, blanks_apart w ps p.1 a)

tok_apart : (l : Look) (w : Around) (x : Leaf l) (ps : List Piece) → look_spells l ≡ true → list_all is_blank w.before ≡ true → list_all is_blank w.after ≡ true → Filled l x → Apart ps → Clears (λ r. none w.after && look_closes l r) (text_of ps) → Apart ((blanks w.before ++ (Solid (token_at l x) ∷ blanks w.after)) ++ ps)
tok_apart l w x ps s before after is a c =
    subst Apart (sym (append_assoc (blanks w.before) (Solid (token_at l x) ∷ blanks w.after) ps)) (blanks_apart w.before _ before (leaf_one l x s is, leaf_closes l x _ (by_after w.after after c), blanks_apart w.after ps after a))
  where
    by_after : (after : List ℕ) → list_all is_blank after ≡ true → Clears (λ r. none after && look_closes l r) (text_of ps) → Clears (look_closes l) (text_of (blanks after ++ ps))
    by_after [] all c r e = c r e
    by_after (b ∷ bs) all c r e = blank_stops r b (both_true _ _ all).0

-- at a free seam the first does not run into the second, nor into what follows
seam : {X Y : Type 0} (f : Format X) (g : Format Y) (y : Tree g) (ps : List Piece) → spaced g ≡ true → Fits g y → free (closes f) (opens g) ≡ true → ((r : Run) → empty g ≡ true → closes f r ≡ true → stops r (text_of ps) ≡ true) → Clears (closes f) (text_of (pieces g y ++ ps))
seam f g y ps s is e c r h = by_opened (opened g y ps r s is (free_at (closes f) (opens g) r e h))
  where
    by_opened : Opened (empty g) (pieces g y) ps r → stops r (text_of (pieces g y ++ ps)) ≡ true
    by_opened (inl a) = a
    by_opened (inr a) = ap (λ l. stops r (text_of (l ++ ps))) a.1 ∙ c r a.0 h

or_right : (a b : Bool) → b ≡ true → (a || b) ≡ true
or_right true b e = refl
or_right false b e = e

or_left : (a b : Bool) → a ≡ true → (a || b) ≡ true
or_left true b e = refl
or_left false b e = cc

-- no token of a tree runs into the next
pub apart : {X : Type 0} (f : Format X) (x : Tree f) (ps : List Piece) → spaced f ≡ true → Fits f x → Apart ps → Clears (closes f) (text_of ps) → Apart (pieces f x ++ ps)
unfolding pieces Fits closes spaced
apart (tok l w) x ps s is a c = let h = spaced_tok l w s in tok_apart l w x ps h.0 h.1 h.2 is a c
apart (both f g) x ps s is a c =
    let h = spaced_both f g s in
    subst Apart (sym (append_assoc (pieces f x.0) (pieces g x.1) ps)) (apart f x.0 (pieces g x.1 ++ ps) h.0 is.0 (apart g x.1 ps h.1 is.1 a (λ r e. c r (last (empty g) r e))) (seam f g x.1 ps h.1 is.1 h.2 (λ r n e. c r (ahead (empty g) r n e))))
  where
    last : (n : Bool) (r : Run) → closes g r ≡ true → cond n (closes g r || closes f r) (closes g r) ≡ true
    last true r e = or_left _ _ e
    last false r e = e

    ahead : (n : Bool) (r : Run) → n ≡ true → closes f r ≡ true → cond n (closes g r || closes f r) (closes g r) ≡ true
    ahead true r n e = or_right _ _ e
    ahead false r n e = cc
apart (choose f g) (inl x) ps s is a c = apart f x ps (spaced_choose f g s).0 is a (λ r e. c r (or_left _ _ e))
apart (choose f g) (inr x) ps s is a c = apart g x ps (spaced_choose f g s).1 is a (λ r e. c r (or_right _ _ e))
apart (opt f) None ps s is a c = a
apart (opt f) (Some x) ps s is a c = apart f x ps s is a c
apart (many f) xs ps s is a c = by_list xs is (λ x qs. apart f x qs (spaced_many f s).0)
  where
    by_list : (xs : List (Tree f)) → FitsAll (Fits f) xs → ((x : Tree f) (qs : List Piece) → Fits f x → Apart qs → Clears (closes f) (text_of qs) → Apart (pieces f x ++ qs)) → Apart (all_pieces (pieces f) xs ++ ps)
    by_list [] is one = a
    by_list (x ∷ xs) is one =
        subst Apart (sym (append_assoc (pieces f x) (all_pieces (pieces f) xs) ps)) (one x (all_pieces (pieces f) xs ++ ps) is.0 (by_list xs is.1 one) (next xs is.1))
      where
        next : (ys : List (Tree f)) → FitsAll (Fits f) ys → Clears (closes f) (text_of (all_pieces (pieces f) ys ++ ps))
        next [] is = c
        next (y ∷ ys) is =
            let more = next ys is.1 in
            λ r e. ap (λ l. stops r (text_of l)) (append_assoc (pieces f y) (all_pieces (pieces f) ys) ps) ∙ seam f f y (all_pieces (pieces f) ys ++ ps) (spaced_many f s).0 is.0 (spaced_many f s).1 (λ q n h. more q h) r e
apart (via to f) x ps s is a c = apart f x ps s is a c
apart (part ls ms w p) x ps s is a c = p.laws.apart x ps is a c

text_of-append : (ps qs : List Piece) → text_of (ps ++ qs) ≡ text_of ps ++ text_of qs
text_of-append [] qs = refl
text_of-append (Solid u ∷ ps) qs =
    ap (λ l. u.bytes ++ l) (text_of-append ps qs) ∙ sym (append_assoc u.bytes (text_of ps) (text_of qs))
text_of-append (Blank b ∷ ps) qs = ap (λ l. b ∷ l) (text_of-append ps qs)

text_of-blanks : (bs : List ℕ) → text_of (blanks bs) ≡ bs
text_of-blanks [] = refl
text_of-blanks (b ∷ bs) = ap (λ l. b ∷ l) (text_of-blanks bs)

behind-append : (bytes after : List ℕ) → bytes ++ after ≡ behind bytes after
behind-append bytes [] = append-nil bytes
behind-append bytes (b ∷ bs) = refl

-- the bytes of a tree's pieces
pub text-pieces : {X : Type 0} (f : Format X) (x : Tree f) → text_of (pieces f x) ≡ text f x
unfolding text pieces
text-pieces (tok l w) x =
    text_of-append (blanks w.before) (Solid (token_at l x) ∷ blanks w.after) ∙ ap (λ b. b ++ ((token_at l x).bytes ++ text_of (blanks w.after))) (text_of-blanks w.before) ∙ ap (λ b. w.before ++ ((token_at l x).bytes ++ b)) (text_of-blanks w.after) ∙ ap (λ b. w.before ++ b) (behind-append (token_at l x).bytes w.after)
text-pieces (both f g) x =
    text_of-append (pieces f x.0) (pieces g x.1) ∙ ap (λ b. b ++ text_of (pieces g x.1)) (text-pieces f x.0) ∙ ap (λ b. text f x.0 ++ b) (text-pieces g x.1)
text-pieces (choose f g) (inl x) = text-pieces f x
text-pieces (choose f g) (inr x) = text-pieces g x
text-pieces (opt f) None = refl
text-pieces (opt f) (Some x) = text-pieces f x
text-pieces (many f) xs = by_list xs (text-pieces f)
  where
    by_list : (xs : List (Tree f)) → ((x : Tree f) → text_of (pieces f x) ≡ text f x) → text_of (all_pieces (pieces f) xs) ≡ flat_map (text f) xs
    by_list [] one = refl
    by_list (x ∷ xs) one =
        text_of-append (pieces f x) (all_pieces (pieces f) xs) ∙ ap (λ b. b ++ text_of (all_pieces (pieces f) xs)) (one x) ∙ ap (λ b. text f x ++ b) (by_list xs one)
text-pieces (via to f) x = text-pieces f x
text-pieces (part ls ms w p) x = refl

-- the text of a tree has tokens, and they read as its value, but for places
abbrev pub ReadsBack : {X : Type 0} (f : Format X) → Tree f → Type 0
ReadsBack {X} f x = (ts : List Tok) × (again : X) × (tokens (text f x) ≡ Ok ts) × Reads f ts again [] × Alike f (value f x) again

pub back : {X : Type 0} (f : Format X) (x : Tree f) → spaced f ≡ true → Fits f x → ReadsBack f x
back f x s is =
    let ps = pieces f x in
    let apart_all : Apart ps = subst Apart (append-nil ps) (apart f x [] s is tt (λ r e. refl)) in
    let reads : Reads f (words ps) (value f x) [] = subst (λ l. Reads f l (value f x) []) (append-nil (words ps)) (written f x s is []) in
    let m = moved f (words ps) [] (placed 0 ps) (value f x) reads (words-placed ps 0) in
    (placed 0 ps, m.0, ap tokens (sym (text-pieces f x)) ∙ tokens-text_of ps 0 apart_all, subst (λ l. Reads f (placed 0 ps) m.0 l) (nothing m.1 m.3) m.2, m.4)
  where
    nothing : (left : List Tok) → AllAlike AlikeToken [] left → left ≡ []
    nothing [] a = refl
    nothing (u ∷ us) a = absurd a
