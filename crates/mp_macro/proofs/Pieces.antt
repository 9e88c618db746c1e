-- The pieces of a line, one after the other.
use Rattle.std.proofs.Common.{◌≡◌, ℕ, zero, suc, ◌+◌, List, [], ◌∷◌, ◌++◌, take, drop, Option, Some, None, Ok, Err, false, refl, sym, ap, subst, ◌∙◌, arith}
use Rattle.std.proofs.lemmas.Grind.{common_steps}
use Rattle.mp_base.specs.Answers.{Refuses}
use Rattle.mp_base.specs.declared.kinds.MacroKind.{MacroKind}
use Rattle.mp_base.specs.declared.kinds.MacroKind.TheVariants as k
use Rattle.mp_directive.specs.Results.{◌>>=◌}
use Rattle.mp_macro.specs.Plain.{Piece, Verbatim, Expression, mark_at, end_at, expression_then, pieces_by, pieces_from, pieces}
use Rattle.mp_macro.specs.States.{State, Outcome, after_piece, after_pieces, written}

skip : (bs : List ℕ) (n : ℕ) → pieces_from bs n ≡ pieces (drop n bs)
unfolding pieces_from
skip [] zero = refl
skip [] (suc n) = refl
skip (b ∷ bs) zero = refl
skip (b ∷ bs) (suc n) = skip bs n

drop-drop : (k n : ℕ) (b : ℕ) (bs : List ℕ) → drop (k + 1 + n) bs ≡ drop n (drop (k + 2) (b ∷ bs))
drop-drop k n b bs = grind (arith, common_steps)

then-same : (bs : List ℕ) (o : Option ℕ) (f g : ℕ → List Piece) → ((n : ℕ) → f n ≡ g n) → expression_then bs o f ≡ expression_then bs o g
then-same bs None f g e = refl
then-same bs (Some n) f g e = ap (λ l. Expression (take n bs) ∷ l) (e (n + 1))

mark-nil : mark_at [] ≡ None
unfolding mark_at
mark-nil = refl

-- the expression at the front and the pieces after it
abbrev pub rest_of : List ℕ → List Piece
rest_of after = expression_then after (end_at false after) (λ n. pieces (drop n after))

pub pieces-mark : (rest : List ℕ) (k : ℕ) → mark_at rest ≡ Some k → pieces rest ≡ Verbatim (take k rest) ∷ rest_of (drop (k + 2) rest)
unfolding pieces_from
pieces-mark [] k m = absurd (let e : None ≡ Some k = sym mark-nil ∙ m in cc)
pieces-mark (b ∷ bs) k m =
    ap (λ x. pieces_by (b ∷ bs) x (pieces_from bs)) m
    ∙ ap (λ l. Verbatim (take k (b ∷ bs)) ∷ l) (then-same (drop (k + 2) (b ∷ bs)) (end_at false (drop (k + 2) (b ∷ bs))) (λ n. pieces_from bs (k + 1 + n)) (λ n. pieces (drop n (drop (k + 2) (b ∷ bs)))) (λ n. skip bs (k + 1 + n) ∙ ap pieces (drop-drop k n b bs)))

pub pieces-last : (rest : List ℕ) → mark_at rest ≡ None → pieces rest ≡ Verbatim (rest ++ 10 ∷ []) ∷ []
unfolding pieces_from
pieces-last [] m = refl
pieces-last (b ∷ bs) m = ap (λ x. pieces_by (b ∷ bs) x (pieces_from bs)) m

-- a step that is refused ends the line
refuses-next : (r : Option MacroKind) (step : Outcome) (next : State → Outcome) → Refuses r step → Refuses r (step >>= next)
refuses-next (Some kind) step next h = ap (λ x. x >>= next) h
refuses-next None step next h = tt

pub line-err : (r : Option MacroKind) (rest : List ℕ) (k : ℕ) (s : State) (t : Outcome) → mark_at rest ≡ Some k → Refuses r (written (take k rest) s) → after_pieces (pieces rest) s ≡ t → Refuses r t
line-err r rest k s t mark h told =
    subst (Refuses r) (ap (λ ps. after_pieces ps s) (sym (pieces-mark rest k mark)) ∙ told) (refuses-next r (written (take k rest) s) (after_pieces (rest_of (drop (k + 2) rest))) h)

pub line-piece : (rest after : List ℕ) (k : ℕ) (s s' : State) (t : Outcome) → mark_at rest ≡ Some k → after ≡ drop (k + 2) rest → written (take k rest) s ≡ Ok s' → after_pieces (pieces rest) s ≡ t → after_pieces (rest_of after) s' ≡ t
line-piece rest after k s s' t mark a h told =
    ap (λ l. after_pieces (rest_of l) s') a ∙ sym (ap (λ ps. after_pieces ps s) (pieces-mark rest k mark) ∙ ap (λ x. x >>= after_pieces (rest_of (drop (k + 2) rest))) h) ∙ told

pub line-open : (after : List ℕ) (s : State) (t : Outcome) → end_at false after ≡ None → after_pieces (rest_of after) s ≡ t → t ≡ Err k.BadExpression
line-open after s t none told = sym told ∙ ap (λ o. after_pieces (expression_then after o (λ n. pieces (drop n after))) s) none

pub value-err : (r : Option MacroKind) (after : List ℕ) (k : ℕ) (s : State) (t : Outcome) → end_at false after ≡ Some k → Refuses r (after_piece (Expression (take k after)) s) → after_pieces (rest_of after) s ≡ t → Refuses r t
value-err r after k s t end h told =
    subst (Refuses r) (ap (λ o. after_pieces (expression_then after o (λ n. pieces (drop n after))) s) (sym end) ∙ told) (refuses-next r (after_piece (Expression (take k after)) s) (after_pieces (pieces (drop (k + 1) after))) h)

pub value-next : (after next : List ℕ) (k : ℕ) (s s' : State) (t : Outcome) → end_at false after ≡ Some k → next ≡ drop (k + 1) after → after_piece (Expression (take k after)) s ≡ Ok s' → after_pieces (rest_of after) s ≡ t → after_pieces (pieces next) s' ≡ t
value-next after next k s s' t end n h told =
    ap (λ l. after_pieces (pieces l) s') n ∙ sym (ap (λ o. after_pieces (expression_then after o (λ n. pieces (drop n after))) s) end ∙ ap (λ x. x >>= after_pieces (pieces (drop (k + 1) after))) h) ∙ told

pub line-last : (rest : List ℕ) (s : State) (t : Outcome) → mark_at rest ≡ None → after_pieces (pieces rest) s ≡ t → written (rest ++ 10 ∷ []) s ≡ t
line-last rest s t none told = sym (ends (written (rest ++ 10 ∷ []) s)) ∙ ap (λ ps. after_pieces ps s) (sym (pieces-last rest none)) ∙ told
  where
    ends : (o : Outcome) → (o >>= after_pieces []) ≡ o
    ends (Ok x) = refl
    ends (Err x) = refl
