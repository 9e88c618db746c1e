-- The laws of all formats: what is read is what the relation gives.
use Rattle.std.proofs.Common.{◌≡◌, ℕ, zero, suc, ◌+◌, ◌<◌, ◌≤◌, ◌⊎◌, inl, inr, List, [], ◌∷◌, ◌++◌, length, Bool, true, false, cond, not, ◌&&◌, ◌||◌, Some, None, Ok, Err, refl, sym, ap, ◌∙◌, subst, arith, append_assoc, length-append}
use Rattle.mp_tokens.specs.Tokens.{Tok}
use Rattle.mp_format.specs.Reading.{Read, ◌>>=◌, go_on, more_at}
use Rattle.mp_format.proofs.ReadLaws.{got, carried, bound}
use Rattle.mp_format.specs.Format.{Look, sees, meets, disjoint, Reading, Format, tok, both, choose, opt, many, via, part, OptReads, ManyReads, Reads, empty, first, goes_on, told, tok_at, begin, read}
use Rattle.mp_format.proofs.Looks.{both_true, not_true, clash, disjoint-meets_back, meets_left, meets_right, meets_none, meets_both}

-- one list of looks or two
if_left : (b : Bool) (ls ms : List Look) (ts : List Tok) → meets ls ts ≡ true → meets (cond b (ls ++ ms) ls) ts ≡ true
if_left true ls ms ts h = meets_left ls ms ts h
if_left false ls ms ts h = h

if_right : (b : Bool) (ls ms : List Look) (ts : List Tok) → b ≡ true → meets ms ts ≡ true → meets (cond b (ls ++ ms) ls) ts ≡ true
if_right true ls ms ts e h = meets_right ls ms ts h
if_right false ls ms ts e h = cc

if_one : (b : Bool) (ls ms : List Look) (ts : List Tok) → meets (cond b (ls ++ ms) ls) ts ≡ false → meets ls ts ≡ false
if_one true ls ms ts h = (meets_none ls ms ts h).0
if_one false ls ms ts h = h

if_both : (b : Bool) (ls ms : List Look) (ts : List Tok) → b ≡ true → meets (cond b (ls ++ ms) ls) ts ≡ false → meets ms ts ≡ false
if_both true ls ms ts e h = (meets_none ls ms ts h).1
if_both false ls ms ts e h = cc

-- what is read begins with a first token, or it is empty
abbrev pub Begun : {X : Type 0} → Format X → List Tok → List Tok → Type 0
Begun f ts rest = (meets (first f) ts ≡ true) ⊎ ((empty f ≡ true) × (ts ≡ rest))

pub starts : {X : Type 0} (f : Format X) (ts rest : List Tok) (x : X) → Reads f ts x rest → Begun f ts rest
unfolding Reads first empty
starts (tok l _) ts rest x r =
    inl (ap (meets (l ∷ [])) r.1 ∙ ap (λ b. b || false) r.0)
starts (both f g) ts rest x r = by_first (starts f ts r.0 x.0 r.1) (starts g r.0 rest x.1 r.2)
  where
    by_first : Begun f ts r.0 → Begun g r.0 rest → Begun (both f g) ts rest
    by_first (inl h) q = inl (if_left (empty f) (first f) (first g) ts h)
    by_first (inr e) (inl h) = inl (if_right (empty f) (first f) (first g) ts e.0 (ap (meets (first g)) e.1 ∙ h))
    by_first (inr e) (inr d) = inr (ap (λ b. b && empty g) e.0 ∙ d.0, e.1 ∙ d.1)
starts (choose {X} f g) ts rest x r = by_side r (starts f ts rest x) (starts g ts rest x)
  where
    left : Begun f ts rest → Begun (choose f g) ts rest
    left (inl h) = inl (meets_left (first f) (first g) ts h)
    left (inr e) = inr (ap (λ b. b || empty g) e.0, e.1)

    right_true : (b c : Bool) → c ≡ true → (b || c) ≡ true
    right_true true c h = refl
    right_true false c h = h

    right : Begun g ts rest → Begun (choose f g) ts rest
    right (inl h) = inl (meets_right (first f) (first g) ts h)
    right (inr e) = inr (right_true (empty f) (empty g) e.0, e.1)

    by_side : Reads f ts x rest ⊎ Reads g ts x rest → (Reads f ts x rest → Begun f ts rest) → (Reads g ts x rest → Begun g ts rest) → Begun (choose f g) ts rest
    by_side (inl r) a b = left (a r)
    by_side (inr r) a b = right (b r)
starts (opt f) ts rest None r = inr (refl, r)
starts (opt f) ts rest (Some x) r = by_start (starts f ts rest x r)
  where
    by_start : Begun f ts rest → Begun (opt f) ts rest
    by_start (inl h) = inl h
    by_start (inr e) = inr (refl, e.1)
starts (many f) ts rest xs r = by_list xs ts r (λ us mid x. starts f us mid x)
  where
    by_list : (xs : List _) (ts : List Tok) → ManyReads (Reads f) ts xs rest → ((us mid : List Tok) (x : _) → Reads f us x mid → Begun f us mid) → Begun (many f) ts rest
    by_list [] ts r one = inr (refl, r)
    by_list (x ∷ xs) ts r one = by_start (one ts r.0 x r.1) (by_list xs r.0 r.2 one)
      where
        by_start : Begun f ts r.0 → Begun (many f) r.0 rest → Begun (many f) ts rest
        by_start (inl h) q = inl h
        by_start (inr e) (inl h) = inl (ap (meets (first f)) e.1 ∙ h)
        by_start (inr e) (inr d) = inr (refl, e.1 ∙ d.1)
starts (via to f) ts rest y r = starts f ts rest r.0 r.1
starts (part ls ms w p) ts rest x r = inl (p.laws.begins ts rest x r)

pub told_both : {X Y : Type 0} (f : Format X) (g : Format Y) → told (both f g) ≡ true → (told f ≡ true) × (told g ≡ true) × (disjoint (goes_on f) (first g) ≡ true)
unfolding told
told_both f g k =
    let a = both_true (told f && told g) (disjoint (goes_on f) (first g)) k in
    let b = both_true (told f) (told g) a.0 in (b.0, b.1, a.1)

pub told_choose : {X : Type 0} (f g : Format X) → told (choose f g) ≡ true → (told f ≡ true) × (told g ≡ true) × (empty f ≡ false) × (disjoint (first f) (first g) ≡ true)
unfolding told
told_choose f g k =
    let a = both_true (told f && told g && not (empty f)) (disjoint (first f) (first g)) k in
    let b = both_true (told f && told g) (not (empty f)) a.0 in
    let c = both_true (told f) (told g) b.0 in (c.0, c.1, not_true (empty f) b.1, a.1)

pub told_opt : {X : Type 0} (f : Format X) → told (opt f) ≡ true → (told f ≡ true) × (empty f ≡ false)
unfolding told
told_opt f k =
    let a = both_true (told f) (not (empty f)) k in (a.0, not_true (empty f) a.1)

pub told_many : {X : Type 0} (f : Format X) → told (many f) ≡ true → (told f ≡ true) × (empty f ≡ false) × (disjoint (goes_on f) (first f) ≡ true)
unfolding told
told_many f k =
    let a = both_true (told f && not (empty f)) (disjoint (goes_on f) (first f)) k in
    let b = both_true (told f) (not (empty f)) a.0 in (b.0, not_true (empty f) b.1, a.1)

pub told_via : {X Y : Type 0} (to : X → Y) (f : Format X) → told (via to f) ≡ true → told f ≡ true
unfolding told
told_via to f k = k

-- where an empty one may end, it does not begin
pub ended : {X : Type 0} (f : Format X) (ts : List Tok) → told f ≡ true → empty f ≡ true → meets (goes_on f) ts ≡ false → meets (first f) ts ≡ false
unfolding first empty goes_on
ended (tok l _) ts k e h = cc
ended (both f g) ts k e h =
    let b = both_true (empty f) (empty g) e in
    let t = told_both f g k in
    by_empty (empty f) (ended f ts t.0 b.0 (if_both (empty g) (goes_on g) (goes_on f) ts b.1 h)) (ended g ts t.1 b.1 (if_one (empty g) (goes_on g) (goes_on f) ts h))
  where
    by_empty : (b : Bool) → meets (first f) ts ≡ false → meets (first g) ts ≡ false → meets (cond b (first f ++ first g) (first f)) ts ≡ false
    by_empty true p q = meets_both (first f) (first g) ts p q
    by_empty false p q = p
ended (choose f g) ts k e h =
    let t = told_choose f g k in
    let eg = second (empty f) (empty g) t.2 e in
    let s = side (empty g) eg h in
    meets_both (first f) (first g) ts s.0 (ended g ts t.1 eg s.1)
  where
    second : (b c : Bool) → b ≡ false → (b || c) ≡ true → c ≡ true
    second true c x y = cc
    second false c x y = y

    side : (b : Bool) → b ≡ true → meets (cond b (goes_on f ++ (first f ++ goes_on g)) (goes_on f ++ goes_on g)) ts ≡ false → (meets (first f) ts ≡ false) × (meets (goes_on g) ts ≡ false)
    side true x h = meets_none (first f) (goes_on g) ts (meets_none (goes_on f) (first f ++ goes_on g) ts h).1
    side false x h = cc
ended (opt f) ts k e h = (meets_none (first f) (goes_on f) ts h).0
ended (many f) ts k e h = (meets_none (first f) (goes_on f) ts h).0
ended (via to f) ts k e h = ended f ts (told_via to f k) e h
ended (part ls ms w p) ts k e h = cc

-- what is read is a front of the tokens, and is read so before all others
pub local : {X : Type 0} (f : Format X) (ts rest : List Tok) (x : X) → Reads f ts x rest → (front : List Tok) × (ts ≡ front ++ rest) × ((r : List Tok) → Reads f (front ++ r) x r)
unfolding Reads
local (tok l _) ts rest x r = (x ∷ [], r.1, λ q. (r.0, refl))
local (both f g) ts rest x r =
    let a = local f ts r.0 x.0 r.1 in
    let b = local g r.0 rest x.1 r.2 in
    (a.0 ++ b.0, a.1 ∙ ap (λ l. a.0 ++ l) b.1 ∙ sym (append_assoc a.0 b.0 rest), λ q. (b.0 ++ q, subst (λ l. Reads f l x.0 (b.0 ++ q)) (sym (append_assoc a.0 b.0 q)) (a.2 (b.0 ++ q)), b.2 q))
local (choose f g) ts rest x (inl r) = let a = local f ts rest x r in (a.0, a.1, λ q. inl (a.2 q))
local (choose f g) ts rest x (inr r) = let a = local g ts rest x r in (a.0, a.1, λ q. inr (a.2 q))
local (opt f) ts rest None r = ([], r, λ q. refl)
local (opt f) ts rest (Some x) r = local f ts rest x r
local (many f) ts rest xs r = by_list xs ts r (λ us mid x. local f us mid x)
  where
    by_list : (xs : List _) (ts : List Tok) → ManyReads (Reads f) ts xs rest → ((us mid : List Tok) (x : _) → Reads f us x mid → (front : List Tok) × (us ≡ front ++ mid) × ((r : List Tok) → Reads f (front ++ r) x r)) → (front : List Tok) × (ts ≡ front ++ rest) × ((r : List Tok) → ManyReads (Reads f) (front ++ r) xs r)
    by_list [] ts r one = ([], r, λ q. refl)
    by_list (x ∷ xs) ts r one =
        let a = one ts r.0 x r.1 in
        let b = by_list xs r.0 r.2 one in
        (a.0 ++ b.0, a.1 ∙ ap (λ l. a.0 ++ l) b.1 ∙ sym (append_assoc a.0 b.0 rest), λ q. (b.0 ++ q, subst (λ l. Reads f l x (b.0 ++ q)) (sym (append_assoc a.0 b.0 q)) (a.2 (b.0 ++ q)), b.2 q))
local (via to f) ts rest y r = let a = local f ts rest r.0 r.1 in (a.0, a.1, λ q. (r.0, a.2 q, r.2))
local (part ls ms w p) ts rest x r = p.laws.local ts rest x r

-- it has a token where it is not empty
pub shorter : {X : Type 0} (f : Format X) (ts rest : List Tok) (x : X) → empty f ≡ false → Reads f ts x rest → length rest < length ts
shorter f ts rest x e r = let a = local f ts rest x r in by_front a.0 a.1 (a.2 [])
  where
    by_front : (front : List Tok) → ts ≡ front ++ rest → Reads f (front ++ []) x [] → length rest < length ts
    by_front [] is r = by_start (starts f [] [] x r)
      where
        by_start : Begun f [] [] → length rest < length ts
        by_start (inl h) = cc
        by_start (inr d) = absurd (clash (empty f) d.0 e)
    by_front (u ∷ us) is r = omega (arith, ap length is, length-append us rest)

many_length : {X : Type 0} (R : Reading X) → ((ts mid : List Tok) (x : X) → R ts x mid → length mid < length ts) → (xs : List X) (ts rest : List Tok) → ManyReads R ts xs rest → length xs + length rest ≤ length ts
many_length R size [] ts rest r = omega (arith, ap length r)
many_length R size (x ∷ xs) ts rest r = omega (arith, size ts r.0 x r.1, many_length R size xs r.0 rest r.2)

many_complete : {X : Type 0} (R : Reading X) (ls ms : List Look) (step : List Tok → Read X) → ((ts mid : List Tok) (x : X) → R ts x mid → meets ls ts ≡ true) → disjoint ms ls ≡ true → ((ts mid : List Tok) (x : X) → R ts x mid → meets ms mid ≡ false → step ts ≡ Ok (x, mid)) → (xs : List X) (ts rest : List Tok) → ManyReads R ts xs rest → meets ls rest ≡ false → meets ms rest ≡ false → (n : ℕ) → length xs < n → more_at n (begin ls) step ts ≡ Ok (xs, rest)
unfolding more_at
many_complete R ls ms step begins apart one xs ts rest r h k zero lt = absurd (omega arith)
many_complete {X} R ls ms step begins apart one [] ts rest r h k (suc n) lt = turn
  where
    turn : more_at (suc n) (begin ls) step ts ≡ Ok ([], rest)
    turn =
        ap (λ b. go_on (cond b (Some ts) None) (got ([], ts)) (λ b. step b >>= λ x. more_at n (begin ls) step x.1 >>= λ xs. Ok (x.0 ∷ xs.0, xs.1))) (ap (meets ls) r ∙ h)
        ∙ ap (λ l. got ([], l)) r
many_complete R ls ms step begins apart one (x ∷ xs) ts rest r h k (suc n) lt =
    turn (many_complete R ls ms step begins apart one xs r.0 rest r.2 h k n (omega arith)) (one ts r.0 x r.1 (after xs r.2))
  where
    after : (xs : List _) → ManyReads R r.0 xs rest → meets ms r.0 ≡ false
    after [] s = ap (meets ms) s ∙ k
    after (y ∷ ys) s = disjoint-meets_back ms ls r.0 apart (begins r.0 s.0 y s.1)

    turn : more_at n (begin ls) step r.0 ≡ Ok (xs, rest) → step ts ≡ Ok (x, r.0) → more_at (suc n) (begin ls) step ts ≡ Ok (x ∷ xs, rest)
    turn more now =
        ap (λ b. go_on (cond b (Some ts) None) (got ([], ts)) (λ b. step b >>= λ x. more_at n (begin ls) step x.1 >>= λ xs. Ok (x.0 ∷ xs.0, xs.1))) (begins ts r.0 x r.1)
        ∙ ap (λ s. s >>= λ x. more_at n (begin ls) step x.1 >>= λ xs. Ok (x.0 ∷ xs.0, xs.1)) now
        ∙ ap (λ s. s >>= λ xs. Ok (x ∷ xs.0, xs.1)) more

-- what the relation gives is read, where the next token does not go on with it
pub complete : {X : Type 0} (f : Format X) (ts rest : List Tok) (x : X) → told f ≡ true → Reads f ts x rest → meets (goes_on f) rest ≡ false → read f ts ≡ Ok (x, rest)
unfolding Reads read goes_on tok_at
complete (tok l _) ts rest x k r h =
    ap (tok_at l) r.1 ∙ ap (λ b. cond b (got (x, rest)) (Err (x ∷ rest))) r.0
complete (both f g) ts rest x k r h =
    let t = told_both f g k in
    let now = complete f ts r.0 x.0 t.0 r.1 (by_start (starts g r.0 rest x.1 r.2)) in
    let more = complete g r.0 rest x.1 t.1 r.2 (if_one (empty g) (goes_on g) (goes_on f) rest h) in
    ap (λ s. s >>= λ a. read g a.1 >>= λ b. Ok ((a.0, b.0), b.1)) now ∙ ap (λ s. s >>= λ b. Ok ((x.0, b.0), b.1)) more
  where
    by_start : Begun g r.0 rest → meets (goes_on f) r.0 ≡ false
    by_start (inl s) = disjoint-meets_back (goes_on f) (first g) r.0 (told_both f g k).2 s
    by_start (inr d) = ap (meets (goes_on f)) d.1 ∙ if_both (empty g) (goes_on g) (goes_on f) rest d.0 h
complete (choose f g) ts rest x k (inl r) h =
    let t = told_choose f g k in
    ap (λ b. cond b (read f ts) (read g ts)) (by_start (starts f ts rest x r)) ∙ complete f ts rest x t.0 r (side (empty g) h)
  where
    by_start : Begun f ts rest → meets (first f) ts ≡ true
    by_start (inl s) = s
    by_start (inr d) = absurd (clash (empty f) d.0 (told_choose f g k).2)

    side : (b : Bool) → meets (cond b (goes_on f ++ (first f ++ goes_on g)) (goes_on f ++ goes_on g)) rest ≡ false → meets (goes_on f) rest ≡ false
    side true h = (meets_none (goes_on f) (first f ++ goes_on g) rest h).0
    side false h = (meets_none (goes_on f) (goes_on g) rest h).0
complete (choose f g) ts rest x k (inr r) h =
    let t = told_choose f g k in
    ap (λ b. cond b (read f ts) (read g ts)) (by_start (starts g ts rest x r)) ∙ complete g ts rest x t.1 r (side (empty g) h)
  where
    open_side : (b : Bool) → b ≡ true → meets (cond b (goes_on f ++ (first f ++ goes_on g)) (goes_on f ++ goes_on g)) rest ≡ false → meets (first f) rest ≡ false
    open_side true e h = (meets_none (first f) (goes_on g) rest (meets_none (goes_on f) (first f ++ goes_on g) rest h).1).0
    open_side false e h = cc

    by_start : Begun g ts rest → meets (first f) ts ≡ false
    by_start (inl s) = disjoint-meets_back (first f) (first g) ts (told_choose f g k).3 s
    by_start (inr d) = ap (meets (first f)) d.1 ∙ open_side (empty g) d.0 h

    side : (b : Bool) → meets (cond b (goes_on f ++ (first f ++ goes_on g)) (goes_on f ++ goes_on g)) rest ≡ false → meets (goes_on g) rest ≡ false
    side true h = (meets_none (first f) (goes_on g) rest (meets_none (goes_on f) (first f ++ goes_on g) rest h).1).1
    side false h = (meets_none (goes_on f) (goes_on g) rest h).1
complete (opt {X} f) ts rest None k r h =
    ap (λ b. cond b (read f ts >>= λ x. Ok (Some x.0, x.1)) (Ok (None, ts))) (ap (meets (first f)) r ∙ (meets_none (first f) (goes_on f) rest h).0)
    ∙ ap (λ l. Ok (None, l)) r
complete (opt f) ts rest (Some x) k r h =
    let t = told_opt f k in
    ap (λ b. cond b (read f ts >>= λ x. Ok (Some x.0, x.1)) (Ok (None, ts))) (by_start (starts f ts rest x r))
    ∙ ap (λ s. s >>= λ x. Ok (Some x.0, x.1)) (complete f ts rest x t.0 r (meets_none (first f) (goes_on f) rest h).1)
  where
    by_start : Begun f ts rest → meets (first f) ts ≡ true
    by_start (inl s) = s
    by_start (inr d) = absurd (clash (empty f) d.0 (told_opt f k).1)
complete (many f) ts rest xs k r h =
    let t = told_many f k in
    let m = meets_none (first f) (goes_on f) rest h in
    many_complete (Reads f) (first f) (goes_on f) (read f) (λ us mid x q. by_start us mid (starts f us mid x q)) t.2 (λ us mid x q s. complete f us mid x t.0 q s) xs ts rest r m.0 m.1 (length ts + 1) (omega (arith, many_length (Reads f) (λ us mid x q. shorter f us mid x t.1 q) xs ts rest r))
  where
    by_start : (us mid : List Tok) → Begun f us mid → meets (first f) us ≡ true
    by_start us mid (inl s) = s
    by_start us mid (inr d) = absurd (clash (empty f) d.0 (told_many f k).1)
complete (via to f) ts rest y k r h =
    ap (λ s. s >>= λ x. Ok (to x.0, x.1)) (complete f ts rest r.0 (told_via to f k) r.1 h) ∙ ap (λ y. Ok (y, rest)) r.2
complete (part ls ms w p) ts rest x k r h = p.laws.complete ts rest x r h

many_sound : {X : Type 0} (R : Reading X) (ls : List Look) (step : List Tok → Read X) → ((ts : List Tok) (x : X × List Tok) → step ts ≡ Ok x → R ts x.0 x.1) → (n : ℕ) (ts : List Tok) (y : List X × List Tok) → more_at n (begin ls) step ts ≡ Ok y → ManyReads R ts y.0 y.1
unfolding more_at
many_sound R ls step one zero ts y e = cc
many_sound {X} R ls step one (suc m) ts y e = by_meets (λ t z h. many_sound R ls step one m t z h) (meets ls ts) e
  where
    by_meets : ((t : List Tok) (z : List X × List Tok) → more_at m (begin ls) step t ≡ Ok z → ManyReads R t z.0 z.1) → (b : Bool) → go_on (cond b (Some ts) None) (Ok ([], ts)) (λ b. step b >>= λ x. more_at m (begin ls) step x.1 >>= λ xs. Ok (x.0 ∷ xs.0, xs.1)) ≡ Ok y → ManyReads R ts y.0 y.1
    by_meets more false e = carried (λ xs rest. ManyReads R ts xs rest) ([], ts) y e refl
    by_meets more true e =
        let x = bound (step ts) _ y e in
        let xs = bound (more_at m (begin ls) step x.0.1) _ y x.2 in
        carried (λ l rest. ManyReads R ts l rest) (x.0.0 ∷ xs.0.0, xs.0.1) y xs.2 (x.0.1, one ts x.0 x.1, more x.0.1 xs.0 xs.1)

tok_sound : (l : Look) (ts : List Tok) (y : Tok × List Tok) → tok_at l ts ≡ Ok y → (sees l y.0 ≡ true) × (ts ≡ y.0 ∷ y.1)
unfolding tok_at
tok_sound l [] y e = cc
tok_sound l (u ∷ us) y e = by_sees (sees l u) refl e
  where
    by_sees : (b : Bool) → sees l u ≡ b → cond b (got (u, us)) (Err (u ∷ us)) ≡ Ok y → (sees l y.0 ≡ true) × (u ∷ us ≡ y.0 ∷ y.1)
    by_sees true s e = carried (λ v rest. (sees l v ≡ true) × (u ∷ us ≡ v ∷ rest)) (u, us) y e (s, refl)
    by_sees false s e = cc

-- what is read the relation gives
pub sound : {X : Type 0} (f : Format X) (ts : List Tok) (y : X × List Tok) → read f ts ≡ Ok y → Reads f ts y.0 y.1
unfolding Reads read
sound (tok l _) ts y e = tok_sound l ts y e
sound (both f g) ts y e =
    let a = bound (read f ts) _ y e in
    let b = bound (read g a.0.1) _ y a.2 in
    carried (λ x rest. (mid : List Tok) × Reads f ts x.0 mid × Reads g mid x.1 rest) ((a.0.0, b.0.0), b.0.1) y b.2 (a.0.1, sound f ts a.0 a.1, sound g a.0.1 b.0 b.1)
sound (choose f g) ts y e = by_meets (meets (first f) ts) (sound f ts y) (sound g ts y) e
  where
    by_meets : (b : Bool) → (read f ts ≡ Ok y → Reads f ts y.0 y.1) → (read g ts ≡ Ok y → Reads g ts y.0 y.1) → cond b (read f ts) (read g ts) ≡ Ok y → Reads f ts y.0 y.1 ⊎ Reads g ts y.0 y.1
    by_meets true p q e = inl (p e)
    by_meets false p q e = inr (q e)
sound (opt {X} f) ts y e = by_meets (meets (first f) ts) (λ z h. sound f ts z h) e
  where
    by_meets : (b : Bool) → ((z : X × List Tok) → read f ts ≡ Ok z → Reads f ts z.0 z.1) → cond b (read f ts >>= λ x. Ok (Some x.0, x.1)) (Ok (None, ts)) ≡ Ok y → OptReads (Reads f) ts y.0 y.1
    by_meets true p e =
        let a = bound (read f ts) _ y e in
        carried (λ x rest. OptReads (Reads f) ts x rest) (Some a.0.0, a.0.1) y a.2 (p a.0 a.1)
    by_meets false p e = carried (λ x rest. OptReads (Reads f) ts x rest) (None, ts) y e refl
sound (many f) ts y e =
    many_sound (Reads f) (first f) (read f) (λ us x h. sound f us x h) (length ts + 1) ts y e
sound (via to f) ts y e =
    let a = bound (read f ts) _ y e in
    carried (λ z rest. (x : _) × Reads f ts x rest × (to x ≡ z)) (to a.0.0, a.0.1) y a.2 (a.0.0, sound f ts a.0 a.1, refl)
sound (part ls ms w p) ts y e = p.laws.sound ts y e

-- a whole list reads as one value at most
pub unique : {X : Type 0} (f : Format X) (ts : List Tok) (x y : X) → told f ≡ true → Reads f ts x [] → Reads f ts y [] → x ≡ y
unique f ts x y k a b =
    carried (λ z rest. x ≡ z) (x, []) (y, []) (sym (complete f ts [] x k a refl) ∙ complete f ts [] y k b refl) refl
