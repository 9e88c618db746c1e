-- Names of a kind, counted until there is no room.
use Rattle.std.proofs.Common.{◌≡◌, ℕ, zero, suc, ◌+◌, ◌-◌, ◌<◌, ◌≤◌, nat_lt, length, map, get_or, Bool, true, false, not, cond, List, [], ◌∷◌, ◌++◌, Option, Some, None, option_map, is_some, refl, sym, ap, subst, ◌∙◌, append-nil, append_assoc, arith}
use Rattle.std.specs.Prelude.{if◌then◌else◌}
use Rattle.std.proofs.lemmas.Bool.Decides.{nat_tests}
use Rattle.mp_statements.specs.declared.kind.NameKind.{NameKind}
use Rattle.mp_statements.specs.declared.kind.NameKind.TheVariants as kind
use Rattle.mp_statements.specs.Parts.{is_kind}
use Rattle.mp_syntax.specs.Syntax.{Named}
use Rattle.mp_declared.specs.Many.{most_names, count_kind, first_beyond}
use Rattle.mp_local.specs.declared.many.Beyond.{Beyond}
use Rattle.mp_local.specs.declared.many.Room.{Room}
use Rattle.mp_local.specs.Many.{room_for, beyond_of, Leaves, Passes}

pub same_kind : (k : NameKind) → is_kind k k ≡ true
same_kind kind.Endogenous = refl
same_kind kind.Exogenous = refl
same_kind kind.Parameter = refl

count-append : (k : NameKind) (xs ys : List (NameKind × Named)) → count_kind k (xs ++ ys) ≡ count_kind k xs + count_kind k ys
count-append k [] ys = omega arith
count-append k (x ∷ xs) ys = by (is_kind k x.0) (count-append k xs ys)
  where
    by : (b : Bool) → count_kind k (xs ++ ys) ≡ count_kind k xs + count_kind k ys → cond b (1 + count_kind k (xs ++ ys)) (count_kind k (xs ++ ys)) ≡ cond b (1 + count_kind k xs) (count_kind k xs) + count_kind k ys
    by true e = omega (arith, e)
    by false e = e

-- names of one kind
abbrev pub of_kind : NameKind → List Named → List (NameKind × Named)
of_kind k names = map (λ n. (k, n)) names

pub count_of_kind : (j k : NameKind) (names : List Named) → count_kind j (of_kind k names) ≡ (if is_kind j k then length names else 0)
count_of_kind j k [] = by (is_kind j k)
  where
    by : (b : Bool) → zero ≡ cond b zero zero
    by true = refl
    by false = refl
count_of_kind j k (n ∷ names) = by (is_kind j k) (count_of_kind j k names)
  where
    by : (b : Bool) → count_kind j (of_kind k names) ≡ cond b (length names) 0 → cond b (1 + count_kind j (of_kind k names)) (count_kind j (of_kind k names)) ≡ cond b (suc (length names)) 0
    by true e = omega (arith, e)
    by false e = e

-- one name more of the kind
one_more : (k : NameKind) (before : List (NameKind × Named)) (n : Named) → count_kind k (before ++ (k, n) ∷ []) ≡ suc (count_kind k before)
one_more k before n =
    let e : count_kind k ((k, n) ∷ []) ≡ 1 = ap (λ (b : Bool). cond b (1 + 0) 0) (same_kind k) in
    omega (arith, count-append k before ((k, n) ∷ []), e)

-- there is room for all of them
pub fit : (k : NameKind) (before : List (NameKind × Named)) (names : List Named) (left : ℕ) → left + count_kind k before ≡ most_names k → length names ≤ left → first_beyond before (of_kind k names) ≡ None
fit k before [] left room within = refl
fit k before (n ∷ names) left room within =
    let low : nat_lt (count_kind k before) (most_names k) ≡ true = grind (arith, nat_tests) in
    ap (λ (b : Bool). cond (not b) (Some (k, n)) (first_beyond (before ++ (k, n) ∷ []) (of_kind k names))) low
    ∙ fit k (before ++ (k, n) ∷ []) names (left - 1) (omega (arith, room, within, one_more k before n)) (omega arith)

-- there is none for the one at this place
pub beyond_at : (k : NameKind) (before : List (NameKind × Named)) (names : List Named) (left : ℕ) (d : Named) → left + count_kind k before ≡ most_names k → left < length names → first_beyond before (of_kind k names) ≡ Some (k, get_or names left d)
beyond_at k before [] left d room within = absurd (omega arith)
beyond_at k before (n ∷ names) zero d room within =
    let full : nat_lt (count_kind k before) (most_names k) ≡ false = grind (arith, nat_tests) in
    ap (λ (b : Bool). cond (not b) (Some (k, n)) (first_beyond (before ++ (k, n) ∷ []) (of_kind k names))) full
beyond_at k before (n ∷ names) (suc left) d room within =
    let low : nat_lt (count_kind k before) (most_names k) ≡ true = grind (arith, nat_tests) in
    ap (λ (b : Bool). cond (not b) (Some (k, n)) (first_beyond (before ++ (k, n) ∷ []) (of_kind k names))) low
    ∙ beyond_at k (before ++ (k, n) ∷ []) names left d (omega (arith, room, one_more k before n)) (omega arith)

-- ---- names, and then others

beyond-none : (before xs ys : List (NameKind × Named)) → first_beyond before xs ≡ None → first_beyond before (xs ++ ys) ≡ first_beyond (before ++ xs) ys
beyond-none before [] ys none = ap (λ l. first_beyond l ys) (sym (append-nil before))
beyond-none before (x ∷ xs) ys none = by (nat_lt (count_kind x.0 before) (most_names x.0)) (beyond-none (before ++ x ∷ []) xs ys) none
  where
    by : (b : Bool) → (first_beyond (before ++ x ∷ []) xs ≡ None → first_beyond (before ++ x ∷ []) (xs ++ ys) ≡ first_beyond ((before ++ x ∷ []) ++ xs) ys) → cond (not b) (Some x) (first_beyond (before ++ x ∷ []) xs) ≡ None → cond (not b) (Some x) (first_beyond (before ++ x ∷ []) (xs ++ ys)) ≡ first_beyond (before ++ x ∷ xs) ys
    by true further h = further h ∙ ap (λ l. first_beyond l ys) (append_assoc before (x ∷ []) xs)
    by false further h = absurd cc

beyond-some : (y : NameKind × Named) (before xs ys : List (NameKind × Named)) → first_beyond before xs ≡ Some y → first_beyond before (xs ++ ys) ≡ Some y
beyond-some y before [] ys some = absurd cc
beyond-some y before (x ∷ xs) ys some = by (nat_lt (count_kind x.0 before) (most_names x.0)) (beyond-some y (before ++ x ∷ []) xs ys) some
  where
    by : (b : Bool) → (first_beyond (before ++ x ∷ []) xs ≡ Some y → first_beyond (before ++ x ∷ []) (xs ++ ys) ≡ Some y) → cond (not b) (Some x) (first_beyond (before ++ x ∷ []) xs) ≡ Some y → cond (not b) (Some x) (first_beyond (before ++ x ∷ []) (xs ++ ys)) ≡ Some y
    by true further h = further h
    by false further h = h

-- ---- the room that is left

pub leaves_names : (room left : Room) (k : NameKind) (names : List Named) (before : List (NameKind × Named)) → length names ≤ room_for k room → ((j : NameKind) → room_for j left ≡ (if is_kind j k then room_for j room - length names else room_for j room)) → ((j : NameKind) → is_kind j k ≡ true → room_for j room ≡ room_for k room) → Leaves room before → Leaves left (before ++ of_kind k names)
leaves_names room left k names before within takes same leaves j = by (is_kind j k) refl (takes j) (count_of_kind j k names) (count-append j before (of_kind k names)) (leaves j)
  where
    by : (b : Bool) → is_kind j k ≡ b → room_for j left ≡ cond b (room_for j room - length names) (room_for j room) → count_kind j (of_kind k names) ≡ cond b (length names) 0 → count_kind j (before ++ of_kind k names) ≡ count_kind j before + count_kind j (of_kind k names) → room_for j room + count_kind j before ≡ most_names j → room_for j left + count_kind j (before ++ of_kind k names) ≡ most_names j
    by true one e f g h = let s = same j one in omega (arith, e, f, g, h, s, within)
    by false other e f g h = omega (arith, e, f, g, h)

same_room : (room : Room) (j k : NameKind) → is_kind j k ≡ true → room_for j room ≡ room_for k room
same_room room kind.Endogenous kind.Endogenous h = refl
same_room room kind.Endogenous kind.Exogenous h = absurd cc
same_room room kind.Endogenous kind.Parameter h = absurd cc
same_room room kind.Exogenous kind.Endogenous h = absurd cc
same_room room kind.Exogenous kind.Exogenous h = refl
same_room room kind.Exogenous kind.Parameter h = absurd cc
same_room room kind.Parameter kind.Endogenous h = absurd cc
same_room room kind.Parameter kind.Exogenous h = absurd cc
same_room room kind.Parameter kind.Parameter h = refl

-- ---- one statement

pub passes_names : (before : List (NameKind × Named)) (room left : Room) (k : NameKind) (names : List Named) → length names ≤ room_for k room → ((j : NameKind) → room_for j left ≡ (if is_kind j k then room_for j room - length names else room_for j room)) → Passes before room (of_kind k names) left None
passes_names before room left k names within takes leaves =
    (fit k before names (room_for k room) (leaves k) within, leaves_names room left k names before within takes (λ j. same_room room j k) leaves)

pub passes_nothing : (before : List (NameKind × Named)) (room : Room) → Passes before room [] room None
passes_nothing before room leaves = (refl, subst (Leaves room) (sym (append-nil before)) leaves)

-- ---- several statements

pub passes_further : (before xs ys : List (NameKind × Named)) (room left new : Room) (y : Option Beyond) → Passes before room xs left None → Passes (before ++ xs) left ys new y → Passes before room (xs ++ ys) new y
passes_further before xs ys room left new None a b =
    λ leaves.
    let p = a leaves in
    let q = b p.1 in
    (beyond-none before xs ys p.0 ∙ q.0, subst (Leaves new) (append_assoc before xs ys) q.1)
passes_further before xs ys room left new (Some y) a b = λ leaves. let p = a leaves in beyond-none before xs ys p.0 ∙ b p.1

pub passes_found : (before xs ys : List (NameKind × Named)) (room left new : Room) (y : Option Beyond) → is_some y ≡ true → Passes before room xs left y → Passes before room (xs ++ ys) new y
passes_found before xs ys room left new None some h = absurd cc
passes_found before xs ys room left new (Some y) some h = λ leaves. beyond-some (beyond_of y) before xs ys (h leaves)

pub passes_none : (before xs : List (NameKind × Named)) (room left : Room) (y : Option Beyond) → is_some y ≡ false → Passes before room xs left y → Passes before room xs left None
passes_none before xs room left None none h = h
passes_none before xs room left (Some y) none h = absurd cc

-- the same names under another list
pub same_names : (before : List (NameKind × Named)) (room left : Room) (xs ys : List (NameKind × Named)) (y : Option Beyond) → xs ≡ ys → Passes before room ys left y → Passes before room xs left y
same_names before room left xs ys y is h = subst (λ l. Passes before room l left y) (sym is) h

-- ---- a whole file

pub told : (before xs : List (NameKind × Named)) (room left : Room) (y : Option Beyond) → Leaves room before → Passes before room xs left y → option_map beyond_of y ≡ first_beyond before xs
told before xs room left None leaves h = sym (h leaves).0
told before xs room left (Some y) leaves h = sym (h leaves)

-- nothing is declared yet
pub leaves_all : (room : Room) → room.endogenous ≡ 200 → room.exogenous ≡ 1000 → room.parameters ≡ 1000 → Leaves room []
leaves_all room a b c kind.Endogenous = omega (arith, a)
leaves_all room a b c kind.Exogenous = omega (arith, b)
leaves_all room a b c kind.Parameter = omega (arith, c)
