-- The steps of a search, and of lists that grow.
use Rattle.std.proofs.Common.{◌≡◌, ◌<◌, ◌≤◌, ◌+◌, inl, inr, ℕ, Bool, true, false, List, [], ◌∷◌, ◌++◌, length, get_or, set, refl, sym, ap, ◌∙◌, subst, arith}
use Rattle.std.proofs.lemmas.Bool.{cases_eq, cases_lt, true≢false}
use Rattle.std.proofs.lemmas.List.{get_or_append_left, get_or_push, length_push, length-set, get_or-set_same, get_or-set_other, get_or_default}
use Rattle.mp_pairing.specs.Lists.{Has, IsOnce, IsRising, IsMarked}
use Rattle.mp_incidence.specs.Tables.{cell}
use Rattle.mp_incidence.specs.Search.{LeadTo, IsSearched}
use Rattle.mp_incidence.proofs.Pigeon.{length-le}

-- what holds of each item and of the one that is appended
pub at_push : (P : ℕ → ℕ → Type 0) (xs : List ℕ) (y : ℕ) → ((j : ℕ) → j < length xs → P j (get_or xs j 0)) → P (length xs) y
    → (j : ℕ) → j < length (xs ++ y ∷ []) → P j (get_or (xs ++ y ∷ []) j 0)
at_push P xs y each last j h =
    let n = length_push xs y in
    elim (cases_lt j (length xs)) [
      | inl l ↦ subst (λ v. P j v) (sym (get_or_append_left xs (y ∷ []) 0 j l)) (each j l)
      | inr l ↦ let e : length xs ≡ j = omega arith in subst (λ v. P j v) (sym (get_or_push xs y 0 j e)) (subst (λ k. P k y) e last)
    ]

pub has_push : (xs : List ℕ) (x y : ℕ) → Has xs x → Has (xs ++ y ∷ []) x
has_push xs x y h = (h.0, (let n = length_push xs y in omega (arith, h.1)), get_or_append_left xs (y ∷ []) 0 h.0 h.1 ∙ h.2)

pub has_last : (xs : List ℕ) (y : ℕ) → Has (xs ++ y ∷ []) y
has_last xs y = (length xs, (let n = length_push xs y in omega arith), get_or_push xs y 0 (length xs) refl)

old_at : (xs : List ℕ) (y i : ℕ) → i < length xs → get_or (xs ++ y ∷ []) i 0 ≡ get_or xs i 0
old_at xs y i h = get_or_append_left xs (y ∷ []) 0 i h

pub once_push : (xs : List ℕ) (y : ℕ) → IsOnce xs → ((k : ℕ) → k < length xs → get_or xs k 0 ≡ y → ⊥) → IsOnce (xs ++ y ∷ [])
once_push xs y once none i j h l e =
    let n = length_push xs y in
    elim (cases_lt i (length xs)) [
      | inl a ↦ elim (cases_lt j (length xs)) [
        | inl b ↦ once i j a b (sym (old_at xs y i a) ∙ e ∙ old_at xs y j b)
        | inr b ↦ absurd (none i a (sym (old_at xs y i a) ∙ e ∙ get_or_push xs y 0 j (omega arith)))
      ]
      | inr a ↦ elim (cases_lt j (length xs)) [
        | inl b ↦ absurd (none j b (sym (old_at xs y j b) ∙ sym e ∙ get_or_push xs y 0 i (omega arith)))
        | inr b ↦ omega arith
      ]
    ]

pub rising_push : (xs : List ℕ) (y : ℕ) → IsRising xs → ((k : ℕ) → k < length xs → get_or xs k 0 < y) → IsRising (xs ++ y ∷ [])
rising_push xs y rising below i j h l =
    let n = length_push xs y in
    at_push (λ k v. i < k → get_or (xs ++ y ∷ []) i 0 < v) xs y
    (λ k m less. subst (λ u. u < get_or xs k 0) (sym (get_or_append_left xs (y ∷ []) 0 i (omega arith))) (rising i k less m))
    (λ less. subst (λ u. u < y) (sym (get_or_append_left xs (y ∷ []) 0 i less)) (below i less))
    j l h

pub set_true : (s : List Bool) (a x : ℕ) → a < length s → get_or s x false ≡ true → get_or (set s a true) x false ≡ true
set_true s a x h e =
    elim (cases_eq x a) [
      | inl same ↦ rw same (get_or-set_same s a true false h)
      | inr ne ↦ get_or-set_other s a x true false ne ∙ e
    ]

-- one more place is looked at, and was seen or does not link
pub skipped : (t : List (List Bool)) (start at a : ℕ) (s : List Bool) (ns vs : List ℕ) → IsSearched t start at a s ns vs
    → (cell t a (get_or ns at 0) ≡ true → get_or s a false ≡ true) → IsSearched t start at (a + 1) s ns vs
skipped t start at a s ns vs w known = record {
  size = w.size;
  some = w.some;
  first = w.first;
  count = w.count;
  sound = w.sound;
  within = w.within;
  marked = w.marked;
  once = w.once;
  earlier = w.earlier;
  linked = w.linked;
  closed = w.closed;
  turn = λ x h l m e. elim (cases_eq x a) [
    | inl same ↦ subst (λ k. get_or s k false ≡ true) (sym same) (known (subst (λ k. cell t k (get_or ns at 0) ≡ true) same e))
    | inr ne ↦ w.turn x (omega arith) l m e
  ];
}

-- one more place is added
pub added : (t : List (List Bool)) (start at a : ℕ) (s : List Bool) (ns vs : List ℕ) → IsSearched t start at a s ns vs
    → a < length t → at < length ns → get_or s a false ≡ false → cell t a (get_or ns at 0) ≡ true
    → IsSearched t start at (a + 1) (set s a true) (ns ++ a ∷ []) (vs ++ at ∷ [])
added t start at a s ns vs w within here new link =
    let size = w.size in
    let room : a < length s = omega arith in
    let n = length_push ns a in
    let m = length_push vs at in
    let none : (k : ℕ) → k < length ns → get_or ns k 0 ≡ a → ⊥ =
    λ k h e. true≢false (sym (subst (λ x. get_or s x false ≡ true) e (w.marked k h)) ∙ new) in
    record {
      size = length-set s a true ∙ w.size;
      some = omega arith;
      first = old_at ns a 0 w.some ∙ w.first;
      count = (let c = w.count in omega arith);
      sound = λ x h e. elim (cases_eq x a) [
        | inl same ↦ subst (λ k. Has (ns ++ a ∷ []) k) (sym same) (has_last ns a)
        | inr ne ↦ has_push ns x a (w.sound x h (sym (get_or-set_other s a x true false ne) ∙ e))
      ];
      within = at_push (λ j v. v < length t) ns a w.within within;
      marked = at_push (λ j v. get_or (set s a true) v false ≡ true) ns a (λ j h. set_true s a (get_or ns j 0) room (w.marked j h)) (get_or-set_same s a true false room);
      once = once_push ns a w.once none;
      earlier = λ j h l. at_push (λ k v. 0 < k → v < k) vs at (λ k h' some. w.earlier k some (let c = w.count in omega arith)) (λ some. let c = w.count in omega arith) j (let c = w.count in omega arith) h;
      linked = λ j h l. elim (cases_lt j (length ns)) [
        | inl old ↦ let c = w.count in let e = w.earlier j h old in
            rw (old_at ns a j old) (rw (old_at vs at j (omega arith)) (rw (old_at ns a (get_or vs j 0) (omega arith)) (w.linked j h old)))
        | inr last ↦ let c = w.count in
            rw (get_or_push ns a 0 j (omega arith)) (rw (get_or_push vs at 0 j (omega arith)) (rw (old_at ns a at here) link))
      ];
      closed = λ x j h l k e. set_true s a x room (w.closed x j h l (omega arith) (subst (λ v. cell t x v ≡ true) (old_at ns a j (omega arith)) e));
      turn = λ x h l k e. elim (cases_eq x a) [
        | inl same ↦ subst (λ y. get_or (set s a true) y false ≡ true) (sym same) (get_or-set_same s a true false room)
        | inr ne ↦ set_true s a x room (w.turn x (omega arith) l here (subst (λ v. cell t x v ≡ true) (old_at ns a at here) e))
      ];
    }

-- all places were looked at
pub turned : (t : List (List Bool)) (start at e : ℕ) (s : List Bool) (ns vs : List ℕ) → IsSearched t start at e s ns vs
    → length t ≤ e → IsSearched t start (at + 1) 0 s ns vs
turned t start at e s ns vs w all = record {
  size = w.size;
  some = w.some;
  first = w.first;
  count = w.count;
  sound = w.sound;
  within = w.within;
  marked = w.marked;
  once = w.once;
  earlier = w.earlier;
  linked = w.linked;
  closed = λ a j h l m c. elim (cases_eq j at) [
    | inl same ↦ w.turn a (omega arith) h (omega arith) (subst (λ k. cell t a (get_or ns k 0) ≡ true) same c)
    | inr ne ↦ w.closed a j h (omega arith) m c
  ];
  turn = λ a h. absurd (omega arith);
}

-- no node stands at this place
pub idle : (t : List (List Bool)) (start at : ℕ) (s : List Bool) (ns vs : List ℕ) → IsSearched t start at 0 s ns vs
    → length ns ≤ at → IsSearched t start (at + 1) 0 s ns vs
idle t start at s ns vs w past = record {
  size = w.size;
  some = w.some;
  first = w.first;
  count = w.count;
  sound = w.sound;
  within = w.within;
  marked = w.marked;
  once = w.once;
  earlier = w.earlier;
  linked = w.linked;
  closed = λ a j h l m c. w.closed a j h (omega arith) m c;
  turn = λ a h. absurd (omega arith);
}

pub all_found : (t : List (List Bool)) (start at : ℕ) (s : List Bool) (ns vs : List ℕ) → IsSearched t start at 0 s ns vs → length t ≤ at → LeadTo t start ns vs
all_found t start at s ns vs w all =
    let few = length-le ns (length t) w.once w.within in
    record {
      some = w.some;
      first = w.first;
      count = w.count;
      within = w.within;
      once = w.once;
      earlier = w.earlier;
      linked = w.linked;
      closed = λ a j h l c. w.sound a h (w.closed a j h (omega arith) l c);
    }

-- the marks are gone through
pub marked_none : (s : List Bool) → IsMarked s 0 []
marked_none s = record { rising = λ i j h l. absurd (omega arith); only = λ k h. absurd (omega arith); each = λ x h. absurd (omega arith) }

pub marked_more : (s : List Bool) (i : ℕ) (xs : List ℕ) → IsMarked s i xs → get_or s i false ≡ true → IsMarked s (i + 1) (xs ++ i ∷ [])
marked_more s i xs m e = record {
  rising = rising_push xs i m.rising (λ k h. (m.only k h).0);
  only = at_push (λ k v. (v < i + 1) × (get_or s v false ≡ true)) xs i (λ k h. let o = m.only k h in (omega (arith, o.0), o.1)) (omega arith, e);
  each = λ x h set'. elim (cases_eq x i) [
    | inl same ↦ subst (λ k. Has (xs ++ i ∷ []) k) (sym same) (has_last xs i)
    | inr ne ↦ has_push xs x i (m.each x (omega arith) set')
  ];
}

pub marked_skip : (s : List Bool) (i : ℕ) (xs : List ℕ) → IsMarked s i xs → get_or s i false ≡ false → IsMarked s (i + 1) xs
marked_skip s i xs m e = record {
  rising = m.rising;
  only = λ k h. let o = m.only k h in (omega (arith, o.0), o.1);
  each = λ x h set'. elim (cases_eq x i) [
    | inl same ↦ absurd (true≢false (sym set' ∙ subst (λ k. get_or s k false ≡ false) (sym same) e))
    | inr ne ↦ m.each x (omega arith) set'
  ];
}

-- the same, where the lists after it are known by equations
pub added_as : (t : List (List Bool)) (start at a : ℕ) (s s' : List Bool) (ns ns' vs vs' : List ℕ) (to : ℕ) → IsSearched t start at a s ns vs
    → a < length t → at < length ns → to ≡ get_or ns at 0 → get_or s a false ≡ false → cell t a to ≡ true
    → s' ≡ set s a true → ns' ≡ ns ++ a ∷ [] → vs' ≡ vs ++ at ∷ []
    → record { within : at < length ns'; to : to ≡ get_or ns' at 0; searched : IsSearched t start at (a + 1) s' ns' vs' }
added_as t start at a s s' ns ns' vs vs' to w within here is new link e f g =
    let n = length_push ns a in
    let k = ap length f in
    record {
      within = omega arith;
      to = is ∙ sym (old_at ns a at here) ∙ sym (ap (λ (xs : List ℕ). get_or xs at 0) f);
      searched = rw (e, f, g) (added t start at a s ns vs w within here new (subst (λ v. cell t a v ≡ true) is link));
    }

pub skipped_as : (t : List (List Bool)) (start at a : ℕ) (s : List Bool) (ns vs : List ℕ) (to : ℕ) → IsSearched t start at a s ns vs
    → at < length ns → to ≡ get_or ns at 0 → (cell t a to ≡ true → get_or s a false ≡ true)
    → record { within : at < length ns; to : to ≡ get_or ns at 0; searched : IsSearched t start at (a + 1) s ns vs }
skipped_as t start at a s ns vs to w here is known = record {
  within = here;
  to = is;
  searched = skipped t start at a s ns vs w (λ e. known (subst (λ v. cell t a v ≡ true) (sym is) e));
}

-- what `v[i]` gave
pub read_is : {X : Type 0} (xs : List X) (i : ℕ) (r d b : X) → i < length xs → r ≡ get_or xs i r → r ≡ b → get_or xs i d ≡ b
read_is xs i r d b h e f = get_or_default xs i d r h ∙ sym e ∙ f
