-- The entries of a map, each seen as a parameter with its value.
use Rattle.std.proofs.Common.{◌≡◌, ℕ, zero, suc, ◌+◌, ◌<◌, List, [], ◌∷◌, map, take, get_or, length, Bool, true, false, cond, Option, Some, None, is_some, refl, sym, ap, ◌∙◌, true≢false, add-one, arith}
use Rattle.std.specs.List.{IsDistinct, AllByRecursion}
use Rattle.std.specs.Map.{keys_of, lookup}
use Rattle.std.specs.Str.{bytes_eq}
use Rattle.std.proofs.lemmas.Map.Keys.{IsDistinct-head, IsDistinct-tail}
use Rattle.std.proofs.lemmas.Slice.Eq.{bytes_eq-Decides}
use Rattle.indexmap.specs.IndexMap.{insert_entry}
use Rattle.mp_rational.specs.Fraction.{Fraction}
use Rattle.mp_values.specs.Table.{Table, unset, value_in, with_value}

bytes_eq-same : (a : List ℕ) → bytes_eq a a ≡ true
bytes_eq-same a = (bytes_eq-Decides a a).1 refl

bytes_eq-flips : (a b : List ℕ) → bytes_eq a b ≡ false → bytes_eq b a ≡ false
bytes_eq-flips a b e = by (bytes_eq b a) refl
  where
    by : (t : Bool) → bytes_eq b a ≡ t → t ≡ false
    by false f = refl
    by true f =
        let s : a ≡ b = sym ((bytes_eq-Decides b a).0 f) in
        absurd (true≢false (sym ((bytes_eq-Decides a b).1 s) ∙ e))

module _ {K V : Type 0} (key : K → List ℕ) (value : V → Option Fraction) where
  -- the entries as a table
  abbrev pub shown : List (K × V) → Table
  shown es = map (λ e. (key e.0, value e.1)) es

  -- whether two keys are one name
  abbrev pub same : K → K → Bool
  same j k = bytes_eq (key j) (key k)

  -- the value that was looked up, if there is one
  abbrev pub found : Option V → Option Fraction
  found None = None
  found (Some v) = value v

  pub value_in-shown : (es : List (K × V)) (name : List ℕ) → value_in (shown es) name ≡ found (lookup (λ k. bytes_eq name (key k)) es)
  value_in-shown [] name = refl
  value_in-shown (e ∷ es) name = by (bytes_eq name (key e.0)) (value_in-shown es name)
    where
      by : (t : Bool) → value_in (shown es) name ≡ found (lookup (λ k. bytes_eq name (key k)) es) → cond t (value e.1) (value_in (shown es) name) ≡ found (cond t (Some e.1) (lookup (λ k. bytes_eq name (key k)) es))
      by true further = refl
      by false further = further

  -- a name that is not there changes nothing
  pub with_value-absent : (es : List (K × V)) (name : List ℕ) (w : Option Fraction) → is_some (lookup (λ k. bytes_eq name (key k)) es) ≡ false → with_value name w (shown es) ≡ shown es
  with_value-absent [] name w none = refl
  with_value-absent (e ∷ es) name w none = by (bytes_eq name (key e.0)) (with_value-absent es name w) none
    where
      by : (t : Bool) → (is_some (lookup (λ k. bytes_eq name (key k)) es) ≡ false → with_value name w (shown es) ≡ shown es) → is_some (cond t (Some e.1) (lookup (λ k. bytes_eq name (key k)) es)) ≡ false → cond t (key e.0, w) (key e.0, value e.1) ∷ with_value name w (shown es) ≡ shown (e ∷ es)
      by true further h = absurd (true≢false h)
      by false further h = ap (λ l. (key e.0, value e.1) ∷ l) (further h)

  absent-apart : (k : K) (es : List (K × V)) → AllByRecursion (λ j. same k j ≡ false) (keys_of es) → is_some (lookup (same k) es) ≡ false
  absent-apart k [] all = refl
  absent-apart k (e ∷ es) all = ap (λ t. is_some (cond t (Some e.1) (lookup (same k) es))) all.0 ∙ absent-apart k es all.1

  -- a key that is there takes the value
  pub shown-insert_entry : (es : List (K × V)) (k : K) (v : V) → IsDistinct same (keys_of es) → is_some (lookup (same k) es) ≡ true → shown (insert_entry same es k v) ≡ with_value (key k) (value v) (shown es)
  shown-insert_entry [] k v apart there = absurd (true≢false (sym there))
  shown-insert_entry (e ∷ es) k v apart there = by (same k e.0) refl (shown-insert_entry es k v (IsDistinct-tail same e.0 (keys_of es) apart)) there
    where
      by : (t : Bool) → same k e.0 ≡ t → (is_some (lookup (same k) es) ≡ true → shown (insert_entry same es k v) ≡ with_value (key k) (value v) (shown es)) → is_some (cond t (Some e.1) (lookup (same k) es)) ≡ true → shown (cond t ((e.0, v) ∷ es) (e ∷ insert_entry same es k v)) ≡ cond t (key e.0, value v) (key e.0, value e.1) ∷ with_value (key k) (value v) (shown es)
      by true is further h =
          let one : key k ≡ key e.0 = (bytes_eq-Decides (key k) (key e.0)).0 is in
          let none = with_value-absent es (key e.0) (value v) (absent-apart e.0 es (IsDistinct-head same e.0 (keys_of es) apart)) in
          ap (λ l. (key e.0, value v) ∷ l) (sym none ∙ ap (λ n. with_value n (value v) (shown es)) (sym one))
      by false is further h = ap (λ l. (key e.0, value e.1) ∷ l) (further h)

  apart_at : (k : K) (ks : List K) (i : ℕ) (d : K) → i < length ks → AllByRecursion (λ j. same k j ≡ false) ks → same (get_or ks i d) k ≡ false
  apart_at k [] i d within all = absurd (omega arith)
  apart_at k (x ∷ xs) zero d within all = bytes_eq-flips (key k) (key x) all.0
  apart_at k (x ∷ xs) (suc i) d within all = apart_at k xs i d (omega arith) all.1

  -- one key more
  insert_entry-next : (v : V) (ks : List K) (i : ℕ) (d : K) → IsDistinct same ks → i < length ks → insert_entry same (map (λ k. (k, v)) (take i ks)) (get_or ks i d) v ≡ map (λ k. (k, v)) (take (suc i) ks)
  insert_entry-next v [] i d apart within = absurd (omega arith)
  insert_entry-next v (x ∷ xs) zero d apart within = refl
  insert_entry-next v (x ∷ xs) (suc i) d apart within =
      let other = apart_at x xs i d (omega arith) (IsDistinct-head same x xs apart) in
      let further = insert_entry-next v xs i d (IsDistinct-tail same x xs apart) (omega arith) in
      ap (λ t. cond t ((x, v) ∷ map (λ k. (k, v)) (take i xs)) ((x, v) ∷ insert_entry same (map (λ k. (k, v)) (take i xs)) (get_or xs i d) v)) other
      ∙ ap (λ l. (x, v) ∷ l) further

  -- the entries of the first keys, and of one more
  pub entries-next : (v : V) (ks : List K) (es : List (K × V)) (i : ℕ) (d : K) → IsDistinct same ks → i < length ks → es ≡ map (λ k. (k, v)) (take i ks) → insert_entry same es (get_or ks i d) v ≡ map (λ k. (k, v)) (take (i + 1) ks)
  entries-next v ks es i d apart within so_far =
      ap (λ fs. insert_entry same fs (get_or ks i d) v) so_far
      ∙ insert_entry-next v ks i d apart within
      ∙ ap (λ (n : ℕ). map (λ k. (k, v)) (take n ks)) (sym (add-one i))

  -- no key has a value
  pub shown-unset : (v : V) (ks : List K) → value v ≡ None → shown (map (λ k. (k, v)) ks) ≡ unset (map key ks)
  shown-unset v [] none = refl
  shown-unset v (k ∷ ks) none = λ i. (key k, none i) ∷ shown-unset v ks none i
