-- What holds of each element of a list.
use Rattle.std.proofs.Common.{◌≡◌, ℕ, suc, zero, ◌+◌, Bool, true, false, cond, Some, List, [], ◌∷◌, ◌++◌, map, length, refl, ap, subst, arith, ◌⊎◌, inl, inr}
use Rattle.std.specs.Prelude.{slice_get, take, drop}
use Rattle.std.specs.List.{filter, AllByRecursion as Each}
use Rattle.std.proofs.lemmas.Option.{none-some, same_Some}

pub each_append : {X : Type 0} (P : X → Type 0) (xs ys : List X) → Each P xs → Each P ys → Each P (xs ++ ys)
each_append P [] ys h k = k
each_append P (x ∷ xs) ys h k = (h.0, each_append P xs ys h.1 k)

pub each_left : {X : Type 0} (P : X → Type 0) (xs ys : List X) → Each P (xs ++ ys) → Each P xs
each_left P [] ys h = tt
each_left P (x ∷ xs) ys h = (h.0, each_left P xs ys h.1)

pub each_right : {X : Type 0} (P : X → Type 0) (xs ys : List X) → Each P (xs ++ ys) → Each P ys
each_right P [] ys h = h
each_right P (x ∷ xs) ys h = each_right P xs ys h.1

pub each_map : {X Y : Type 0} (P : Y → Type 0) (f : X → Y) (xs : List X) → Each (λ x. P (f x)) xs → Each P (map f xs)
each_map P f [] h = tt
each_map P f (x ∷ xs) h = (h.0, each_map P f xs h.1)

pub map_each : {X Y : Type 0} (P : Y → Type 0) (f : X → Y) (xs : List X) → Each P (map f xs) → Each (λ x. P (f x)) xs
map_each P f [] h = tt
map_each P f (x ∷ xs) h = (h.0, map_each P f xs h.1)

pub each_both : {X : Type 0} (P Q S : X → Type 0) → ((x : X) → P x → Q x → S x) → (xs : List X) → Each P xs → Each Q xs → Each S xs
each_both P Q S f [] h k = tt
each_both P Q S f (x ∷ xs) h k = (f x h.0 k.0, each_both P Q S f xs h.1 k.1)

pub each_filter : {X : Type 0} (P : X → Type 0) (test : X → Bool) (xs : List X) → Each P xs → Each P (filter test xs)
each_filter P test [] h = tt
each_filter P test (x ∷ xs) h = by (test x) (each_filter P test xs h.1)
  where
    by : (c : Bool) → Each P (filter test xs) → Each P (cond c (x ∷ filter test xs) (filter test xs))
    by true k = (h.0, k)
    by false k = k

pub filter-map : {X Y : Type 0} (test : Y → Bool) (f : X → Y) (xs : List X) → filter test (map f xs) ≡ map f (filter (λ x. test (f x)) xs)
filter-map test f [] = refl
filter-map test f (x ∷ xs) = rw (filter-map test f xs) (by (test (f x)))
  where
    by : (c : Bool) → cond c (f x ∷ map f (filter (λ x. test (f x)) xs)) (map f (filter (λ x. test (f x)) xs)) ≡ map f (cond c (x ∷ filter (λ x. test (f x)) xs) (filter (λ x. test (f x)) xs))
    by true = refl
    by false = refl

pub filter_every : {X : Type 0} (test : X → Bool) (xs : List X) → Each (λ x. test x ≡ true) xs → filter test xs ≡ xs
filter_every test [] h = refl
filter_every test (x ∷ xs) h = rw (h.0, filter_every test xs h.1) refl

pub each_get : {X : Type 0} (P : X → Type 0) (xs : List X) (i : ℕ) (a : X) → Each P xs → slice_get xs i ≡ Some a → P a
each_get P [] i a h e = absurd (none-some a e)
each_get P (x ∷ xs) zero a h e = subst P (same_Some x a e) h.0
each_get P (x ∷ xs) (suc i) a h e = each_get P xs i a h.1 e

pub get_left : {X : Type 0} (xs ys : List X) (i : ℕ) (a : X) → slice_get xs i ≡ Some a → slice_get (xs ++ ys) i ≡ Some a
get_left [] ys i a e = absurd (none-some a e)
get_left (x ∷ xs) ys zero a e = e
get_left (x ∷ xs) ys (suc i) a e = get_left xs ys i a e

pub get_right : {X : Type 0} (xs ys : List X) (i k : ℕ) → i ≡ length xs + k → slice_get (xs ++ ys) i ≡ slice_get ys k
get_right [] ys i k e = ap (slice_get ys) (omega arith)
get_right (x ∷ xs) ys zero k e = absurd (omega arith)
get_right (x ∷ xs) ys (suc i) k e = get_right xs ys i k (omega arith)

pub get_split : {X : Type 0} (xs ys : List X) (i : ℕ) (a : X) → slice_get (xs ++ ys) i ≡ Some a
    → (slice_get xs i ≡ Some a) ⊎ ((k : ℕ) × (i ≡ length xs + k) × (slice_get ys k ≡ Some a))
get_split [] ys i a e = inr (i, omega arith, e)
get_split (x ∷ xs) ys zero a e = inl e
get_split (x ∷ xs) ys (suc i) a e = elim (get_split xs ys i a e) [ inl l ↦ inl l | inr r ↦ inr (r.0, (let p = r.1 in omega arith), r.2) ]

pub each_all : {X : Type 0} (P : X → Type 0) (xs : List X) → ((x : X) → P x) → Each P xs
each_all P [] h = tt
each_all P (x ∷ xs) h = (h x, each_all P xs h)

-- what follows for each element, holds of each
pub each_of : {X : Type 0} (P Q : X → Type 0) → ((x : X) → P x → Q x) → (xs : List X) → Each P xs → Each Q xs
each_of P Q f [] h = tt
each_of P Q f (x ∷ xs) h = (f x h.0, each_of P Q f xs h.1)

pub map_same : {X : Type 0} (f : X → X) (xs : List X) → Each (λ x. f x ≡ x) xs → map f xs ≡ xs
map_same f [] h = refl
map_same f (x ∷ xs) h = rw (h.0, map_same f xs h.1) refl

pub map_alike : {X Y : Type 0} (f : X → X) (g : X → Y) → ((x : X) → g (f x) ≡ g x) → (xs : List X) → map g (map f xs) ≡ map g xs
map_alike f g h [] = refl
map_alike f g h (x ∷ xs) = rw (h x, map_alike f g h xs) refl

pub take_front : {X Y : Type 0} (f : X → Y) (xs : List X) (ys : List Y) → take (length xs) (map f xs ++ ys) ≡ map f xs
take_front f [] ys = refl
take_front f (x ∷ xs) ys = ap (λ l. f x ∷ l) (take_front f xs ys)

pub drop_front : {X Y : Type 0} (f : X → Y) (xs : List X) (ys : List Y) → drop (length xs) (map f xs ++ ys) ≡ ys
drop_front f [] ys = refl
drop_front f (x ∷ xs) ys = drop_front f xs ys
