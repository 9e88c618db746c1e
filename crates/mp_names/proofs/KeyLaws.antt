-- The names of a set, each seen as its bytes.
use Rattle.std.proofs.Common.{◌≡◌, ℕ, ◌+◌, length, nat_lt, Some, None, position, List, [], ◌∷◌, ◌++◌, map, Bool, true, false, cond, not, ◌||◌, refl, ap, sym, ◌∙◌}
use Rattle.std.specs.List.{list_any, prefix_len, position_or_len}
use Rattle.std.proofs.lemmas.List.{map-append, length-map}

pub list_any-map : {X Y : Type 0} (f : X → Y) (p : Y → Bool) (xs : List X) → list_any p (map f xs) ≡ list_any (λ x. p (f x)) xs
list_any-map f p [] = refl
list_any-map f p (x ∷ xs) = ap (λ b. p (f x) || b) (list_any-map f p xs)

-- a key that was put into the set, unless it was there
pub map-insert_key : {K Y : Type 0} (f : K → Y) (there added : Bool) (keys new : List K) (key : K) → added ≡ not there → new ≡ cond there keys (keys ++ key ∷ []) → map f new ≡ cond added (map f keys ++ f key ∷ []) (map f keys)
map-insert_key f true added keys new key a e = ap (map f) e ∙ ap (λ b. cond b (map f keys ++ f key ∷ []) (map f keys)) (sym a)
map-insert_key f false added keys new key a e = ap (map f) e ∙ map-append f keys (key ∷ []) ∙ ap (λ b. cond b (map f keys ++ f key ∷ []) (map f keys)) (sym a)

prefix_len-map : {X Y : Type 0} (f : X → Y) (p : Y → Bool) (xs : List X) → prefix_len p (map f xs) ≡ prefix_len (λ x. p (f x)) xs
prefix_len-map f p [] = refl
prefix_len-map f p (x ∷ xs) = ap (λ (n : ℕ). cond (p (f x)) (1 + n) 0) (prefix_len-map f p xs)

pub position-map : {X Y : Type 0} (f : X → Y) (p : Y → Bool) (xs : List X) → position p (map f xs) ≡ position (λ x. p (f x)) xs
position-map f p xs =
    let n : position_or_len p (map f xs) ≡ position_or_len (λ x. p (f x)) xs = prefix_len-map f (λ y. not (p y)) xs in
    ap (λ (m : ℕ). cond (nat_lt m (length (map f xs))) (Some m) None) n
    ∙ ap (λ (m : ℕ). cond (nat_lt (position_or_len (λ x. p (f x)) xs) m) (Some (position_or_len (λ x. p (f x)) xs)) None) (length-map xs f)
