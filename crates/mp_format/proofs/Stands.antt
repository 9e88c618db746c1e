-- A tree in form with its value, of lists and of what may be left out.
use Rattle.std.proofs.Common.{◌≡◌, ◌<◌, List, [], ◌∷◌, length, map, Some, None, option_map, refl, ap, ◌∙◌, arith}
use Rattle.mp_format.specs.Format.{Format, opt, many}
use Rattle.mp_format.specs.Notation.{◌▸◌, some_of}
use Rattle.mp_format.specs.Spelling.{Tree, value, Fits, FitsAll, FitsOpt, some_tree}
use Rattle.mp_format.proofs.Bares.{itself}

-- this tree is in form and has this value
pub record Stands {X : Type 0} (f : Format X) (x : Tree f) (y : X) : Type 0 where
  pub value : value f x ≡ y
  pub fits : Fits f x

-- each value in form has a tree
abbrev pub Written : {S X : Type 0} (f : Format X) → (S → Tree f) → (S → X) → (S → Type 0) → Type 0
Written {S} f tree to Is = (s : S) → Is s → Stands f (tree s) (to s)

pub list_stands : {S X : Type 0} (f : Format X) (tree : S → Tree f) (to : S → X) (Is : S → Type 0) → Written f tree to Is → Written (many f) (map tree) (map to) (FitsAll Is)
unfolding value Fits
list_stands f tree to Is one [] is = record { value = refl; fits = tt }
list_stands f tree to Is one (x ∷ xs) is =
    let h = one x is.0 in
    let g = list_stands f tree to Is one xs is.1 in
    record { value = ap (λ v. v ∷ map (value f) (map tree xs)) h.value ∙ ap (λ l. to x ∷ l) g.value; fits = (h.fits, g.fits) }

pub opt_stands : {S X : Type 0} (f : Format X) (tree : S → Tree f) (to : S → X) (Is : S → Type 0) → Written f tree to Is → Written (opt f) (option_map tree) (option_map to) (FitsOpt Is)
unfolding value Fits
opt_stands f tree to Is one None is = record { value = refl; fits = tt }
opt_stands f tree to Is one (Some x) is =
    let h = one x is in record { value = ap Some h.value; fits = h.fits }

pub some_stands : {S X Y : Type 0} (between : Format Y) (f : Format X) (u : Tree between) (nothing : Tree f) (tree : S → Tree f) (to : S → X) (Is : S → Type 0) → Fits between u → Written f tree to Is → (xs : List S) → 0 < length xs → FitsAll Is xs → Stands (some_of between f) (some_tree u nothing tree xs) (map to xs)
unfolding value Fits
some_stands between f u nothing tree to Is fits one [] some is = absurd (omega arith)
some_stands {S} between f u nothing tree to Is fits one (x ∷ xs) some is =
    let h = one x is.0 in
    let g = list_stands (between ▸ f) (λ y. (u, tree y)) to Is further xs is.1 in
    record { value = ap (λ v. v ∷ map (value (between ▸ f)) (map (λ y. (u, tree y)) xs)) h.value ∙ ap (λ l. to x ∷ l) g.value; fits = (h.fits, g.fits) }
  where
    further : (s : S) → Is s → Stands (between ▸ f) (u, tree s) (to s)
    further s is = let h = one s is in record { value = h.value; fits = (fits, h.fits) }

-- a function of two
pub ap_two : {X Y Z : Type 0} (f : X → Y → Z) {a b : X} {c d : Y} → a ≡ b → c ≡ d → f a c ≡ f b d
ap_two f {b = b} {c = c} p q = ap (λ x. f x c) p ∙ ap (f b) q

pub map_itself : {X : Type 0} (xs : List X) → map itself xs ≡ xs
map_itself [] = refl
map_itself (x ∷ xs) = ap (λ l. x ∷ l) (map_itself xs)
