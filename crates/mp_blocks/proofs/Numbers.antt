-- Numbers from 0 and from 1.
use Rattle.std.proofs.Common.{◌≡◌, ◌-◌, ◌≤◌, ℕ, suc, List, [], ◌∷◌, length, map, take, refl, sym, ap, ◌∙◌, arith}
use Rattle.std.proofs.lemmas.List.{take_all}

pub less_one : (ps : List ℕ) → map (λ x. x - 1) (map suc ps) ≡ ps
less_one [] = refl
less_one (p ∷ ps) = let e : suc p - 1 ≡ p = omega arith in rw (e, less_one ps) refl

-- numbers that are counted from 1 are those from 0 and one more
pub back : (xs ps : List ℕ) → xs ≡ map suc ps → xs ≡ map suc (map (λ x. x - 1) xs)
back xs ps e = e ∙ ap (λ (ys : List ℕ). map suc ys) (sym (less_one ps) ∙ ap (λ (ys : List ℕ). map (λ x. x - 1) ys) (sym e))

pub back_all : (xs ps ys : List ℕ) (i : ℕ) → xs ≡ map suc ps → length xs ≤ i → ys ≡ map (λ x. x - 1) (take i xs) → xs ≡ map suc ys
back_all xs ps ys i e far is = back xs ps e ∙ ap (λ (zs : List ℕ). map suc zs) (sym (is ∙ ap (λ (zs : List ℕ). map (λ x. x - 1) zs) (take_all i xs far)))

pub same_places : (xs ps qs : List ℕ) → xs ≡ map suc ps → xs ≡ map suc qs → ps ≡ qs
same_places xs ps qs e f = sym (less_one ps) ∙ ap (λ (ys : List ℕ). map (λ x. x - 1) ys) (sym e ∙ f) ∙ less_one qs
