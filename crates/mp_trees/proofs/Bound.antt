-- Going on with what there is.
use Rattle.std.proofs.Common.{◌≡◌, List, [], ◌∷◌, ◌++◌, append-nil, append_assoc, Result, Ok, Err, refl, sym, ap, subst, ◌∙◌}
use Rattle.mp_fold.specs.Reported.{fraction_of}
use Rattle.mp_values.specs.Limits.{Folded, Stuck, Unvalued, Refused, ◌>>=◌}
use Rattle.mp_values.specs.ModelOf.{each}
use Rattle.mp_trees.specs.declared.fault.ModelFault.{ModelFault}
use Rattle.mp_trees.specs.declared.fault.ModelFault.TheVariants as fault
use Rattle.mp_trees.specs.Gives.{Fails, Gives}
use Rattle.mp_trees.specs.Parts.{after_these}

pub bind-Ok : {A : Type 0} (r : Folded A) → (r >>= λ x. Ok x) ≡ r
bind-Ok (Ok x) = refl
bind-Ok (Err e) = refl

pub bind-bind : {A B C : Type 0} (r : Folded A) (f : A → Folded B) (g : B → Folded C) → (r >>= f >>= g) ≡ (r >>= λ x. f x >>= g)
bind-bind (Ok x) f g = refl
bind-bind (Err e) f g = refl

pub bind_same : {A B : Type 0} (r : Folded A) (f g : A → Folded B) → ((x : A) → f x ≡ g x) → (r >>= f) ≡ (r >>= g)
bind_same (Ok x) f g h = h x
bind_same (Err e) f g h = refl

-- a part that fails makes the whole fail, for the same reason
pub Fails-whole : {A B : Type 0} (e : ModelFault) (part : Folded A) (whole : Folded B) → ((s : Stuck) → part ≡ Err s → whole ≡ Err s) → Fails e part → Fails e whole
Fails-whole (fault.Unvalued name) part whole h fails = h (Unvalued name) fails
Fails-whole (fault.Refused refused) part whole h fails = h (Refused refused.kind refused.at (fraction_of refused.first) (fraction_of refused.second)) fails
Fails-whole fault.NoMemory part whole h fails = tt

pub Fails-bind : {A B : Type 0} (e : ModelFault) (part : Folded A) (next : A → Folded B) → Fails e part → Fails e (part >>= next)
Fails-bind e part next fails = Fails-whole e part (part >>= next) (λ s is. ap (λ r. r >>= next) is) fails

pub Fails_same : {A : Type 0} (e : ModelFault) (r s : Folded A) → r ≡ s → Fails e r → Fails e s
Fails_same e r s is fails = Fails-whole e r s (λ x h. sym is ∙ h) fails

-- what goes through each of these, and what then goes through the rest
module _ {A B : Type 0} (f : A → Folded B) where
  one_first : (front : List B) (y : B) (r : Folded (List B)) → after_these front (r >>= λ zs. Ok (y ∷ zs)) ≡ after_these (front ++ y ∷ []) r
  one_first front y (Ok zs) = ap (λ l. Ok l) (sym (append_assoc front (y ∷ []) zs))
  one_first front y (Err e) = refl

  both : (front : List B) (xs ys : List A) (r : Folded B) → ((y : B) → after_these (front ++ y ∷ []) (each f (xs ++ ys)) ≡ (after_these (front ++ y ∷ []) (each f xs) >>= λ new. after_these new (each f ys))) → after_these front (r >>= λ y. each f (xs ++ ys) >>= λ zs. Ok (y ∷ zs)) ≡ (after_these front (r >>= λ y. each f xs >>= λ zs. Ok (y ∷ zs)) >>= λ new. after_these new (each f ys))
  both front xs ys (Ok y) rest =
      one_first front y (each f (xs ++ ys)) ∙ rest y ∙ ap (λ r. r >>= λ new. after_these new (each f ys)) (sym (one_first front y (each f xs)))
  both front xs ys (Err e) rest = refl

  pub each-append : (front : List B) (xs ys : List A) → after_these front (each f (xs ++ ys)) ≡ (after_these front (each f xs) >>= λ new. after_these new (each f ys))
  each-append front [] ys = ap (λ l. after_these l (each f ys)) (sym (append-nil front))
  each-append front (x ∷ xs) ys = both front xs ys (f x) (λ y. each-append (front ++ y ∷ []) xs ys)

  -- one that is given comes after those so far
  pub next_given : (front new : List B) (x : A) (xs : List A) (y : B) (whole : Folded (List B)) → after_these front (each f (x ∷ xs)) ≡ whole → f x ≡ Ok y → new ≡ front ++ y ∷ [] → after_these new (each f xs) ≡ whole
  next_given front new x xs y whole so_far is more =
      ap (λ l. after_these l (each f xs)) more ∙ sym (one_first front y (each f xs)) ∙ ap (λ r. after_these front (r >>= λ y. each f xs >>= λ zs. Ok (y ∷ zs))) (sym is) ∙ so_far

  -- one that fails makes all fail
  pub next_fails : (e : ModelFault) (front : List B) (x : A) (xs : List A) (whole : Folded (List B)) → after_these front (each f (x ∷ xs)) ≡ whole → Fails e (f x) → Fails e whole
  next_fails e front x xs whole so_far fails =
      Fails_same e _ whole so_far (Fails-bind e (each f (x ∷ xs)) (λ more. Ok (front ++ more)) (Fails-bind e (f x) (λ y. each f xs >>= λ ys. Ok (y ∷ ys)) fails))

  -- some that are given come after those so far
  pub some_given : (front new : List B) (xs ys : List A) (whole : Folded (List B)) → after_these front (each f (xs ++ ys)) ≡ whole → after_these front (each f xs) ≡ Ok new → after_these new (each f ys) ≡ whole
  some_given front new xs ys whole so_far is =
      sym (ap (λ r. r >>= λ n. after_these n (each f ys)) is) ∙ sym (each-append front xs ys) ∙ so_far

  -- one of these that fails makes all fail
  pub some_fail : (e : ModelFault) (front : List B) (xs ys : List A) (whole : Folded (List B)) → after_these front (each f (xs ++ ys)) ≡ whole → Fails e (after_these front (each f xs)) → Fails e whole
  some_fail e front xs ys whole so_far fails =
      Fails_same e _ whole (sym (each-append front xs ys) ∙ so_far) (Fails-bind e (after_these front (each f xs)) (λ n. after_these n (each f ys)) fails)

pub Gives_same : {X Y : Type 0} (view : X → Y) (result : Result X ModelFault) (r s : Folded Y) → r ≡ s → Gives view result r → Gives view result s
Gives_same view result r s is gives = subst (Gives view result) is gives

-- what is made of a part that is given, or the fault that it has
module _ {X Y Z : Type 0} (view : X → Y) (r : Result X ModelFault) (given : Folded Y) (next : Y → Folded Z) where
  pub next_of_fault : (e : ModelFault) → r ≡ Err e → Gives view r given → Fails e (given >>= next)
  next_of_fault e is gives = Fails-bind e given next (subst (λ s. Gives view s given) is gives)

  pub next_of_given : (x : X) → r ≡ Ok x → Gives view r given → (given >>= next) ≡ next (view x)
  next_of_given x is gives = ap (λ s. s >>= next) (subst (λ s. Gives view s given) is gives)
