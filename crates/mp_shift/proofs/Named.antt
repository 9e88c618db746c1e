-- Names that are added to names, each new.
use Rattle.std.proofs.Common.{◌≡◌, ◌≢◌, ℕ, zero, suc, ◌+◌, ◌<◌, ◌≤◌, Bool, true, false, ◌||◌, List, [], ◌∷◌, ◌++◌, map, take, length, Some, None, append_assoc, append-nil, add-one, true≢false, refl, ap, sym, ◌∙◌, subst, arith}
use Rattle.std.specs.Prelude.{slice_get}
use Rattle.std.specs.List.{AllByRecursion, list_any}
use Rattle.std.specs.List as std
use Rattle.std.specs.Str.{bytes_eq}
use Rattle.std.proofs.lemmas.List.{map-append}
use Rattle.std.proofs.lemmas.Option.{none-some, same_Some}
use Rattle.std.proofs.lemmas.Slice.Eq.{bytes_eq-Decides}
use Rattle.mp_statements.specs.declared.kind.NameKind.TheVariants.{Endogenous, Exogenous, Parameter}
use Rattle.mp_values.specs.Names.{Names}
use Rattle.mp_names.specs.Named.{kind_in, with_name}
use Rattle.mp_solutions.specs.Laws.{IsDistinct}
use Rattle.mp_shift.specs.Called.{Called, AreNew, with_names}

abbrev pub name_in : Called → List ℕ
name_in x = x.name

-- ---- names that are not among others

none_of : (x : List ℕ) (ys : List (List ℕ)) → ((j : ℕ) (y : List ℕ) → slice_get ys j ≡ Some y → y ≢ x) → list_any (bytes_eq x) ys ≡ false
none_of x [] h = refl
none_of x (y ∷ ys) h = by (bytes_eq x y) refl (none_of x ys (λ j z e. h (suc j) z e))
  where
    by : (b : Bool) → bytes_eq x y ≡ b → list_any (bytes_eq x) ys ≡ false → (bytes_eq x y || list_any (bytes_eq x) ys) ≡ false
    by true e r = absurd (h 0 y refl (sym ((bytes_eq-Decides x y).0 e)))
    by false e r = ap (λ b. b || list_any (bytes_eq x) ys) e ∙ r

pub any_both : (p : List ℕ → Bool) (xs ys : List (List ℕ)) → list_any p xs ≡ false → list_any p ys ≡ false → list_any p (xs ++ ys) ≡ false
any_both p [] ys h k = k
any_both p (x ∷ xs) ys h k = by (p x) refl h (λ g. any_both p xs ys g k)
  where
    by : (b : Bool) → p x ≡ b → (p x || list_any p xs) ≡ false → (list_any p xs ≡ false → list_any p (xs ++ ys) ≡ false) → (p x || list_any p (xs ++ ys)) ≡ false
    by true e g next = absurd (true≢false (sym (ap (λ c. c || list_any p xs) e) ∙ g))
    by false e g next = ap (λ c. c || list_any p (xs ++ ys)) e ∙ next (sym (ap (λ c. c || list_any p xs) e) ∙ g)

taken : (xs : List Called) (i j : ℕ) (y : List ℕ) → slice_get (map name_in (take i xs)) j ≡ Some y → (j < i) × (slice_get (map name_in xs) j ≡ Some y)
taken [] zero j y e = absurd (none-some y e)
taken [] (suc i) j y e = absurd (none-some y e)
taken (x ∷ xs) zero j y e = absurd (none-some y e)
taken (x ∷ xs) (suc i) zero y e = (omega arith, e)
taken (x ∷ xs) (suc i) (suc j) y e = let r = taken xs i j y e in (let p = r.0 in omega arith, r.1)

got_name : (xs : List Called) (i : ℕ) (x : Called) → slice_get xs i ≡ Some x → slice_get (map name_in xs) i ≡ Some x.name
got_name [] i x e = absurd (none-some x e)
got_name (y ∷ xs) zero x e = ap (λ (z : Called). Some z.name) (same_Some y x e)
got_name (y ∷ xs) (suc i) x e = got_name xs i x e

each_got : (P : Called → Type 0) (xs : List Called) (i : ℕ) (x : Called) → AllByRecursion P xs → slice_get xs i ≡ Some x → P x
each_got P [] i x h e = absurd (none-some x e)
each_got P (y ∷ xs) zero x h e = subst P (same_Some y x e) h.0
each_got P (y ∷ xs) (suc i) x h e = each_got P xs i x h.1 e

-- ---- a name of no kind

pub record IsNone (ns : Names) (name : List ℕ) : Type 0 where
  pub endogenous : list_any (bytes_eq name) ns.endogenous ≡ false
  pub exogenous : list_any (bytes_eq name) ns.exogenous ≡ false
  pub parameters : list_any (bytes_eq name) ns.parameters ≡ false

pub none_parts : (ns : Names) (name : List ℕ) → kind_in ns name ≡ None → IsNone ns name
none_parts ns name e = by (list_any (bytes_eq name) ns.endogenous) (list_any (bytes_eq name) ns.exogenous) (list_any (bytes_eq name) ns.parameters) refl refl refl e
  where
    by : (a b c : Bool) → list_any (bytes_eq name) ns.endogenous ≡ a → list_any (bytes_eq name) ns.exogenous ≡ b → list_any (bytes_eq name) ns.parameters ≡ c → kind_in ns name ≡ None → IsNone ns name
    by true b c p q r e = absurd (none-some Endogenous (sym e ∙ rw p refl))
    by false true c p q r e = absurd (none-some Exogenous (sym e ∙ rw (p, q) refl))
    by false false true p q r e = absurd (none-some Parameter (sym e ∙ rw (p, q, r) refl))
    by false false false p q r e = record { endogenous = p; exogenous = q; parameters = r }

pub parts_none : (ns : Names) (name : List ℕ) → IsNone ns name → kind_in ns name ≡ None
parts_none ns name h = rw (h.endogenous, h.exogenous, h.parameters) refl

-- ---- one after the other

take_next : (xs : List Called) (i : ℕ) (x : Called) → slice_get xs i ≡ Some x → take (suc i) xs ≡ take i xs ++ x ∷ []
take_next [] i x e = absurd (none-some x e)
take_next (y ∷ xs) zero x e = ap (λ (z : Called). z ∷ []) (same_Some y x e)
take_next (y ∷ xs) (suc i) x e = ap (λ l. y ∷ l) (take_next xs i x e)

take_more : (xs : List Called) (i : ℕ) (x : Called) → slice_get xs i ≡ Some x → take (i + 1) xs ≡ take i xs ++ x ∷ []
take_more xs i x e = ap (λ (n : ℕ). take n xs) (add-one i) ∙ take_next xs i x e

pub take_whole : (xs : List Called) (i : ℕ) → length xs ≤ i → take i xs ≡ xs
take_whole [] zero h = refl
take_whole [] (suc i) h = refl
take_whole (x ∷ xs) zero h = absurd (omega arith)
take_whole (x ∷ xs) (suc i) h = ap (λ l. x ∷ l) (take_whole xs i (omega arith))

module _ (ns : Names) (xs : List Called) (i : ℕ) (x : Called) (is : slice_get xs i ≡ Some x) where
  pub next_new : AreNew ns xs → kind_in (with_names (take i xs) ns) x.name ≡ None
  next_new new =
      let p = none_parts ns x.name (each_got (λ (y : Called). kind_in ns y.name ≡ None) xs i x new.free is) in
      let apart : list_any (bytes_eq x.name) (map name_in (take i xs)) ≡ false =
      none_of x.name (map name_in (take i xs)) (λ j y e s.
      let t = taken xs i j y e in
      let q = new.distinct j i x.name (t.1 ∙ ap Some s) (got_name xs i x is) in
      let r = t.0 in
      omega arith) in
      parts_none (with_names (take i xs) ns) x.name (record { endogenous = any_both (bytes_eq x.name) ns.endogenous (map name_in (take i xs)) p.endogenous apart; exogenous = p.exogenous; parameters = p.parameters })

  pub names_more : with_name Endogenous x.name (with_names (take i xs) ns) ≡ with_names (take (i + 1) xs) ns
  names_more = ap (λ l. record ns { endogenous = l }) (sym more)
    where
      more : ns.endogenous ++ map name_in (take (i + 1) xs) ≡ (ns.endogenous ++ map name_in (take i xs)) ++ x.name ∷ []
      more =
          ap (λ l. ns.endogenous ++ map name_in l) (take_more xs i x is)
          ∙ ap (λ l. ns.endogenous ++ l) (map-append name_in (take i xs) (x ∷ []))
          ∙ sym (append_assoc ns.endogenous (map name_in (take i xs)) (x.name ∷ []))

pub names_none : (ns : Names) → with_names [] ns ≡ ns
names_none ns = ap (λ l. record ns { endogenous = l }) (append-nil ns.endogenous)

-- ---- distinct names by places

apart_at : (x : List ℕ) (ys : List (List ℕ)) (j : ℕ) (y : List ℕ) → AllByRecursion (λ z. bytes_eq x z ≡ false) ys → slice_get ys j ≡ Some y → y ≡ x → ⊥
apart_at x [] j y h e s = none-some y e
apart_at x (z ∷ ys) zero y h e s = true≢false (sym ((bytes_eq-Decides x z).1 (sym s ∙ sym (same_Some z y e))) ∙ h.0)
apart_at x (z ∷ ys) (suc j) y h e s = apart_at x ys j y h.1 e s

pub distinct_places : (names : List (List ℕ)) → std.IsDistinct bytes_eq names → IsDistinct names
unfolding std.IsDistinct
distinct_places [] h i j x e f = absurd (none-some x e)
distinct_places (n ∷ names) h zero zero x e f = refl
distinct_places (n ∷ names) h zero (suc j) x e f = absurd (apart_at n names j x h.0 f (sym (same_Some n x e)))
distinct_places (n ∷ names) h (suc i) zero x e f = absurd (apart_at n names i x h.0 e (sym (same_Some n x f)))
distinct_places (n ∷ names) h (suc i) (suc j) x e f = ap suc (distinct_places names h.1 i j x e f)
