-- The ends of a name's own shifts.
use Rattle.std.proofs.Common.{◌≡◌, inl, inr, ℕ, suc, ◌<◌, ◌≤◌, ◌^◌, min, ℤ, pos, negsuc, neg_ℤ, ◌≤ℤ◌, unsigned_abs, Bool, true, false, List, [], ◌∷◌, Option, Some, None, refl, sym, ap, subst, ◌∙◌, arith}
use Rattle.std.specs.Prelude.{if◌then◌else◌}
use Rattle.std.specs.Str.{bytes_eq}
use Rattle.std.proofs.lemmas.Int.{ints}
use Rattle.std.proofs.lemmas.Bool.{cases_lt}
use Rattle.mp_values.specs.Shifts.{Shifts, own_shifts, no_locals}
use Rattle.mp_local.specs.declared.ends.Ends.{Ends}
use Rattle.mp_local.specs.declared.known.Known.{Known}
use Rattle.mp_local.specs.Ends.{stopped, IsAmong, AreEnds, Spans, Tells}
use Rattle.mp_local.specs.Known.{counted, Owns, Knows}
use Rattle.mp_local.specs.Locals.{ends_in}

stopped_near : (k : ℤ) → unsigned_abs k ≤ 2 ^ 124 → stopped k ≡ k
stopped_near (pos n) near = ap pos (omega arith)
stopped_near (negsuc n) near =
    let e : min (suc n) (2 ^ 124) ≡ suc n = omega arith in ap (λ (m : ℕ). neg_ℤ (pos m)) e

negated : (n : ℕ) → unsigned_abs (neg_ℤ (pos n)) ≡ n
negated n = omega (arith, ints)

stopped_far : (k : ℤ) → 2 ^ 124 < unsigned_abs k → 2 ^ 124 ≤ unsigned_abs (stopped k)
stopped_far (pos n) far = omega arith
stopped_far (negsuc n) far = omega (arith, negated (min (suc n) (2 ^ 124)))

same_in : (k j : ℤ) → IsAmong j (k ∷ []) → j ≡ k
same_in k j (inl e) = e
same_in k j (inr h) = absurd h

alone_within : (k j : ℤ) → j ≡ k → (k ≤ℤ j) × (j ≤ℤ k)
alone_within k j e = (omega (arith, ints, e), omega (arith, ints, e))

alone : (k : ℤ) → AreEnds k k (k ∷ [])
alone k = record { least_in = inl refl; greatest_in = inl refl; within = λ j e. alone_within k j (same_in k j e) }

-- a shift alone, told up to the limit
pub tells_alone : (e : Ends) (k : ℤ) → e.least ≡ stopped k → e.greatest ≡ stopped k → Tells (Some e) (k ∷ [])
tells_alone e k least greatest = elim (cases_lt (2 ^ 124) (unsigned_abs k)) [
  | inl far ↦ inr (subst (λ (j : ℤ). 2 ^ 124 ≤ unsigned_abs j) (sym greatest) (stopped_far k far), omega (arith, far))
  | inr low ↦ let near = stopped_near k low in inl (rw (least, greatest, near) (alone k))
]

module _ (known : Known) (s : Shifts) (knows : Knows known s) (name : List ℕ) (counts : Bool) (k : ℤ) where
  pub own_local : (ends : Option Ends) → Some ends ≡ ends_in known.locals.ends.entries name → Tells ends (own_shifts s.locals counts name k)
  own_local ends is =
      inl (subst (λ (found : Option (Option Ends)). Owns found (λ c j. own_shifts s.locals c name j)) (sym is) (knows.locals name) counts k)

  own_other : None ≡ ends_in known.locals.ends.entries name → own_shifts s.locals counts name k ≡ (if counts then k ∷ [] else [])
  own_other is = subst (λ (found : Option (Option Ends)). Owns found (λ c j. own_shifts s.locals c name j)) (sym is) (knows.locals name) counts k

  pub own_variable : (e : Ends) → None ≡ ends_in known.locals.ends.entries name → counts ≡ true → e.least ≡ stopped k → e.greatest ≡ stopped k → Tells (Some e) (own_shifts s.locals counts name k)
  own_variable e is one least greatest =
      subst (Tells (Some e)) (sym (own_other is ∙ ap (λ (b : Bool). if b then k ∷ [] else []) one)) (tells_alone e k least greatest)

  pub own_nothing : None ≡ ends_in known.locals.ends.entries name → counts ≡ false → Tells None (own_shifts s.locals counts name k)
  own_nothing is none =
      subst (Tells None) (sym (own_other is ∙ ap (λ (b : Bool). if b then k ∷ [] else []) none)) (inl refl)

-- a local that is added has these shifts
pub knows_local : (known new : Known) (s : Shifts) (name : List ℕ) (ks : List ℤ) (ends : Option Ends) → new.scope ≡ known.scope → new.names.now ≡ known.names.now → ((other : List ℕ) → ends_in new.locals.ends.entries other ≡ (if bytes_eq other name then Some ends else ends_in known.locals.ends.entries other)) → Knows known s → Spans ends ks → Knows new (record s { locals = (name, ks) ∷ s.locals })
knows_local known new s name ks ends scope names put knows spans = record { counts = counts; locals = locals }
  where
    counts : (other : List ℕ) → s.counts other ≡ counted new.scope new.names.now other
    counts other = knows.counts other ∙ ap (λ c. counted c known.names.now other) (sym scope) ∙ ap (λ ns. counted new.scope ns other) (sym names)

    by : (other : List ℕ) (b : Bool) → Owns (if b then Some ends else ends_in known.locals.ends.entries other) (λ c k. if b then ks else own_shifts s.locals c other k)
    by other true = λ c k. spans
    by other false = knows.locals other

    locals : (other : List ℕ) → Owns (ends_in new.locals.ends.entries other) (λ c k. own_shifts ((name, ks) ∷ s.locals) c other k)
    locals other = rw (put other) (by other (bytes_eq other name))

-- no local is there
pub knows_none : (known : Known) → ((name : List ℕ) → ends_in known.locals.ends.entries name ≡ None) → Knows known (no_locals (counted known.scope known.names.now))
knows_none known none = record { counts = λ name. refl; locals = λ name. rw (none name) (λ c k. refl) }
