-- A map with names as keys is an environment.
use Rattle.std.proofs.Common.{◌≡◌, ℕ, List, [], ◌∷◌, map, cond, Bool, true, false, refl, sym, ap, subst, ◌∙◌, bytes_eq, Option, Some, option_map}
use Rattle.std.specs.declared.cmp.Ordering.{Ordering}
use Rattle.std.specs.Ordering.{is_eq, nat_cmp, eq_by_cmp}
use Rattle.std.specs.Cmp.{eq_by_cmp_equiv}
use Rattle.std.specs.Cmp.Lexicographic.{slice_cmp, bytes_decides, nat_list_cmp_total, nat_list_eq_equiv}
use Rattle.std.specs.Map.{lookup, KeepsOthers}
use Rattle.std.specs.BTreeMap.{BTreeMap, UpdatesBy}
use Rattle.std.specs.declared.vec.Vec.{Vec}
use Rattle.std.proofs.lemmas.Map.Text.{is_eq-slice_cmp}
use Rattle.std.proofs.lemmas.Bool.{cases_Bool, cond-true, cond-false}
use mathlib.Core.Logic.{⊎_elim}
use Rattle.mp_mvalue.specs.Environments.{value_in, Has}
use Rattle.mp_mvalue.specs.declared.value.Value.{Value}
use Rattle.mp_mvalue.specs.declared.sharing.SharedValue.{SharedValue}
use Rattle.mp_mvalue.specs.Shared.{unshared}

apart : (bs cs ks : List ℕ) → bytes_eq bs cs ≡ false → is_eq (slice_cmp nat_cmp bs ks) ≡ true → is_eq (slice_cmp nat_cmp cs ks) ≡ false
apart bs cs ks n y =
    is_eq-slice_cmp cs ks ∙ nat_list_eq_equiv.symm cs ks ∙ sym (nat_list_eq_equiv.congr bs ks cs (sym (is_eq-slice_cmp bs ks) ∙ y)) ∙ n

-- what is w at these bytes, and as before at others
by_bytes : (f g : List ℕ → Option Value) (bs : List ℕ) (w : Option Value) → g bs ≡ w → ((cs : List ℕ) → bytes_eq bs cs ≡ false → g cs ≡ f cs) → (cs : List ℕ) → g cs ≡ cond (bytes_eq bs cs) w (f cs)
by_bytes f g bs w here other cs =
    ⊎_elim
    (λ y. subst (λ l. g l ≡ w) ((bytes_decides bs cs).0 y) here ∙ sym (cond-true (bytes_eq bs cs) w (f cs) y))
    (λ n. other cs n ∙ sym (cond-false (bytes_eq bs cs) w (f cs) n))
    (cases_Bool (bytes_eq bs cs))

cond-unshared : (b : Bool) (x : SharedValue) (o : Option SharedValue) → cond b (Some (unshared x)) (option_map unshared o) ≡ option_map unshared (cond b (Some x) o)
cond-unshared true x o = refl
cond-unshared false x o = refl

module _ {A : Type 0} where
  abbrev pub named : Vec ℕ A × SharedValue → List ℕ × Value
  named p = (p.0.items, unshared p.1)

  abbrev pub by_name : List ℕ → Vec ℕ A → Bool
  by_name name k = is_eq (slice_cmp nat_cmp name k.items)

  pub value_in-named : (es : List (Vec ℕ A × SharedValue)) (name : List ℕ) → value_in (map named es) name ≡ option_map unshared (lookup (by_name name) es)
  value_in-named [] name = refl
  value_in-named (e ∷ es) name =
      ap (λ b. cond b (Some (unshared e.1)) (value_in (map named es) name)) (sym (is_eq-slice_cmp name e.0.items))
      ∙ ap (λ o. cond (by_name name e.0) (Some (unshared e.1)) o) (value_in-named es name)
      ∙ cond-unshared (by_name name e.0) e.1 (lookup (by_name name) es)

  abbrev pub by_items : Vec ℕ A → Vec ℕ A → Ordering
  by_items x y = slice_cmp nat_cmp x.items y.items

  others : (old new : List (Vec ℕ A × SharedValue)) (bs cs : List ℕ) → KeepsOthers (eq_by_cmp by_items) (by_name bs) old new → bytes_eq bs cs ≡ false → lookup (by_name cs) new ≡ lookup (by_name cs) old
  unfolding KeepsOthers
  others old new bs cs keeps e =
      keeps (by_name cs) (λ x y. (eq_by_cmp_equiv nat_list_cmp_total).congr cs x.items y.items) (λ k. apart bs cs k.items e)

  pub Has-updates : (bs : List ℕ) (m n : BTreeMap (Vec ℕ A) SharedValue) (w : Option SharedValue) → UpdatesBy by_items (λ k. slice_cmp nat_cmp bs k.items) m n w → Has (map named m.entries) (map named n.entries) bs (option_map unshared w)
  Has-updates bs m n w h =
      by_bytes (value_in (map named m.entries)) (value_in (map named n.entries)) bs (option_map unshared w)
      (value_in-named n.entries bs ∙ ap (option_map unshared) h.1)
      (λ cs e. value_in-named n.entries cs ∙ ap (option_map unshared) (others m.entries n.entries bs cs h.3 e) ∙ sym (value_in-named m.entries cs))
