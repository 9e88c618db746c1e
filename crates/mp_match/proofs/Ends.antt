-- Between what equations hold and matchings.
use Rattle.std.proofs.Common.{◌≡◌, ◌<◌, ◌≤◌, ◌+◌, inl, inr, ℕ, Bool, true, false, List, length, get_or, sym, ◌∙◌, subst, arith}
use Rattle.std.proofs.lemmas.Bool.{cases_eq, true≢false}
use Rattle.std.specs.Bool.{MatchBool}
use Rattle.mp_pairing.specs.Pairing.{Occurs, IsWithin, IsMatching, IsLeast}
use Rattle.mp_incidence.specs.Tables.{IsTableFor}
use Rattle.mp_match.specs.Held.{IsAll, IsNumbered, IsPaired, IsSettled, IsStuck, IsLeastUpto, HoldsBefore}

pub numbered_all : (n : ℕ) (xs : List ℕ) → IsNumbered n xs → IsAll xs n
numbered_all n xs m = record {
  count = m.count;
  below = λ k h. subst (λ v. v < n) (sym (m.each k h)) h;
  once = λ i j h l e. let c = m.count in sym (m.each i (omega arith)) ∙ e ∙ m.each j (omega arith);
}

pub least_more : (t : List (List Bool)) (k : ℕ) (f g : List ℕ) → IsLeastUpto t k f → IsSettled t k (length t) k f g → IsLeastUpto t (k + 1) g
least_more t k f g l s = record {
  paired = record { all = s.all; holds = s.holds };
  least = λ h p e less agree. elim (cases_eq e k) [
    | inl same ↦ subst (λ d. get_or g d 0 ≤ get_or h d 0) (sym same)
        (s.least h p.all p.holds (λ d m. sym (s.kept d m) ∙ agree d (omega arith)))
    | inr ne ↦ subst (λ v. v ≤ get_or h e 0) (sym (s.kept e (omega arith)))
        (l.least h p e (omega arith) (λ d m. sym (s.kept d (omega arith)) ∙ agree d m))
  ];
}

-- an equation that holds a variable is not stuck
pub never_stuck : (t : List (List Bool)) (low high k : ℕ) (f : List ℕ) → k < high → HoldsBefore t high f → IsStuck t low high k f → ⊥
never_stuck t low high k f h holds s = true≢false (sym (holds k h) ∙ s.none k s.root)

least_turn : (t : List (List Bool)) (k : ℕ) (f g : List ℕ) (b : Bool) → k < length t → IsLeastUpto t k f
    → MatchBool b (IsSettled t k (length t) k f g) ((g ≡ f) × IsStuck t k (length t) k f) → IsLeastUpto t (k + 1) g
least_turn t k f g true h l s = least_more t k f g l s
least_turn t k f g false h l s = absurd (never_stuck t k (length t) k f h l.paired.holds s.1)

pub least_by : (t : List (List Bool)) (k : ℕ) (f g : List ℕ) (b : Bool) → k < length t → IsLeastUpto t k f
    → MatchBool b (IsSettled t k (length t) k f g) ((g ≡ f) × IsStuck t k (length t) k f) → IsLeastUpto t (k + 1) g
least_by = least_turn

pub matching_of : (rows : List (List ℕ)) (t : List (List Bool)) (f : List ℕ) → IsTableFor (Occurs rows) (length rows) (length rows) t → IsPaired t (length t) f → IsMatching rows (length rows) f
matching_of rows t f table p =
    let n = table.count in
    record {
      count = p.all.count ∙ table.count;
      incident = λ e h. ((table.rows e h).each (get_or f e 0) (let b = p.all.below e (omega arith) in omega arith)).0 (p.holds e (omega arith));
      once = p.all.once;
    }

pub paired_of : (rows : List (List ℕ)) (t : List (List Bool)) (f : List ℕ) → IsWithin rows → IsTableFor (Occurs rows) (length rows) (length rows) t → IsMatching rows (length rows) f → IsPaired t (length t) f
paired_of rows t f within table m =
    let n = table.count in
    record {
      all = record {
        count = m.count ∙ sym table.count;
        below = λ k h. let w = within k (get_or f k 0) (m.incident k (omega arith)) in omega arith;
        once = m.once;
      };
      holds = λ e h. ((table.rows e (omega arith)).each (get_or f e 0) (within e (get_or f e 0) (m.incident e (omega arith)))).1 (m.incident e (omega arith));
    }

pub least_of : (rows : List (List ℕ)) (t : List (List Bool)) (f : List ℕ) → IsWithin rows → IsTableFor (Occurs rows) (length rows) (length rows) t → IsLeastUpto t (length t) f → IsLeast rows f
least_of rows t f within table l = record {
  matching = matching_of rows t f table l.paired;
  least = λ g m e h agree. l.least g (paired_of rows t g within table m) e (let n = table.count in omega arith) agree;
}
