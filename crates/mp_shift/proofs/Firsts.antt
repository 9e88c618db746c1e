-- Where the stand-ins of each variable begin.
use Rattle.std.proofs.Common.{◌≡◌, ◌⊎◌, ℕ, zero, suc, ◌+◌, ◌-◌, ◌*◌, ◌<◌, ◌≤◌, List, [], ◌∷◌, ◌++◌, length, get_or, refl, ap, sym, ◌∙◌, add-one, inl, inr, arith}
use Rattle.std.specs.Prelude.{slice_get, Some}
use Rattle.std.proofs.lemmas.Bool.{cases_lt}
use Rattle.std.proofs.lemmas.Option.{slice_get_within, get_or_from_slice_get}
use Rattle.std.proofs.lemmas.List.{length-append}
use Rattle.mp_semantics.specs.Model.{Model}
use Rattle.mp_solutions.specs.Auxiliaries.{Direction, lead, lag, width, Lengths, lengths, Auxiliary, chain, auxiliaries, stand_in_of}
use Rattle.mp_shift.specs.declared.reach.Reach.{Reach}
use Rattle.mp_shift.specs.declared.first.First.{First}
use Rattle.mp_shift.specs.Reach.{AreReaches, lengths_of}
use Rattle.mp_shift.specs.Stand.{no_first, stand_by, AreFirstFrom, AreFirst}
use Rattle.mp_shift.proofs.Listed.{row_at, auxiliaries_same}

length_chain : (v : ℕ) (d : Direction) (n : ℕ) → length (chain v d n) ≡ n
length_chain v d zero = refl
length_chain v d (suc n) = omega (arith, length-append (chain v d n) (record { place = v; direction = d; index = n } ∷ []), length_chain v d n)

-- how many come before
abbrev pub before : Lengths → ℕ → ℕ
before len v = length (auxiliaries len v)

before_next : (len : Lengths) (v : ℕ) → before len (suc v) ≡ before len v + (len lead v + len lag v)
before_next len v =
    omega (arith, length-append (auxiliaries len v) (chain v lead (len lead v) ++ chain v lag (len lag v)), length-append (chain v lead (len lead v)) (chain v lag (len lag v)), length_chain v lead (len lead v), length_chain v lag (len lag v))

got_left : (xs : List First) (x : First) (v : ℕ) → v < length xs → get_or (xs ++ x ∷ []) v no_first ≡ get_or xs v no_first
got_left [] x v l = absurd (omega arith)
got_left (y ∷ xs) x zero l = refl
got_left (y ∷ xs) x (suc v) l = got_left xs x v (omega arith)

got_last : (xs : List First) (x : First) (v : ℕ) → v ≡ length xs → get_or (xs ++ x ∷ []) v no_first ≡ x
got_last [] x zero e = refl
got_last [] x (suc v) e = absurd (omega arith)
got_last (y ∷ xs) x zero e = absurd (omega arith)
got_last (y ∷ xs) x (suc v) e = got_last xs x v (omega arith)

-- those of the first so many variables, and the place behind them
pub record Begun (start : ℕ) (rs : List Reach) (fs : List First) (place i : ℕ) : Type 0 where
  pub count : length fs ≡ i
  pub next : place ≡ start + before (lengths_of rs) i
  pub small : place ≤ start + 131072 * i
  pub leads : (v : ℕ) → v < i → (get_or fs v no_first).lead ≡ start + before (lengths_of rs) v
  pub lags : (v : ℕ) → v < i → (get_or fs v no_first).lag ≡ start + (before (lengths_of rs) v + lengths_of rs lead v)

module _ (start : ℕ) (rs : List Reach) (fs : List First) (place i : ℕ) (b : Begun start rs fs place i) (r : Reach) (got : slice_get rs i ≡ Some r) where
  l : i < length rs
  l = slice_get_within rs i r got

  is : r ≡ get_or rs i r
  is = sym (get_or_from_slice_get rs i r r got)

  leads_here : lengths_of rs lead i ≡ r.lead - 1
  leads_here = ap (λ (x : Reach). x.lead - 1) (row_at rs i r l is)

  lags_here : lengths_of rs lag i ≡ r.lag - 1
  lags_here = ap (λ (x : Reach). x.lag - 1) (row_at rs i r l is)

  pub begun_more : (more : List First) (x : First) (end : ℕ) → more ≡ fs ++ x ∷ [] → x.lead ≡ place → x.lag ≡ place + (r.lead - 1) → end ≡ x.lag + (r.lag - 1) → r.lead - 1 < 65536 → r.lag - 1 < 65536 → Begun start rs more end (i + 1)
  begun_more more x end e p q g u w = record {
    count = omega (arith, ap (λ (l : List First). length l) e, length-append fs (x ∷ []), b.count);
    next = omega (arith, b.next, p, q, g, leads_here, lags_here, before_next (lengths_of rs) i, ap (before (lengths_of rs)) (add-one i));
    small = omega (arith, b.small, q, g, u, w);
    leads = λ v h. ap (λ (l : List First). (get_or l v no_first).lead) e ∙ lead_at v (cases_lt v i) h;
    lags = λ v h. ap (λ (l : List First). (get_or l v no_first).lag) e ∙ lag_at v (cases_lt v i) h;
  }
    where
      lead_at : (v : ℕ) → (v < i) ⊎ (i ≤ v) → v < i + 1 → (get_or (fs ++ x ∷ []) v no_first).lead ≡ start + before (lengths_of rs) v
      lead_at v (inl h) m = ap (λ (y : First). y.lead) (got_left fs x v (omega (arith, h, b.count))) ∙ b.leads v h
      lead_at v (inr h) m =
          let s : i ≡ v = omega arith in
          ap (λ (y : First). y.lead) (got_last fs x v (omega (arith, b.count))) ∙ p ∙ b.next ∙ ap (λ (n : ℕ). start + before (lengths_of rs) n) s

      lag_at : (v : ℕ) → (v < i) ⊎ (i ≤ v) → v < i + 1 → (get_or (fs ++ x ∷ []) v no_first).lag ≡ start + (before (lengths_of rs) v + lengths_of rs lead v)
      lag_at v (inl h) m = ap (λ (y : First). y.lag) (got_left fs x v (omega (arith, h, b.count))) ∙ b.lags v h
      lag_at v (inr h) m =
          let s : i ≡ v = omega arith in
          ap (λ (y : First). y.lag) (got_last fs x v (omega (arith, b.count)))
          ∙ omega (arith, q, b.next, leads_here)
          ∙ ap (λ (n : ℕ). start + (before (lengths_of rs) n + lengths_of rs lead n)) s

pub begun_none : (start : ℕ) (rs : List Reach) → Begun start rs [] start 0
begun_none start rs = record {
  count = refl;
  next = omega arith;
  small = omega arith;
  leads = λ v h. absurd (omega arith);
  lags = λ v h. absurd (omega arith);
}

pub begun_all : (start : ℕ) (rs : List Reach) (fs : List First) (place i : ℕ) → i ≡ length rs → Begun start rs fs place i → AreFirstFrom start rs fs
begun_all start rs fs place i e b = record {
  count = b.count ∙ e;
  leads = λ v h. b.leads v (omega arith);
  lags = λ v h. b.lags v (omega arith);
}

-- ---- those of a model

pub are_first : (M : Model) (rs : List Reach) (start : ℕ) (fs : List First) → AreReaches M rs → start ≡ width M → AreFirstFrom start rs fs → AreFirst M fs
are_first M rs start fs r s f = record { count = f.count ∙ r.count; each = each }
  where
    same : (v : ℕ) → before (lengths_of rs) v ≡ before (lengths M) v
    same v = ap (λ (l : List Auxiliary). length l) (auxiliaries_same (lengths_of rs) (lengths M) (λ d u. let e = r.each d u in omega (arith, e)) v)

    each : (v : ℕ) (d : Direction) (k : ℕ) → v < width M → stand_by fs v d k ≡ stand_in_of M v d k
    each v d zero h = refl
    each v lead (suc k) h = omega (arith, f.leads v (omega (arith, r.count)), same v, s)
    each v lag (suc k) h = let e = r.each lead v in omega (arith, f.lags v (omega (arith, r.count)), same v, s, e)
