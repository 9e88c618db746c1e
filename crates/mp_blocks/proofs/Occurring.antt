-- From marks to rows, and rows that are gone through.
use Rattle.std.proofs.Common.{◌≡◌, ◌↔◌, ◌<◌, ◌≤◌, ◌+◌, inl, inr, ℕ, zero, suc, Bool, true, false, List, [], ◌∷◌, ◌++◌, length, get_or, map, take, replicate, Some, refl, sym, ap, ◌∙◌, subst, arith}
use Rattle.std.specs.List.{filter, AllByRecursion}
use Rattle.std.proofs.lemmas.Bool.{cases_lt, true≢false}
use Rattle.std.proofs.lemmas.List.{get_or_append_left, get_or_push, length_push, length-map, length-replicate, get_or-replicate, length-take-le, map_more, take_all}
use Rattle.std.proofs.lemmas.Option.{slice_get_within, get_or_from_slice_get, slice_get-get_or}
use Rattle.mp_semantics.specs.Term.{Term}
use Rattle.mp_semantics.specs.Model as m
use Rattle.mp_pairing.specs.Lists.{IsMarked}
use Rattle.mp_model_data.specs.declared.parts.Equation.{Equation}
use Rattle.mp_graph.specs.Shared.{Shared}
use Rattle.mp_model_data.specs.Shown.{Held, Sides, IsWithin, sides_of, equation_in, source_data}
use Rattle.mp_blocks.specs.Marks.{AddsMarks}
use Rattle.mp_blocks.specs.Rows.{OccursIn, IsRow, AreRowsOf, AreRows, IsSquare}

pub row_of : (n : ℕ) (e : m.Equation) (full : List Bool) (xs : List ℕ) → AddsMarks (λ v. OccursIn v e) (replicate n false) full → IsMarked full (length full) xs → IsRow n e xs
row_of n e full xs a m =
    let count = length-replicate n false in
    let size = a.size in
    record {
      rising = m.rising;
      only = λ v h.
          let o = m.only h.0 h.1 in
          let low = o.0 in
          let below : v < n = subst (λ (k : ℕ). k < n) h.2 (omega arith) in
          let is = subst (λ (k : ℕ). get_or full k false ≡ true) h.2 o.1 in (
            below,
            elim ((a.each v (omega arith)).0 is) [
              | inl s ↦ absurd (true≢false (sym s ∙ get_or-replicate n v false false below))
              | inr p ↦ p
            ],
          );
      each = λ v l o. m.each v (omega arith) ((a.each v (omega arith)).1 (inr o));
    }

pub rows_none : (n : ℕ) → AreRowsOf n [] []
rows_none n = record { count = refl; each = λ i e h. let l = slice_get_within [] i e h in absurd (omega arith) }

pub rows_more : (n : ℕ) (es : List m.Equation) (rows : List (List ℕ)) (e : m.Equation) (r : List ℕ) → AreRowsOf n es rows → IsRow n e r → AreRowsOf n (es ++ e ∷ []) (rows ++ r ∷ [])
rows_more n es rows e r are row =
    let count = are.count in
    let k = length_push es e in
    let l = length_push rows r in
    record {
      count = omega arith;
      each = λ i x h.
          let within = slice_get_within (es ++ e ∷ []) i x h in
          let is = get_or_from_slice_get (es ++ e ∷ []) i x x h in
          elim (cases_lt i (length es)) [
            | inl low ↦
                let was : get_or es i x ≡ x = sym (get_or_append_left es (e ∷ []) x i low) ∙ is in
                subst (λ (ys : List ℕ). IsRow n x ys) (sym (get_or_append_left rows (r ∷ []) [] i (omega arith)))
                (are.each i x (slice_get-get_or es i x low ∙ ap (λ (y : m.Equation). Some y) was))
            | inr high ↦
                let last : length es ≡ i = omega arith in
                let same : e ≡ x = sym (get_or_push es e x i last) ∙ is in
                subst (λ (ys : List ℕ). IsRow n x ys) (sym (get_or_push rows r [] i (omega arith))) (subst (λ (y : m.Equation). IsRow n y r) same row)
          ];
    }

pub rows_step : (n : ℕ) (ts : List Term) (xs : List Equation) (i : ℕ) (x : Equation) (r : List ℕ) (rows : List (List ℕ)) → AreRowsOf n (map (λ x. equation_in ts (sides_of x)) (take i xs)) rows
    → i < length xs → x ≡ get_or xs i x → IsRow n (equation_in ts (sides_of x)) r → AreRowsOf n (map (λ x. equation_in ts (sides_of x)) (take (i + 1) xs)) (rows ++ r ∷ [])
rows_step n ts xs i x r rows are l is row =
    let f = λ (y : Equation). equation_in ts (sides_of y) in
    subst (λ (es : List m.Equation). AreRowsOf n es (rows ++ r ∷ [])) (sym (map_more f xs i x l))
    (rows_more n (map f (take i xs)) rows (f (get_or xs i x)) r are (subst (λ (y : Equation). IsRow n (f y) r) is row))

within_at : (g : Shared) (xs : List Equation) (i : ℕ) (d : Equation) → AllByRecursion (IsWithin g) (map sides_of xs) → i < length xs → IsWithin g (sides_of (get_or xs i d))
within_at g [] i d a h = absurd (omega arith)
within_at g (x ∷ xs) zero d a h = a.0
within_at g (x ∷ xs) (suc i) d a h = within_at g xs i d a.1 (omega arith)

pub sides_within : (g : Shared) (xs : List Equation) (ss : List Sides) (i : ℕ) (x : Equation) → AllByRecursion (IsWithin g) ss → map sides_of xs ≡ ss → i < length xs → x ≡ get_or xs i x → IsWithin g (sides_of x)
sides_within g xs ss i x a e l is =
    subst (λ (y : Equation). IsWithin g (sides_of y)) (sym is) (within_at g xs i x (subst (λ (ys : List Sides). AllByRecursion (IsWithin g) ys) (sym e) a) l)

all_in_force : (ts : List Term) (ss : List Sides) → filter (m.is_in_force []) (map (equation_in ts) ss) ≡ map (equation_in ts) ss
all_in_force ts [] = refl
all_in_force ts (s ∷ ss) = ap (λ (es : List m.Equation). equation_in ts s ∷ es) (all_in_force ts ss)

maps : (ts : List Term) (xs : List Equation) → map (λ x. equation_in ts (sides_of x)) xs ≡ map (equation_in ts) (map sides_of xs)
maps ts [] = refl
maps ts (x ∷ xs) = ap (λ (es : List m.Equation). equation_in ts (sides_of x) ∷ es) (maps ts xs)

pub rows_all : (h : Held) (n : ℕ) (xs : List Equation) (i : ℕ) (rows : List (List ℕ)) → AreRowsOf n (map (λ x. equation_in h.graph.terms (sides_of x)) (take i xs)) rows → length xs ≤ i
    → map sides_of xs ≡ h.source → n ≡ h.variables → h.variables ≤ length h.graph.names.endogenous → AreRows (source_data h) rows
rows_all h n xs i rows are far source count few =
    let ts = h.graph.terms in
    let names = h.graph.names.endogenous in
    let es = ap (λ (ys : List Equation). map (λ y. equation_in ts (sides_of y)) ys) (take_all i xs far) ∙ maps ts xs ∙ ap (λ (ss : List Sides). map (equation_in ts) ss) source ∙ sym (all_in_force ts h.source) in
    let size = count ∙ sym (length-take-le h.variables names few) in
    subst (λ (k : ℕ). AreRowsOf k (m.in_force (source_data h) []) rows) size (subst (λ (es : List m.Equation). AreRowsOf n es rows) es are)

-- counts that are the same are those of a square model
pub square_counts : (h : Held) (count : ℕ) → count ≡ length h.source → h.variables ≤ length h.graph.names.endogenous → (count ≡ h.variables) ↔ IsSquare (source_data h)
square_counts h count same few =
    let ts = h.graph.terms in
    let size = ap (λ (es : List m.Equation). length es) (all_in_force ts h.source) ∙ length-map h.source (equation_in ts) in
    let names = length-take-le h.variables h.graph.names.endogenous few in
    ((λ e. size ∙ sym same ∙ e ∙ sym names), (λ e. same ∙ sym size ∙ e ∙ names))
