-- The lists of a system after a write, and the places of a band.
use Rattle.std.proofs.Common.{◌≡◌, ℕ, ℤ, zero, suc, ◌+◌, ◌-◌, ◌*◌, ◌/◌, ◌^◌, ◌<◌, ◌≤◌, pos, List, [], map, length, get_or, set, replicate, Result, Ok, Err, Some, MatchResult, refl, ap, sym, ◌∙◌, subst, arith, inl, inr, get_or-set_other, get_or-set_same}
use Rattle.std.specs.Prelude.{slice_get, IsTrue, nat_le, ◌↔◌}
use Rattle.std.specs.List.{range_with_len}
use Rattle.std.proofs.Math.ListN.{length-set}
use Rattle.std.proofs.Math.Nat.{div-mul-le_self, lt-div-mul-add, div-eq_of_lt-le, mul-le-mul_right, mul_assoc}
use Rattle.std.proofs.lemmas.Bool.{cases_eq}
use Rattle.std.proofs.lemmas.Bool.Decides.{nat_tests}
use Rattle.std.proofs.lemmas.List.{get_or-replicate, length-replicate}
use Rattle.std.proofs.lemmas.Option.{slice_get-get_or}
use Rattle.std.proofs.lemmas.List.FromFn.{fill_by_all, get_or-map-range_with_len, length-map-range_with_len}
use Rattle.mp_elim.specs.declared.ElimFault.{ElimFault}
use Rattle.mp_elim.specs.Elimination.{System, put, put_right, whole, solution, row_lists, column_list, IsWithin}
use Rattle.mp_elim.specs.Shape.{IsTridiagonal, IsSquare}
use Rattle.mp_elim.proofs.Zeros.{put_here, put_other}
use Rattle.mp_elim.proofs.Lists.{system_again, solution_again}
use Rattle.mp_sheet.specs.Layout.{Form, IsKept, nothing, first_of}
use Rattle.mp_sheet.specs.Walks.{Leads}
use Rattle.mp_sheet.proofs.Reach.{cube}
use Rattle.mp_band.specs.Blocks.{Blocks, IsBand, IsPlace, IsInShape, blocks_of, zeros, with_entry, with_right, count_of}

-- a list by places, of which one is another
map_put : {X : Type 0} (f g : ℕ → X) (m i : ℕ) (x : X) → i < m → g i ≡ x → ((r : ℕ) → (r ≡ i → ⊥) → g r ≡ f r)
    → map g (range_with_len 0 m) ≡ set (map f (range_with_len 0 m)) i x
map_put f g m i x l here there =
    let n : length (map f (range_with_len 0 m)) ≡ m = length-map-range_with_len f 0 m in
    sym (fill_by_all g (set (map f (range_with_len 0 m)) i x) m x (length-set (map f (range_with_len 0 m)) i x ∙ n) (λ k h. elim (cases_eq k i) [
      | inl e ↦ ap (λ (r : ℕ). get_or (set (map f (range_with_len 0 m)) i x) r x) e
          ∙ (get_or-set_same (map f (range_with_len 0 m)) i x x (omega (arith, n, l)) ∙ (sym here ∙ ap g (sym e)))
      | inr ne ↦ get_or-set_other (map f (range_with_len 0 m)) i k x x ne ∙ (get_or-map-range_with_len f 0 m k k x h (omega arith) ∙ sym (there k ne))
    ]))

map_same : {X : Type 0} (f g : ℕ → X) (n a : ℕ) → ((k : ℕ) → f k ≡ g k) → map f (range_with_len a n) ≡ map g (range_with_len a n)
map_same f g zero a h = refl
map_same f g (suc n) a h = rw (h a, map_same f g n (a + 1) h) refl

map_all : {X : Type 0} (x : X) (m : ℕ) → map (λ (i : ℕ). x) (range_with_len 0 m) ≡ replicate m x
map_all x m = sym (fill_by_all (λ (i : ℕ). x) (replicate m x) m x (length-replicate m x) (λ k h. get_or-replicate m k x x h))

put_row : (s : System) (i k : ℕ) (x : ℤ) (m : ℕ) → k < m → map ((put s i k x).at i) (range_with_len 0 m) ≡ set (map (s.at i) (range_with_len 0 m)) k x
put_row s i k x m l = map_put (s.at i) ((put s i k x).at i) m k x l (put_here s i k x) (λ c ne. put_other s i k x i c (λ p q. absurd (ne q)))

rows_put : (s : System) (i k : ℕ) (x : ℤ) (m : ℕ) → i < m → k < m → row_lists (put s i k x) m ≡ set (row_lists s m) i (set (get_or (row_lists s m) i []) k x)
rows_put s i k x m li lk =
    let row : get_or (row_lists s m) i [] ≡ map (s.at i) (range_with_len 0 m) = get_or-map-range_with_len (λ r. map (s.at r) (range_with_len 0 m)) 0 m i i [] li (omega arith) in
    map_put (λ r. map (s.at r) (range_with_len 0 m)) (λ r. map ((put s i k x).at r) (range_with_len 0 m)) m i
    (set (get_or (row_lists s m) i []) k x) li
    (put_row s i k x m lk ∙ ap (λ (ys : List ℤ). set ys k x) (sym row))
    (λ r ne. map_same ((put s i k x).at r) (s.at r) m 0 (λ c. put_other s i k x r c (λ p q. absurd (ne p))))

column_put : (s : System) (i : ℕ) (x : ℤ) (m : ℕ) → i < m → column_list (put_right s i x) m ≡ set (column_list s m) i x
column_put s i x m l = map_put s.right (put_right s i x).right m i x l (grind arith) (λ r ne. grind arith)

-- a system with 0 everywhere
pub nothing_blocks : (t n : ℕ) (s : System) → s ≡ nothing → blocks_of t n s ≡ zeros t n
unfolding blocks_of
nothing_blocks t n s h =
    let m : ℕ = t * n in
    let a : row_lists nothing m ≡ replicate m (replicate m (pos 0)) =
    map_same (λ i. map (nothing.at i) (range_with_len 0 m)) (λ i. replicate m (pos 0)) m 0 (λ i. map_all (pos 0) m) ∙ map_all (replicate m (pos 0)) m in
    let b : column_list nothing m ≡ replicate m (pos 0) = map_all (pos 0) m in
    ap (λ (u : System). blocks_of t n u) h
    ∙ (ap (λ (x : List (List ℤ)). let c : Blocks = record { periods = t; size = n; rows = x; right = column_list nothing m } in c) a
    ∙ ap (λ (x : List ℤ). let c : Blocks = record { periods = t; size = n; rows = replicate m (replicate m (pos 0)); right = x } in c) b)

pub entry_blocks : (t n : ℕ) (s u : System) (b : Blocks) (row column : ℕ) (x : ℤ) → blocks_of t n s ≡ b → u ≡ put s (row - 1) (column - 1) x → IsPlace b row column
    → blocks_of t n u ≡ with_entry b row column x
unfolding blocks_of
entry_blocks t n s u b row column x e h p =
    subst (λ (c : Blocks). IsPlace c row column → blocks_of t n u ≡ with_entry c row column x) e
    (λ q. let f = q.from in let w = q.within in
    rw h (ap (λ (y : List (List ℤ)). let c : Blocks = record { periods = t; size = n; rows = y; right = column_list s (t * n) } in c)
    (rows_put s (row - 1) (column - 1) x (t * n) (omega (arith, f.0, w.0)) (omega (arith, f.1, w.1))))) p

pub right_blocks : (t n : ℕ) (s u : System) (b : Blocks) (row : ℕ) (x : ℤ) → blocks_of t n s ≡ b → u ≡ put_right s (row - 1) x → 1 ≤ row → row ≤ count_of b
    → blocks_of t n u ≡ with_right b row x
unfolding blocks_of
right_blocks t n s u b row x e h p q =
    subst (λ (c : Blocks). row ≤ count_of c → blocks_of t n u ≡ with_right c row x) e
    (λ l. rw h (ap (λ (y : List ℤ). let c : Blocks = record { periods = t; size = n; rows = row_lists s (t * n); right = y } in c)
    (column_put s (row - 1) x (t * n) (omega (arith, p, l))))) q

-- the shape, of the lists and of the system
pub shape_in : (t n : ℕ) (s : System) (b : Blocks) → blocks_of t n s ≡ b → IsWithin (t * n) s → IsInShape b → IsTridiagonal n s
unfolding blocks_of
shape_in t n s b e w h = subst (λ (u : System). IsTridiagonal n u) (system_again s (t * n) w) (subst (λ (c : Blocks). IsInShape c) (sym e) h)

pub shape_out : (t n : ℕ) (s : System) → IsWithin (t * n) s → IsTridiagonal n s → IsInShape (blocks_of t n s)
unfolding blocks_of
shape_out t n s w h = subst (λ (u : System). IsTridiagonal n u) (sym (system_again s (t * n) w)) h

-- a place in the shape is kept
kept_place : (n m i k : ℕ) (f : Form) → 0 < n → f.block ≡ n → f.count ≡ m → f.lead ≡ n → f.width ≡ 4 * n → i < m → k < m → i / n ≤ k / n + 1 → k / n ≤ i / n + 1 → IsKept f i k
kept_place n m i k f z hb hc hl hw li lk a b =
    let first : first_of f i ≡ i / n * n = ap (λ (x : ℕ). i / x * x) hb in
    let low : i / n * n ≤ (k / n + 1) * n = mul-le-mul_right n a in
    let high : k / n * n ≤ (i / n + 1) * n = mul-le-mul_right n b in
    let under : k / n * n ≤ k = div-mul-le_self k n in
    let over : k < k / n * n + n = lt-div-mul-add z in
    record {
      row = omega (arith, hc);
      inside = omega (arith, hc);
      low = rw first (omega (arith, low, under, hl));
      high = rw first (omega (arith, high, over, hl, hw));
    }

some_rows : (t n row : ℕ) → 1 ≤ row → row ≤ t * n → 0 < n
some_rows t zero row h k = let e : t * zero ≡ zero = omega arith in absurd (omega (arith, h, k, e))
some_rows t (suc n) row h k = omega arith

pub block_is : (t n : ℕ) (f : Form) → IsBand t n f → 0 < n → f.block ≡ n
block_is t n f h z = h.block ∙ (grind arith)

in_band : (t n : ℕ) (s : System) (f : Form) (row column : ℕ) → IsBand t n f → IsPlace (blocks_of t n s) row column → IsKept f (row - 1) (column - 1)
unfolding blocks_of
in_band t n s f row column h p =
    let r = p.from in
    let w = p.within in
    let z : 0 < n = some_rows t n row r.0 w.0 in
    let e : f.block ≡ n = block_is t n f h z in
    kept_place n (t * n) (row - 1) (column - 1) f z e h.count (h.lead ∙ e) (h.width ∙ ap (λ (x : ℕ). 4 * x) e)
    (omega (arith, r.0, w.0)) (omega (arith, r.1, w.1)) p.low p.high

pub place_kept : (t n : ℕ) (s : System) (f : Form) (b : Blocks) (row column : ℕ) → blocks_of t n s ≡ b → IsBand t n f → IsPlace b row column → IsKept f (row - 1) (column - 1)
place_kept t n s f b row column e h p = in_band t n s f row column h (subst (λ (c : Blocks). IsPlace c row column) (sym e) p)

pub row_kept : (t n : ℕ) (s : System) (f : Form) (b : Blocks) (row : ℕ) → blocks_of t n s ≡ b → IsBand t n f → 1 ≤ row → row ≤ count_of b → row - 1 < f.count
unfolding blocks_of
row_kept t n s f b row e h p q =
    let l : row ≤ t * n = subst (λ (c : Blocks). row ≤ count_of c) (sym e) q in
    let k = h.count in omega (arith, p, l, k)

pub some_size : (t n : ℕ) (s : System) (b : Blocks) (row : ℕ) → blocks_of t n s ≡ b → 1 ≤ row → row ≤ count_of b → 0 < n
unfolding blocks_of
some_size t n s b row e p q = some_rows t n row p (subst (λ (c : Blocks). row ≤ count_of c) (sym e) q)

-- the test of a place
pub place_then : (t n : ℕ) (s : System) (b : Blocks) (row column : ℕ) → blocks_of t n s ≡ b → 1 ≤ row → 1 ≤ column → row ≤ count_of b → column ≤ count_of b
    → (row - 1) / n ≤ (column - 1) / n + 1 → IsTrue (nat_le ((column - 1) / n) ((row - 1) / n + 1)) ↔ IsPlace b row column
unfolding blocks_of
place_then t n s b row column e r c rl cl h =
    let z : n ≡ b.size = ap (λ (x : Blocks). x.size) e in (
      λ p. record {
        from = (r, c);
        within = (rl, cl);
        low = subst (λ (x : ℕ). (row - 1) / x ≤ (column - 1) / x + 1) z h;
        high = subst (λ (x : ℕ). (column - 1) / x ≤ (row - 1) / x + 1) z (grind (arith, nat_tests));
      },
      λ p. let k : (column - 1) / n ≤ (row - 1) / n + 1 = subst (λ (x : ℕ). (column - 1) / x ≤ (row - 1) / x + 1) (sym z) p.high in grind (arith, nat_tests),
    )

pub place_else : (t n : ℕ) (s : System) (b : Blocks) (row column : ℕ) → blocks_of t n s ≡ b → (column - 1) / n + 1 < (row - 1) / n → IsPlace b row column → ⊥
unfolding blocks_of
place_else t n s b row column e h p =
    let z : n ≡ b.size = ap (λ (x : Blocks). x.size) e in
    let k : (row - 1) / n ≤ (column - 1) / n + 1 = subst (λ (x : ℕ). (row - 1) / x ≤ (column - 1) / x + 1) (sym z) p.low in
    omega (arith, h, k)

-- a place in the shape leaves the system in it
pub put_shape : (n : ℕ) (s : System) (i k : ℕ) (x : ℤ) → 0 < n → i / n ≤ k / n + 1 → k / n ≤ i / n + 1 → IsTridiagonal n s → IsTridiagonal n (put s i k x)
put_shape n s i k x z a b h =
    let under : k / n * n ≤ k = div-mul-le_self k n in
    let over : k < k / n * n + n = lt-div-mul-add z in
    let low : i / n * n ≤ (k / n + 1) * n = mul-le-mul_right n a in
    let high : k / n * n ≤ (i / n + 1) * n = mul-le-mul_right n b in
    record {
      low = λ t r c p q u. put_other s i k x r c (λ e g. absurd (
          let f : i / n ≡ t = div-eq_of_lt-le n (omega arith) (omega arith) in
          let m : i / n * n ≡ t * n = ap (λ (y : ℕ). y * n) f in
          omega (arith, m, low, under, over, u, g))) ∙ h.low t r c p q u;
      high = λ t r c p q u. put_other s i k x r c (λ e g. absurd (
          let f : i / n ≡ t = div-eq_of_lt-le n (omega arith) (omega arith) in
          let m : i / n * n ≡ t * n = ap (λ (y : ℕ). y * n) f in
          omega (arith, m, high, under, over, u, g))) ∙ h.high t r c p q u;
    }

put_within : (m : ℕ) (s : System) (i k : ℕ) (x : ℤ) → i < m → k < m → IsWithin m s → IsWithin m (put s i k x)
put_within m s i k x li lk h = record {
  rows = λ r c l. put_other s i k x r c (λ p q. absurd (omega arith)) ∙ h.rows r c l;
  columns = λ r c l. put_other s i k x r c (λ p q. absurd (omega arith)) ∙ h.columns r c l;
  rights = h.rights;
}

right_within : (m : ℕ) (s : System) (i : ℕ) (x : ℤ) → i < m → IsWithin m s → IsWithin m (put_right s i x)
right_within m s i x li h = record {
  rows = h.rows;
  columns = h.columns;
  rights = λ r l. let e : (r ≡ i → ⊥) = (λ p. omega arith) in let k = h.rights r l in grind arith;
}

entry_in : (t n : ℕ) (s u : System) (row column : ℕ) (x : ℤ) → IsWithin (t * n) s → u ≡ put s (row - 1) (column - 1) x → IsPlace (blocks_of t n s) row column
    → IsInShape (blocks_of t n s) → IsInShape (blocks_of t n u)
unfolding blocks_of
entry_in t n s u row column x ws e p h =
    let f = p.from in
    let w = p.within in
    let z : 0 < n = some_rows t n row f.0 w.0 in
    let new : System = put s (row - 1) (column - 1) x in
    subst (λ (v : System). IsInShape (blocks_of t n v)) (sym e)
    (shape_out t n new (put_within (t * n) s (row - 1) (column - 1) x (omega (arith, f.0, w.0)) (omega (arith, f.1, w.1)) ws)
    (put_shape n s (row - 1) (column - 1) x z p.low p.high (shape_in t n s (blocks_of t n s) refl ws h)))

pub entry_shape : (t n m : ℕ) (s u : System) (b : Blocks) (row column : ℕ) (x : ℤ) → blocks_of t n s ≡ b → m ≡ t * n → IsWithin m s
    → u ≡ put s (row - 1) (column - 1) x → IsPlace b row column → IsInShape b → IsInShape (blocks_of t n u)
entry_shape t n m s u b row column x e hm ws h p k =
    entry_in t n s u row column x (subst (λ (y : ℕ). IsWithin y s) hm ws) h (subst (λ (c : Blocks). IsPlace c row column) (sym e) p) (subst (λ (c : Blocks). IsInShape c) (sym e) k)

pub right_shape : (t n m : ℕ) (s u : System) (b : Blocks) (i : ℕ) (x : ℤ) → blocks_of t n s ≡ b → m ≡ t * n → i < m → IsWithin m s
    → u ≡ put_right s i x → IsInShape b → IsInShape (blocks_of t n u)
right_shape t n m s u b i x e hm l ws h k =
    let w : IsWithin (t * n) s = subst (λ (y : ℕ). IsWithin y s) hm ws in
    let old : IsTridiagonal n s = shape_in t n s b e w k in
    subst (λ (v : System). IsInShape (blocks_of t n v)) (sym h)
    (shape_out t n (put_right s i x) (right_within (t * n) s i x (omega (arith, l, hm)) w) record { low = old.low; high = old.high })

pub block_shape : (t n m block : ℕ) (s : System) (b : Blocks) → blocks_of t n s ≡ b → m ≡ t * n → IsWithin m s → block ≡ n → IsInShape b → IsTridiagonal block s
block_shape t n m block s b e hm ws hb h =
    subst (λ (y : ℕ). IsTridiagonal y s) (sym hb) (shape_in t n s b e (subst (λ (y : ℕ). IsWithin y s) hm ws) h)

pub zeros_shape : (t n : ℕ) (u : System) → u ≡ nothing → IsInShape (blocks_of t n u)
zeros_shape t n u h = subst (λ (v : System). IsInShape (blocks_of t n v)) (sym h)
    (shape_out t n nothing record { rows = λ i k l. refl; columns = λ i k l. refl; rights = λ i l. refl } record { low = λ t i k a b c. refl; high = λ t i k a b c. refl })

-- the lists of a band
pub blocks_periods : (t n : ℕ) (s u : System) (b : Blocks) → blocks_of t n s ≡ b → (blocks_of t n u).periods ≡ b.periods
unfolding blocks_of
blocks_periods t n s u b e = ap (λ (c : Blocks). c.periods) e

pub blocks_size : (t n : ℕ) (s u : System) (b : Blocks) → blocks_of t n s ≡ b → (blocks_of t n u).size ≡ b.size
unfolding blocks_of
blocks_size t n s u b e = ap (λ (c : Blocks). c.size) e

pub blocks_count : (t n : ℕ) (s : System) (b : Blocks) → blocks_of t n s ≡ b → t * n ≡ count_of b
unfolding blocks_of
blocks_count t n s b e = ap (λ (c : Blocks). count_of c) e

pub blocks_zeros : (t n : ℕ) (s u : System) (b : Blocks) → blocks_of t n s ≡ b → u ≡ nothing → blocks_of t n u ≡ zeros b.periods b.size
unfolding blocks_of
blocks_zeros t n s u b e h = nothing_blocks t n u h ∙ ap (λ (c : Blocks). zeros c.periods c.size) e

pub blocks_rows : (t n : ℕ) (s : System) (b : Blocks) → blocks_of t n s ≡ b → length b.rows ≡ t * n
unfolding blocks_of
blocks_rows t n s b e = ap (λ (c : Blocks). length c.rows) (sym e) ∙ length-map-range_with_len (λ i. map (s.at i) (range_with_len 0 (t * n))) 0 (t * n)

lists_square : (s : System) (m : ℕ) → IsSquare (row_lists s m) (column_list s m)
lists_square s m =
    let n : length (row_lists s m) ≡ m = length-map-range_with_len (λ i. map (s.at i) (range_with_len 0 m)) 0 m in
    record {
      rows = λ i l. ap (λ (ys : List ℤ). length ys) (get_or-map-range_with_len (λ i. map (s.at i) (range_with_len 0 m)) 0 m i i [] (omega (arith, n, l)) (omega arith))
          ∙ (length-map-range_with_len (s.at i) 0 m ∙ sym n);
      right = length-map-range_with_len s.right 0 m ∙ sym n;
    }

pub blocks_square : (t n : ℕ) (s : System) (b : Blocks) → blocks_of t n s ≡ b → IsSquare b.rows b.right
unfolding blocks_of
blocks_square t n s b e = subst (λ (c : Blocks). IsSquare c.rows c.right) e (lists_square s (t * n))

pub blocks_answer : (t n : ℕ) (s : System) (b : Blocks) (column : ℕ) → blocks_of t n s ≡ b → 1 ≤ column → column ≤ count_of b → slice_get b.right (column - 1) ≡ Some (s.right (column - 1))
unfolding blocks_of
blocks_answer t n s b column e h l =
    subst (λ (c : Blocks). column ≤ count_of c → slice_get c.right (column - 1) ≡ Some (s.right (column - 1))) e
    (λ k. let m : length (column_list s (t * n)) ≡ t * n = length-map-range_with_len s.right 0 (t * n) in
    slice_get-get_or (column_list s (t * n)) (column - 1) (pos 0) (omega (arith, m, h, k))
    ∙ ap (λ (x : ℤ). Some x) (get_or-map-range_with_len s.right 0 (t * n) (column - 1) (column - 1) (pos 0) (omega (arith, h, k)) (omega arith))) l

-- what the walk of the whole system says of the lists
lists_say : (r : Result (Unit {0}) ElimFault) (s t : System) (m : ℕ) (threshold : ℤ) → IsWithin m s → Leads r (whole m threshold s) t
    → MatchResult r (λ _. solution (row_lists s m) (column_list s m) threshold ≡ Ok (column_list t m)) (λ e. solution (row_lists s m) (column_list s m) threshold ≡ Err e)
lists_say (Ok u) s t m threshold h w = solution_again s m threshold h ∙ rw w refl
lists_say (Err d) s t m threshold h w = solution_again s m threshold h ∙ rw w refl

pub blocks_say : (r : Result (Unit {0}) ElimFault) (t n m : ℕ) (s u : System) (b : Blocks) (threshold : ℤ) → blocks_of t n s ≡ b → m ≡ t * n → IsWithin m s → Leads r (whole m threshold s) u
    → MatchResult r (λ _. solution b.rows b.right threshold ≡ Ok (blocks_of t n u).right) (λ e. solution b.rows b.right threshold ≡ Err e)
unfolding blocks_of
blocks_say r t n m s u b threshold e h w l =
    subst (λ (c : Blocks). MatchResult r (λ _. solution c.rows c.right threshold ≡ Ok (blocks_of t n u).right) (λ e. solution c.rows c.right threshold ≡ Err e)) e
    (lists_say r s u (t * n) threshold (subst (λ (x : ℕ). IsWithin x s) h w) (subst (λ (x : ℕ). Leads r (whole x threshold s) u) h l))

-- no rows
pub blocks_none : (t n : ℕ) (s : System) (b : Blocks) (threshold : ℤ) → blocks_of t n s ≡ b → n ≡ 0 → solution b.rows b.right threshold ≡ Ok b.right
unfolding blocks_of
blocks_none t n s b threshold e z =
    let m : t * n ≡ 0 = ap (λ (x : ℕ). t * x) z ∙ omega arith in
    let empty : solution (row_lists s (t * n)) (column_list s (t * n)) threshold ≡ Ok (column_list s (t * n)) = rw m refl in
    subst (λ (c : Blocks). solution c.rows c.right threshold ≡ Ok c.right) e empty

-- the operations, by periods
pub blocks_cost : (t n : ℕ) (s : System) (b : Blocks) (m block old new : ℕ) → blocks_of t n s ≡ b → m ≡ t * n → block ≡ n → new ≤ old + m * (12 * block * block + 6 * block)
    → new ≤ old + b.periods * (12 * b.size ^ 3 + 6 * b.size ^ 2)
unfolding blocks_of
blocks_cost t n s b m block old new e hm hb h =
    let c : m * (12 * block * block + 6 * block) ≡ t * (12 * n ^ 3 + 6 * n ^ 2) = rw (hm, hb) (mul_assoc t n (12 * n * n + 6 * n) ∙ ap (λ (x : ℕ). t * x) (cube n)) in
    subst (λ (c : Blocks). new ≤ old + c.periods * (12 * c.size ^ 3 + 6 * c.size ^ 2)) e (omega (arith, h, c))
