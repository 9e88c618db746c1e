-- The transformed model has the solutions of the source, and no others.
use Rattle.std.proofs.Common.{◌≡◌, ℕ, suc, ℤ, pos, ◌≤◌, ◌<◌, ◌+ℤ◌, true, Option, List, [], ◌∷◌, ◌++◌, map, refl, ap, sym, ◌∙◌, subst, arith, inl}
use Rattle.std.specs.List.{filter, AllByRecursion as Each}
use Rattle.std.proofs.lemmas.List.Elements.{filter-append}
use Rattle.mp_rational.specs.Fraction.{Fraction}
use Rattle.mp_semantics.specs.Term.{endogenous}
use Rattle.mp_semantics.specs.Model.{Model, Equation, Regime, in_force, is_in_force}
use Rattle.mp_semantics.specs.Solves.{Path, Boundary, Equal, Meets, Solves, regime}
use Rattle.mp_solutions.specs.Auxiliaries.{Direction, lead, shift_by, width, Auxiliary, lengths, auxiliaries_of, stand_in_of}
use Rattle.mp_solutions.specs.Transformed.{short_equation, auxiliary_equation, transformed}
use Rattle.mp_solutions.specs.Extension.{source_environment, extended_environment, HasShiftedValue, HasShiftedValues}
use Rattle.mp_solutions.specs.Laws.{IsClosed, HasSameSides, HasSameSolutions}
use Rattle.mp_solutions.proofs.Lists.{each_append, each_left, each_right, each_map, map_each, each_both, each_filter, filter-map, filter_every, each_get}
use Rattle.mp_solutions.proofs.Numbering.{auxiliary, stand_in_get, each_auxiliary}
use Rattle.mp_solutions.proofs.Periods.{reached, stay, turn}
use Rattle.mp_solutions.proofs.Values.{AllStand, all_stand, all_stand_by_chains, SameSides, same_sides, same_value, has, stand_in_below}

-- the short forms of the source's equations
abbrev pub short_ones : Model → List Equation → List Equation
short_ones M es = map (short_equation (stand_in_of M)) es

-- the equations of the auxiliaries
abbrev pub own_ones : Model → List Equation
own_ones M = map (auxiliary_equation (stand_in_of M)) (auxiliaries_of M)

-- in force are the short forms of what is in force in the source, and the equation of each auxiliary
force_is : (M : Model) (R : Regime) → in_force (transformed M) R ≡ short_ones M (in_force M R) ++ own_ones M
force_is M R =
    filter-append (is_in_force R) (short_ones M M.equations) (own_ones M)
    ∙ ap (λ (es : List Equation). es ++ filter (is_in_force R) (own_ones M)) (filter-map (is_in_force R) (short_equation (stand_in_of M)) M.equations)
    ∙ ap (λ (es : List Equation). short_ones M (in_force M R) ++ es)
    (filter_every (is_in_force R) (own_ones M)
    (each_map (λ e. is_in_force R e ≡ true) (auxiliary_equation (stand_in_of M)) (auxiliaries_of M) (each_true (auxiliaries_of M))))
  where
    each_true : (xs : List Auxiliary) → Each (λ (a : Auxiliary). is_in_force R (auxiliary_equation (stand_in_of M) a) ≡ true) xs
    each_true [] = tt
    each_true (x ∷ xs) = (refl, each_true xs)

pub same_parts : (x y u v : Option Fraction) → x ≡ u → y ≡ v → Equal x y → Equal u v
same_parts x y u v e f h = (h.0, sym e ∙ h.1, sym f ∙ h.2)

module _ (M : Model) (T : ℕ) (b : Boundary) (q : Path) where
  -- an auxiliary's equation is met exactly where it is one period on from the one before it
  chained : (v : ℕ) (d : Direction) (k t : ℕ) → Meets (extended_environment M T b q) t (auxiliary_equation (stand_in_of M) (auxiliary v d k))
      → (extended_environment M T b q).value (endogenous (stand_in_of M v d (suc k))) (pos t) ≡ (extended_environment M T b q).value (endogenous (stand_in_of M v d k)) (pos t +ℤ shift_by d 1)
  chained v d k t h =
      ap (λ (u : ℤ). (extended_environment M T b q).value (endogenous (stand_in_of M v d (suc k))) u) (sym (stay (pos t) lead)) ∙ h.1 ∙ sym h.2

  met : (v : ℕ) (d : Direction) (k t : ℕ) → v < width M → suc k ≤ lengths M d v → 1 ≤ t → t ≤ T
      → (extended_environment M T b q).value (endogenous (stand_in_of M v d (suc k))) (pos t) ≡ (extended_environment M T b q).value (endogenous (stand_in_of M v d k)) (pos t +ℤ shift_by d 1)
      → Meets (extended_environment M T b q) t (auxiliary_equation (stand_in_of M) (auxiliary v d k))
  met v d k t below near l u h =
      let own = has M T b q (stand_in_of M v d (suc k)) t (stand_in_below M v d (suc k) below near) l u in (
        q (stand_in_of M v d (suc k)) (pos t),
        ap (λ (u : ℤ). (extended_environment M T b q).value (endogenous (stand_in_of M v d (suc k))) u) (stay (pos t) lead) ∙ own,
        sym h ∙ own,
      )

  -- ---- from the transformed model to the source

  -- what is in force is met
  parts : (R : List Regime) → Solves (transformed M) T R (extended_environment M T b q) → (t : ℕ) → 1 ≤ t → t ≤ T
      → Each (Meets (extended_environment M T b q) t) (short_ones M (in_force M (regime R t)) ++ own_ones M)
  parts R s t l u = subst (Each (Meets (extended_environment M T b q) t)) (force_is M (regime R t)) (s t l u)

  stands_if_solved : (R : List Regime) → Solves (transformed M) T R (extended_environment M T b q) → AllStand M T b q
  stands_if_solved R s =
      all_stand_by_chains M T b q (λ v d k below near t l u. chained v d k t
      (each_get (λ (a : Auxiliary). Meets (extended_environment M T b q) t (auxiliary_equation (stand_in_of M) a)) (auxiliaries_of M) _ (auxiliary v d k)
      (map_each (Meets (extended_environment M T b q) t) (auxiliary_equation (stand_in_of M)) (auxiliaries_of M)
      (each_right (Meets (extended_environment M T b q) t) (short_ones M (in_force M (regime R t))) (own_ones M) (parts R s t l u)))
      (stand_in_get (lengths M) (width M) v d k below near)))

  shifted_if_standing : AllStand M T b q → HasShiftedValues M T b q
  shifted_if_standing h =
      each_auxiliary
      (HasShiftedValue M T b q)
      (lengths M) (width M)
      (λ v d k below near t l u. sym (same_value M T b q v (pos t +ℤ shift_by d (suc k)) below)
      ∙ sym (h v d (suc k) (pos t) below (omega arith) (inl (t, refl, l, u)))
      ∙ has M T b q (stand_in_of M v d (suc k)) t (stand_in_below M v d (suc k) below (omega arith)) l u)

  solved_in_source : IsClosed M → (R : List Regime) → Solves (transformed M) T R (extended_environment M T b q) → Solves M T R (source_environment M T b q)
  solved_in_source c R s t l u =
      each_both (SameSides M T b q t) (λ (e : Equation). Meets (extended_environment M T b q) t (short_equation (stand_in_of M) e)) (Meets (source_environment M T b q) t)
      (λ e h m. same_parts _ _ _ _ h.0 h.1 m)
      (in_force M (regime R t))
      (each_filter (SameSides M T b q t) (is_in_force (regime R t)) M.equations (same_sides M T b q c (stands_if_solved R s) t l u))
      (map_each (Meets (extended_environment M T b q) t) (short_equation (stand_in_of M)) (in_force M (regime R t))
      (each_left (Meets (extended_environment M T b q) t) (short_ones M (in_force M (regime R t))) (own_ones M) (parts R s t l u)))

  -- ---- and back
  solved_in_transformed : IsClosed M → (R : List Regime) → Solves M T R (source_environment M T b q) → HasShiftedValues M T b q → Solves (transformed M) T R (extended_environment M T b q)
  solved_in_transformed c R s h t l u =
      let stands = all_stand M T b q h in
      subst (Each (Meets (extended_environment M T b q) t)) (sym (force_is M (regime R t)))
      (each_append (Meets (extended_environment M T b q) t) (short_ones M (in_force M (regime R t))) (own_ones M)
      (each_map (Meets (extended_environment M T b q) t) (short_equation (stand_in_of M)) (in_force M (regime R t))
      (each_both (SameSides M T b q t) (Meets (source_environment M T b q) t) (λ (e : Equation). Meets (extended_environment M T b q) t (short_equation (stand_in_of M) e))
      (λ e g m. same_parts _ _ _ _ (sym g.0) (sym g.1) m)
      (in_force M (regime R t))
      (each_filter (SameSides M T b q t) (is_in_force (regime R t)) M.equations (same_sides M T b q c stands t l u))
      (s t l u)))
      (each_map (Meets (extended_environment M T b q) t) (auxiliary_equation (stand_in_of M)) (auxiliaries_of M)
      (each_auxiliary (λ (a : Auxiliary). Meets (extended_environment M T b q) t (auxiliary_equation (stand_in_of M) a)) (lengths M) (width M)
      (λ v d k below near. met v d k t below (omega arith) l u
      (stands v d (suc k) (pos t) below (omega arith) (inl (t, refl, l, u))
      ∙ ap (λ (u : ℤ). (extended_environment M T b q).value (endogenous v) u) (sym (turn (pos t) d k))
      ∙ sym (stands v d k (pos t +ℤ shift_by d 1) below (omega arith) (reached T d t l u)))))))

pub has_same_solutions : (M : Model) → IsClosed M → HasSameSolutions M
has_same_solutions M c T R b q = (
  λ s. (solved_in_source M T b q c R s, shifted_if_standing M T b q (stands_if_solved M T b q R s)),
  λ h. solved_in_transformed M T b q c R h.0 h.1,
)

pub has_same_sides : (M : Model) → IsClosed M → HasSameSides M
has_same_sides M c T b q h = same_sides M T b q c (all_stand M T b q h)
