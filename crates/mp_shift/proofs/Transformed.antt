-- The model that is built is the transformed one.
use Rattle.std.proofs.Common.{◌≡◌, ℕ, ◌+◌, ◌<◌, ◌≤◌, List, [], ◌∷◌, ◌++◌, map, take, length, None, refl, ap, sym, ◌∙◌, subst, arith}
use Rattle.std.specs.List.{AllByRecursion}
use Rattle.std.specs.List as std
use Rattle.std.specs.Str.{bytes_eq}
use Rattle.std.proofs.lemmas.List.{length-append, length-map}
use Rattle.mp_semantics.specs.Model as m
use Rattle.mp_semantics.specs.Term.{Leaf, number, parameter, variable, endogenous, exogenous, steady_state, Term}
use Rattle.mp_values.specs.Names.{Names}
use Rattle.mp_names.specs.Named.{kind_in}
use Rattle.mp_graph.specs.Shared.{Shared, Keeps, term_at}
use Rattle.mp_graph.proofs.Kept.{keeps-trans}
use Rattle.mp_model_data.specs.Shown.{Held, Sides, IsWithin, equation_in, model_data, source_data}
use Rattle.mp_solutions.specs.Auxiliaries.{Auxiliary, width, lengths, auxiliaries_of, auxiliary_name, stand_in_of}
use Rattle.mp_solutions.specs.Leaves.{AllLeaves, AllEquationLeaves}
use Rattle.mp_solutions.specs.Transformed.{short, short_equation, auxiliary_equation, transformed}
use Rattle.mp_solutions.specs.Laws.{IsClosed, IsDeclaredLeaf, IsDistinct}
use Rattle.mp_solutions.proofs.Names.{names_distinct}
use Rattle.mp_solutions.proofs.Lists.{each_both, each_left, map_each}
use Rattle.mp_solutions.proofs.Leaves.{all_leaves}
use Rattle.mp_solutions.proofs.Numbering.{each_auxiliary}
use Rattle.mp_solutions.proofs.Shape.{transformed_closed}
use Rattle.mp_solutions.proofs.Values.{declared_below}
use Rattle.mp_shift.specs.declared.first.First.{First}
use Rattle.mp_shift.specs.Called.{Called, call, AreOf, AreNew, with_names}
use Rattle.mp_shift.specs.Equations.{own_equations, HasRoom, HasStandIns, AreBuilt}
use Rattle.mp_shift.specs.Stand.{stand_by, ReadsName, ReadsNames, AreFirst}
use Rattle.mp_shift.proofs.Sides.{own_equations_are, same_side, same_short, all_kept, all_within}
use Rattle.mp_shift.proofs.Named.{name_in, distinct_places}

names_called : (names : List (List ℕ)) (xs : List Auxiliary) → map name_in (map (call names) xs) ≡ map (auxiliary_name names) xs
names_called names [] = refl
names_called names (x ∷ xs) = ap (λ l. auxiliary_name names x ∷ l) (names_called names xs)

called_alone : (names : List (List ℕ)) (xs : List Auxiliary) → map (λ (x : Called). x.auxiliary) (map (call names) xs) ≡ xs
called_alone names [] = refl
called_alone names (x ∷ xs) = ap (λ l. x ∷ l) (called_alone names xs)

take_first : {X : Type 0} (xs ys : List X) → take (length xs) (xs ++ ys) ≡ xs
take_first [] ys = refl
take_first (x ∷ xs) ys = ap (λ l. x ∷ l) (take_first xs ys)

pub within_terms : (g k : Shared) (xs : List Sides) → g.terms ≡ k.terms → AllByRecursion (IsWithin g) xs → AllByRecursion (IsWithin k) xs
within_terms g k [] e h = tt
within_terms g k (x ∷ xs) e h =
    let c = ap (λ (ts : List _). length ts) e in
    (record { left = omega (arith, h.0.left, c); right = omega (arith, h.0.right, c) }, within_terms g k xs e h.1)

pub has_room : (g : Shared) (room : ℕ) (xs : List Sides) → room ≡ length g.terms → AllByRecursion (IsWithin g) xs → AllByRecursion (HasRoom room) xs
has_room g room [] e h = tt
has_room g room (x ∷ xs) e h = (record { left = omega (arith, h.0.left); right = omega (arith, h.0.right) }, has_room g room xs e h.1)

model_by : (a b : List (List ℕ)) (c d : List (List ℕ)) (ps qs : List m.Parameter) (es fs : List m.Equation) (ks : List m.Constraint) → a ≡ b → c ≡ d → ps ≡ qs → es ≡ fs
    → ◌≡◌ {A = m.Model} (record { endogenous_names = a; exogenous_names = c; parameters = ps; equations = es; constraints = ks }) (record { endogenous_names = b; exogenous_names = d; parameters = qs; equations = fs; constraints = ks })
model_by a b c d ps qs es fs ks p q r s = rw (p, q, r, s) refl

module _ (h : Held) (xs : List Called) (of : AreOf (model_data h) xs) where
  abbrev M : m.Model
  M = model_data h

  names_are : map name_in xs ≡ map (auxiliary_name M.endogenous_names) (auxiliaries_of M)
  names_are = ap (map name_in) of.all ∙ names_called M.endogenous_names (auxiliaries_of M)

  ones_are : map (λ (x : Called). x.auxiliary) xs ≡ auxiliaries_of M
  ones_are = ap (map (λ (x : Called). x.auxiliary)) of.all ∙ called_alone M.endogenous_names (auxiliaries_of M)

  pub places_are : (n : ℕ) → n ≡ width M → AllByRecursion (λ (x : Called). x.auxiliary.place < n) xs
  places_are n e = back xs (subst (λ l. AllByRecursion (λ (x : Auxiliary). x.place < n) l) (sym ones_are) all)
    where
      all : AllByRecursion (λ (x : Auxiliary). x.place < n) (auxiliaries_of M)
      all = each_auxiliary (λ (x : Auxiliary). x.place < n) (lengths M) (width M) (λ v d k below near. omega (arith, below, e))

      back : (xs : List Called) → AllByRecursion (λ (x : Auxiliary). x.place < n) (map (λ (x : Called). x.auxiliary) xs) → AllByRecursion (λ (x : Called). x.auxiliary.place < n) xs
      back [] k = tt
      back (x ∷ xs) k = (k.0, back xs k.1)

  pub are_new : map (λ (p : m.Parameter). p.name) h.parameters ≡ h.graph.names.parameters → std.IsDistinct bytes_eq h.graph.names.endogenous → AreNew h.graph.names xs
  are_new named distinct = record {
    free = subst (λ (l : List (List ℕ)). AllByRecursion (λ (x : Called). kind_in (record { endogenous = h.graph.names.endogenous; exogenous = h.graph.names.exogenous; parameters = l }) x.name ≡ None) xs) named of.free;
    distinct = subst IsDistinct (sym names_are) (names_distinct M (distinct_places h.graph.names.endogenous distinct));
  }

  module _ (fs : List First) (first : AreFirst M fs) (closed : IsClosed M) where
    named_there : (l : Leaf) → IsDeclaredLeaf (transformed M) l → ReadsName (h.graph.names.endogenous ++ map name_in xs) l
    named_there (number m s) d = tt
    named_there (parameter p) d = tt
    named_there (variable (endogenous v) k) d =
        let same = ap (λ (l : List (List ℕ)). length (h.graph.names.endogenous ++ l)) names_are in
        omega (arith, declared_below (transformed M) v d, same)
    named_there (variable (exogenous v) k) d = tt
    named_there (steady_state v) d = tt

    reads_there : (e : Term) → AllLeaves (IsDeclaredLeaf M) e → AllLeaves (IsDeclaredLeaf (transformed M)) (short (stand_in_of M) e) → ReadsNames (h.graph.names.endogenous ++ map name_in xs) (short (stand_by fs) e)
    reads_there e own d =
        subst (ReadsNames (h.graph.names.endogenous ++ map name_in xs)) (sym (same_side M fs first e own))
        (all_leaves (IsDeclaredLeaf (transformed M)) (ReadsName (h.graph.names.endogenous ++ map name_in xs)) named_there (short (stand_in_of M) e) d)

    -- the short forms of the source's equations read names that there are, since the transformed model is closed
    pub stand_ins_are : AllByRecursion (HasStandIns (with_names xs h.graph.names).endogenous h.graph.terms fs) h.equations
    stand_ins_are =
        each_both
        (λ x. AllEquationLeaves (IsDeclaredLeaf M) (equation_in h.graph.terms x))
        (λ x. AllEquationLeaves (IsDeclaredLeaf (transformed M)) (short_equation (stand_in_of M) (equation_in h.graph.terms x)))
        (HasStandIns (with_names xs h.graph.names).endogenous h.graph.terms fs)
        (λ x own d. record { left = reads_there (term_at h.graph.terms x.left) own.0 d.0; right = reads_there (term_at h.graph.terms x.right) own.1 d.1 })
        h.equations
        (map_each (AllEquationLeaves (IsDeclaredLeaf M)) (equation_in h.graph.terms) h.equations closed)
        (map_each (λ e. AllEquationLeaves (IsDeclaredLeaf (transformed M)) (short_equation (stand_in_of M) e)) (equation_in h.graph.terms) h.equations
        (map_each (AllEquationLeaves (IsDeclaredLeaf (transformed M))) (short_equation (stand_in_of M)) M.equations
        (each_left (AllEquationLeaves (IsDeclaredLeaf (transformed M))) (map (short_equation (stand_in_of M)) M.equations) (map (auxiliary_equation (stand_in_of M)) (auxiliaries_of M)) (transformed_closed M closed))))

  module _ (g new : Shared) (ps : List m.Parameter) (es all : List Sides) (n : ℕ) (fs : List First) (gi : g ≡ h.graph) (pi : ps ≡ h.parameters) (ei : es ≡ h.equations) (count : n ≡ width M) (b : AreBuilt g new es xs fs all) where
    abbrev built : Held
    built = record { graph = new; parameters = ps; equations = all; source = es; variables = n }

    names3 : new.names ≡ with_names xs h.graph.names
    names3 = b.names ∙ ap (λ (k : Shared). with_names xs k.names) gi

    sources : map (equation_in g.terms) es ≡ M.equations
    sources = ap (map (equation_in g.terms)) ei ∙ ap (λ (k : Shared). map (equation_in k.terms) h.equations) gi

    pub few : n ≤ length new.names.endogenous
    few = let w = ap (λ (ns : Names). length ns.endogenous) names3 in omega (arith, w, length-append h.graph.names.endogenous (map name_in xs), count)

    pub is_transformed : IsClosed M → AreFirst M fs → model_data built ≡ transformed M
    is_transformed closed first =
        model_by _ _ _ _ _ _ _ _ []
        (ap (λ (ns : Names). ns.endogenous) names3 ∙ ap (λ l. h.graph.names.endogenous ++ l) names_are)
        (ap (λ (ns : Names). ns.exogenous) names3)
        pi
        (b.equations
        ∙ ap (λ l. map (short_equation (stand_by fs)) l ++ own_equations (length g.names.endogenous) (map (λ (x : Called). x.auxiliary) xs)) sources
        ∙ ap (λ l. l ++ own_equations (length g.names.endogenous) (map (λ (x : Called). x.auxiliary) xs)) (same_short M fs first M.equations closed)
        ∙ ap (λ l. map (short_equation (stand_in_of M)) M.equations ++ own_equations (length g.names.endogenous) l) ones_are
        ∙ ap (λ (k : Shared). map (short_equation (stand_in_of M)) M.equations ++ own_equations (length k.names.endogenous) (auxiliaries_of M)) gi
        ∙ ap (λ l. map (short_equation (stand_in_of M)) M.equations ++ l) (own_equations_are M))

    pub is_source : source_data built ≡ M
    is_source =
        model_by _ _ _ _ _ _ _ _ []
        (ap (λ (ns : Names). take n ns.endogenous) names3 ∙ ap (λ (k : ℕ). take k (h.graph.names.endogenous ++ map name_in xs)) count ∙ take_first h.graph.names.endogenous (map name_in xs))
        (ap (λ (ns : Names). ns.exogenous) names3)
        pi
        (b.kept ∙ sources)

-- ---- from one graph to the next
module _ (g0 g1 g2 g3 : Shared) (xs : List Called) (fs : List First) (source shorts all : List Sides) (n : ℕ) (is : g1 ≡ record { names = with_names xs g0.names; terms = g0.terms }) (k2 : Keeps g1 g2) (k3 : Keeps g2 g3) where
  terms1 : g0.terms ≡ g1.terms
  terms1 = ap (λ (g : Shared). g.terms) (sym is)

  pub within1 : AllByRecursion (IsWithin g0) source → AllByRecursion (IsWithin g1) source
  within1 w = within_terms g0 g1 source terms1 w

  pub width2 : n ≡ length g0.names.endogenous → length g2.names.endogenous ≡ n + length xs
  width2 e =
      ap (λ (ns : Names). length ns.endogenous) (k2.names ∙ ap (λ (g : Shared). g.names) is)
      ∙ omega (arith, length-append g0.names.endogenous (map name_in xs), length-map xs name_in, e)

  pub are_built : n ≡ length g0.names.endogenous → AllByRecursion (IsWithin g0) source
      → map (equation_in g2.terms) shorts ≡ map (short_equation (stand_by fs)) (map (equation_in g1.terms) source)
      → map (equation_in g3.terms) all ≡ map (equation_in g2.terms) shorts ++ own_equations n (map (λ (x : Called). x.auxiliary) xs)
      → AllByRecursion (IsWithin g3) all → AreBuilt g0 g3 source xs fs all
  are_built e w p q within = record {
    names = k3.names ∙ k2.names ∙ ap (λ (g : Shared). g.names) is;
    equations =
        q
        ∙ ap (λ l. l ++ own_equations n (map (λ (x : Called). x.auxiliary) xs)) (p ∙ ap (λ ts. map (short_equation (stand_by fs)) (map (equation_in ts) source)) (sym terms1))
        ∙ ap (λ (k : ℕ). map (short_equation (stand_by fs)) (map (equation_in g0.terms) source) ++ own_equations k (map (λ (x : Called). x.auxiliary) xs)) e;
    kept = all_kept g1 g3 source (keeps-trans g1 g2 g3 k2 k3) (within1 w) ∙ ap (λ ts. map (equation_in ts) source) (sym terms1);
    within = within;
    kept_within = all_within g1 g3 source (keeps-trans g1 g2 g3 k2 k3) (within1 w);
  }
