-- Faults of names, one after the other.
use Rattle.std.proofs.Common.{◌≡◌, ℕ, ◌<◌, ◌≤◌, ◌++◌, Bool, true, false, List, [], ◌∷◌, map, length, append_assoc, Option, Some, None, Result, Ok, Err, refl, ap, sym, ◌∙◌, subst, arith}
use Rattle.std.specs.Prelude.{is_some, unwrap_or, IfOk, IfErr, slice_index_or}
use Rattle.std.specs.Option.{option_or}
use Rattle.std.specs.List.{AllByRecursion}
use Rattle.std.proofs.lemmas.Option.{none-some}
use Rattle.std.proofs.lemmas.Bool.{ltb-false}
use Rattle.mp_base.specs.declared.kinds.DeclKind.{DeclKind}
use Rattle.mp_statements.specs.Statements.{Statement}
use Rattle.mp_statements.specs.declared.kind.NameKind.{NameKind}
use Rattle.mp_declared.specs.Declared.{Fault, fault_if, first_fault}
use Rattle.mp_semantics.specs.Model as m
use Rattle.mp_values.specs.Names.{Names}
use Rattle.mp_names.specs.Named.{kind_in}
use Rattle.mp_solutions.specs.Auxiliaries.{Auxiliary, Lengths, width, lengths, auxiliaries, auxiliaries_of, auxiliary_name}
use Rattle.mp_solutions.proofs.Numbering.{each_auxiliary}
use Rattle.mp_shift.specs.declared.parts.Auxiliary as declared
use Rattle.mp_shift.specs.declared.reach.Reach.{Reach}
use Rattle.mp_shift.specs.Reach.{AreReaches, lengths_of}
use Rattle.mp_shift.specs.Called.{Called, auxiliary_of, call, names_in, AreOf}
use Rattle.mp_shift.specs.declared.fault.ShiftFault.{ShiftFault}
use Rattle.mp_shift.specs.declared.fault.ShiftFault.TheVariants.{Declared, NoMemory}
use Rattle.mp_shift.specs.Faults.{place_in, first_place, naming_fault, auxiliary_fault, naming_faults, Tells}
use Rattle.mp_model_data.specs.Shown.{Held, model_data}
use Rattle.mp_shift.proofs.Listed.{auxiliaries_same}

-- ---- one fault before others

pub skips : (o : Option Fault) (os : List (Option Fault)) → o ≡ None → first_fault (o ∷ os) ≡ first_fault os
skips o os e = ap (λ x. first_fault (x ∷ os)) e

pub stops : (o : Option Fault) (os : List (Option Fault)) (f : Fault) → o ≡ Some f → first_fault (o ∷ os) ≡ Some f
stops o os f e = ap (λ x. first_fault (x ∷ os)) e

none_first : (o : Option Fault) (os : List (Option Fault)) → first_fault (o ∷ os) ≡ None → (o ≡ None) × (first_fault os ≡ None)
none_first None os e = (refl, e)
none_first (Some f) os e = absurd (none-some f (sym e))

not_taken : (o : Option NameKind) → is_some o ≡ false → o ≡ None
not_taken None e = refl
not_taken (Some x) e = absurd (let z : ⊥ = cc in z)

no_fault : (b : Bool) (kind : DeclKind) (name : List ℕ) (at : ℕ) → fault_if b kind name at ≡ None → b ≡ false
no_fault true kind name at e = absurd (none-some _ (sym e))
no_fault false kind name at e = refl

module _ (file : List Statement) (ns : Names) where
  free_name : (name source : List ℕ) → naming_fault file ns name source ≡ None → (kind_in ns name ≡ None) × (length name ≤ 128)
  free_name name source e =
      let p = none_first _ _ e in
      let q = none_first _ [] p.1 in
      (not_taken (kind_in ns name) (no_fault _ _ _ _ p.0), ltb-false 128 (length name) (no_fault _ _ _ _ q.0))

  pub free_names : (xs : List Auxiliary) → naming_faults file ns xs ≡ None → AllByRecursion (λ (x : Called). kind_in ns x.name ≡ None) (map (call ns.endogenous) xs)
  free_names [] e = tt
  free_names (x ∷ xs) e = let p = none_first _ _ e in ((free_name _ _ p.0).0, free_names xs p.1)

  pub short_names : (xs : List Auxiliary) → naming_faults file ns xs ≡ None → AllByRecursion (λ (x : Called). length x.name ≤ 128) (map (call ns.endogenous) xs)
  short_names [] e = tt
  short_names (x ∷ xs) e = let p = none_first _ _ e in ((free_name _ _ p.0).1, short_names xs p.1)

-- ---- the auxiliaries of a model

same_width : (f : Lengths) (n k : ℕ) → n ≡ k → auxiliaries f n ≡ auxiliaries f k
same_width f n k e = ap (auxiliaries f) e

pub are_those : (M : m.Model) (rs : List Reach) (count : ℕ) (xs : List Auxiliary) → AreReaches M rs → count ≡ width M → xs ≡ auxiliaries (lengths_of rs) count → xs ≡ auxiliaries_of M
are_those M rs count xs r w is =
    is ∙ auxiliaries_same (lengths_of rs) (lengths M) (λ d v. let e = r.each d v in omega (arith, e)) count ∙ same_width (lengths M) count (width M) w

pub places_in : (len : Lengths) (n : ℕ) (xs : List declared.Auxiliary) → map auxiliary_of xs ≡ auxiliaries len n → AllByRecursion (λ (x : declared.Auxiliary). x.place < n) xs
places_in len n xs e = back xs (subst (λ l. AllByRecursion (λ (x : Auxiliary). x.place < n) l) (sym e) (each_auxiliary (λ (x : Auxiliary). x.place < n) len n (λ v d k below near. below)))
  where
    back : (xs : List declared.Auxiliary) → AllByRecursion (λ (x : Auxiliary). x.place < n) (map auxiliary_of xs) → AllByRecursion (λ (x : declared.Auxiliary). x.place < n) xs
    back [] h = tt
    back (x ∷ xs) h = (h.0, back xs h.1)

pub are_of : (file : List Statement) (M : m.Model) (ns : Names) (list : List Auxiliary) (xs : List Called) → names_in M ≡ ns → list ≡ auxiliaries_of M → xs ≡ map (call ns.endogenous) list → naming_faults file ns list ≡ None → AreOf M xs
are_of file M ns list xs n l is none = record {
  all = is ∙ ap (λ (n : Names). map (call n.endogenous) list) (sym n) ∙ ap (map (call M.endogenous_names)) l;
  free = subst (λ (n : Names). AllByRecursion (λ (x : Called). kind_in n x.name ≡ None) xs) (sym n) (subst (λ l. AllByRecursion (λ (x : Called). kind_in ns x.name ≡ None) l) (sym is) (free_names file ns list none));
  short = subst (λ l. AllByRecursion (λ (x : Called). length x.name ≤ 128) l) (sym is) (short_names file ns list none);
}

pub same_faults : (file : List Statement) (M : m.Model) (ns : Names) (list : List Auxiliary) → names_in M ≡ ns → list ≡ auxiliaries_of M → naming_faults file ns list ≡ naming_faults file (names_in M) (auxiliaries_of M)
same_faults file M ns list n l = ap (λ (k : Names). naming_faults file k list) (sym n) ∙ ap (naming_faults file (names_in M)) l

-- ---- places of declarations

pub passes : (name : List ℕ) (s : Statement) (more : List Statement) → place_in name s ≡ None → first_place name (s ∷ more) ≡ first_place name more
passes name s more e = ap (λ o. option_or o (first_place name more)) e

pub finds : (name : List ℕ) (s : Statement) (more : List Statement) (at : ℕ) → place_in name s ≡ Some at → unwrap_or (first_place name (s ∷ more)) 0 ≡ at
finds name s more at e = ap (λ o. unwrap_or (option_or o (first_place name more)) 0) e

-- ---- one name after the other

pub named_turn : (names : List (List ℕ)) (found new : List Called) (name : List ℕ) (a : Auxiliary) (next rest whole : List Called) → new ≡ found ++ record { auxiliary = a; name = name } ∷ [] → name ≡ auxiliary_name names a → next ≡ call names a ∷ rest → found ++ next ≡ whole → new ++ rest ≡ whole
named_turn names found new name a next rest whole is e q so_far =
    ap (λ l. l ++ rest) (is ∙ ap (λ (n : List ℕ). found ++ record { auxiliary = a; name = n } ∷ []) e)
    ∙ append_assoc found (call names a ∷ []) rest
    ∙ ap (λ l. found ++ l) (sym q)
    ∙ so_far

pub fault_turn : (file : List Statement) (ns : Names) (name : List ℕ) (a : Auxiliary) (next rest : List Auxiliary) (whole : Option Fault) → name ≡ auxiliary_name ns.endogenous a → next ≡ a ∷ rest
    → naming_fault file ns name (slice_index_or ns.endogenous a.place []) ≡ None → naming_faults file ns next ≡ whole → naming_faults file ns rest ≡ whole
fault_turn file ns name a next rest whole e q none so_far =
    sym (skips (auxiliary_fault file ns a) (map (auxiliary_fault file ns) rest) (ap (λ (n : List ℕ). naming_fault file ns n (slice_index_or ns.endogenous a.place [])) (sym e) ∙ none))
    ∙ ap (naming_faults file ns) (sym q)
    ∙ so_far

tells_first : (f : Option Fault) (os : List (Option Fault)) (e : ShiftFault) → Tells f e → Tells (first_fault (f ∷ os)) e
tells_first None os (Declared kind name at) h = absurd (none-some _ h)
tells_first (Some f) os (Declared kind name at) h = h
tells_first f os NoMemory h = tt

pub tells_turn : (file : List Statement) (ns : Names) (name : List ℕ) (a : Auxiliary) (next rest : List Auxiliary) (whole : Option Fault) (fault : ShiftFault) → name ≡ auxiliary_name ns.endogenous a → next ≡ a ∷ rest
    → Tells (naming_fault file ns name (slice_index_or ns.endogenous a.place [])) fault → naming_faults file ns next ≡ whole → Tells whole fault
tells_turn file ns name a next rest whole fault e q tells so_far =
    subst (λ f. Tells f fault) (ap (naming_faults file ns) (sym q) ∙ so_far)
    (tells_first (auxiliary_fault file ns a) (map (auxiliary_fault file ns) rest) fault (subst (λ (n : List ℕ). Tells (naming_fault file ns n (slice_index_or ns.endogenous a.place [])) fault) e tells))

-- ---- results

pub if_ok : {A E : Type 0} (P Q : A → Type 0) (r : Result A E) → ((a : A) → P a → Q a) → IfOk r P → IfOk r Q
if_ok P Q (Ok a) f h = f a h
if_ok P Q (Err e) f h = tt

pub if_ok_both : {A E : Type 0} (P Q S : A → Type 0) (r : Result A E) → ((a : A) → P a → Q a → S a) → IfOk r P → IfOk r Q → IfOk r S
if_ok_both P Q S (Ok a) f h k = f a h k
if_ok_both P Q S (Err e) f h k = tt

pub if_err : {A E : Type 0} (P Q : E → Type 0) (r : Result A E) → ((e : E) → P e → Q e) → IfErr r P → IfErr r Q
if_err P Q (Ok a) f h = tt
if_err P Q (Err e) f h = f e h

pub names_same : (h : Held) → map (λ (p : m.Parameter). p.name) h.parameters ≡ h.graph.names.parameters → names_in (model_data h) ≡ h.graph.names
names_same h e = ap (λ (l : List (List ℕ)). record { endogenous = h.graph.names.endogenous; exogenous = h.graph.names.exogenous; parameters = l }) e
