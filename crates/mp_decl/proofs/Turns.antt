-- A walk over several points is the walk over the first ones, and then over the others.
use Rattle.std.proofs.Common.{◌≡◌, ℕ, ◌+◌, ◌<◌, ◌≤◌, List, [], ◌∷◌, ◌++◌, length, drop, get_or, Option, Some, None, Result, Ok, Err, sym, ap, subst, ◌∙◌}
use Rattle.std.specs.Prelude.{IsErrAnd}
use Rattle.std.proofs.Math.ListN.{drop_of_length-le}
use Rattle.std.proofs.lemmas.List.{drop_more}
use Rattle.mp_declared.specs.Points.{Point}
use Rattle.mp_declared.specs.Declared.{Fault}
use Rattle.mp_decl.specs.declared.known.Known.{Known}
use Rattle.mp_decl.specs.declared.fault.DeclFault.{DeclFault}
use Rattle.mp_decl.specs.declared.fault.DeclFault.TheVariants as f
use Rattle.mp_decl.specs.Walk.{walk, unless, point_fault, with_point}
use Rattle.mp_decl.specs.Walks.{Stops, Went, Walks}

went-by : (k g : Known) (p : Point) (ps qs : List Point) (r : Option Fault) → (walk (with_point k p) ps ≡ Ok g → walk (with_point k p) (ps ++ qs) ≡ walk g qs) → unless r (walk (with_point k p) ps) ≡ Ok g → unless r (walk (with_point k p) (ps ++ qs)) ≡ walk g qs
went-by k g p ps qs (Some fault) further h = absurd cc
went-by k g p ps qs None further h = further h

pub walk-went : (k g : Known) (ps qs : List Point) → walk k ps ≡ Ok g → walk k (ps ++ qs) ≡ walk g qs
walk-went k g [] qs e =
    let s : k ≡ g = cc in
    ap (λ (j : Known). walk j qs) s
walk-went k g (p ∷ ps) qs e = went-by k g p ps qs (point_fault k p) (walk-went (with_point k p) g ps qs) e

stops-by : (k : Known) (fault : Fault) (p : Point) (ps qs : List Point) (r : Option Fault) → (walk (with_point k p) ps ≡ Err fault → walk (with_point k p) (ps ++ qs) ≡ Err fault) → unless r (walk (with_point k p) ps) ≡ Err fault → unless r (walk (with_point k p) (ps ++ qs)) ≡ Err fault
stops-by k fault p ps qs (Some found) further h = h
stops-by k fault p ps qs None further h = further h

pub walk-stops : (k : Known) (fault : Fault) (ps qs : List Point) → walk k ps ≡ Err fault → walk k (ps ++ qs) ≡ Err fault
walk-stops k fault [] qs e = absurd cc
walk-stops k fault (p ∷ ps) qs e = stops-by k fault p ps qs (point_fault k p) (walk-stops (with_point k p) fault ps qs) e

pub Stops-append : (fault : DeclFault) (k : Known) (ps qs : List Point) → Stops fault (walk k ps) → Stops fault (walk k (ps ++ qs))
Stops-append (f.Declared kind name at) k ps qs e = walk-stops k _ ps qs e
Stops-append (f.Data refused) k ps qs e = e
Stops-append f.NoMemory k ps qs e = tt

pub Stops-went : (fault : DeclFault) (k g : Known) (ps qs : List Point) → walk k ps ≡ Ok g → Stops fault (walk g qs) → Stops fault (walk k (ps ++ qs))
Stops-went fault k g ps qs e h = subst (Stops fault) (sym (walk-went k g ps qs e)) h

-- one turn of a loop over a list, each element of which has points
module _ {S : Type 0} (points : S → List Point) (all : List S → List Point) (more : (x : S) (xs : List S) → all (x ∷ xs) ≡ points x ++ all xs)
    (xs : List S) (i : ℕ) (x d : S) (k : Known) (whole : Result Known Fault) (within : i < length xs) (is : x ≡ get_or xs i d) (so_far : walk k (all (drop i xs)) ≡ whole) where
  here : all (drop i xs) ≡ points x ++ all (drop (i + 1) xs)
  here = ap all (drop_more xs i d within ∙ ap (λ y. y ∷ drop (i + 1) xs) (sym is)) ∙ more x (drop (i + 1) xs)

  pub turn_goes : (g : Known) → walk k (points x) ≡ Ok g → walk g (all (drop (i + 1) xs)) ≡ whole
  turn_goes g e = sym (walk-went k g (points x) (all (drop (i + 1) xs)) e) ∙ ap (walk k) (sym here) ∙ so_far

  pub turn_stops : (fault : DeclFault) → Stops fault (walk k (points x)) → Stops fault whole
  turn_stops fault e = subst (Stops fault) (ap (walk k) (sym here) ∙ so_far) (Stops-append fault k (points x) (all (drop (i + 1) xs)) e)

-- a fault that is passed on
pub passes_on : {X : Type 0} (result : Result X DeclFault) (fault : DeclFault) (new : Known) (walked : Result Known Fault) → IsErrAnd result (λ e. e ≡ fault) → Stops fault walked → Went result new walked
passes_on (Ok x) fault new walked is h = absurd is
passes_on (Err e) fault new walked is h = subst (λ (g : DeclFault). Stops g walked) (sym is) h

-- the last turn is over
pub turns_end : {S : Type 0} (all : List S → List Point) (xs : List S) (i : ℕ) (k : Known) (whole : Result Known Fault) → all [] ≡ [] → length xs ≤ i → walk k (all (drop i xs)) ≡ whole → whole ≡ Ok k
turns_end all xs i k whole none past so_far = sym so_far ∙ ap (λ l. walk k (all l)) (drop_of_length-le xs past) ∙ ap (walk k) none

-- what a call answers after the first points went well
pub Walks-went : {X : Type 0} (result : Result X DeclFault) (k g new : Known) (ps qs : List Point) → walk k ps ≡ Ok g → Walks result g new qs → Walks result k new (ps ++ qs)
Walks-went (Ok x) k g new ps qs e h = walk-went k g ps qs e ∙ h
Walks-went (Err fault) k g new ps qs e h = Stops-went fault k g ps qs e h
