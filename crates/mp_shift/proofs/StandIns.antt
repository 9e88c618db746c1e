-- That stand-ins have names.
use Rattle.std.proofs.Common.{◌≡◌, ℕ, List, sym, subst, inl, inr}
use Rattle.mp_semantics.specs.Term.{Leaf, Term, leaf, negative, binary, power_of, pick}
use Rattle.mp_graph.specs.Part.{IsPart}
use Rattle.mp_graph.specs.Shared.{Shared, term_at, Keeps}
use Rattle.mp_model_data.specs.Shown.{Sides, IsWithin}
use Rattle.mp_solutions.specs.Auxiliaries.{StandIns}
use Rattle.mp_solutions.specs.Transformed.{short, short_leaf}
use Rattle.mp_values.specs.Names.{Names}
use Rattle.mp_shift.specs.declared.first.First.{First}
use Rattle.mp_shift.specs.Stand.{stand_by, ReadsName, ReadsNames}
use Rattle.mp_shift.specs.Equations.{HasStandIns}

-- what a term reads in short form, its operands do
pub part_reads : (names : List (List ℕ)) (stand : StandIns) (t u : Term) → IsPart t u → ReadsNames names (short stand u) → ReadsNames names (short stand t)
part_reads names stand t (leaf l) p h = absurd p
part_reads names stand t (negative a) p h = subst (λ (x : Term). ReadsNames names (short stand x)) (sym p) h
part_reads names stand t (binary o a b) (inl p) h = subst (λ (x : Term). ReadsNames names (short stand x)) (sym p) h.0
part_reads names stand t (binary o a b) (inr p) h = subst (λ (x : Term). ReadsNames names (short stand x)) (sym p) h.1
part_reads names stand t (power_of a k) p h = subst (λ (x : Term). ReadsNames names (short stand x)) (sym p) h
part_reads names stand t (pick a b c d) (inl (inl p)) h = subst (λ (x : Term). ReadsNames names (short stand x)) (sym p) h.0
part_reads names stand t (pick a b c d) (inl (inr p)) h = subst (λ (x : Term). ReadsNames names (short stand x)) (sym p) h.1
part_reads names stand t (pick a b c d) (inr (inl p)) h = subst (λ (x : Term). ReadsNames names (short stand x)) (sym p) h.2
part_reads names stand t (pick a b c d) (inr (inr p)) h = subst (λ (x : Term). ReadsNames names (short stand x)) (sym p) h.3

-- and a leaf does
pub leaf_reads : (names : List (List ℕ)) (stand : StandIns) (t : Term) (l : Leaf) → t ≡ leaf l → ReadsNames names (short stand t) → ReadsName names (short_leaf stand l)
leaf_reads names stand t l e h = subst (λ (x : Term). ReadsNames names (short stand x)) e h

module _ (old new : Shared) (k : Keeps old new) (stand : StandIns) where
  -- a node that a graph keeps reads the same
  pub reads_still : (i : ℕ) → term_at new.terms i ≡ term_at old.terms i → ReadsNames old.names.endogenous (short stand (term_at old.terms i)) → ReadsNames new.names.endogenous (short stand (term_at new.terms i))
  reads_still i e h =
      subst (λ (ns : Names). ReadsNames ns.endogenous (short stand (term_at new.terms i))) (sym k.names)
      (subst (λ (t : Term). ReadsNames old.names.endogenous (short stand t)) (sym e) h)

pub stand_ins_still : (old new : Shared) (fs : List First) (x : Sides) → Keeps old new → IsWithin old x → HasStandIns old.names.endogenous old.terms fs x → HasStandIns new.names.endogenous new.terms fs x
stand_ins_still old new fs x k w h = record {
  left = reads_still old new k (stand_by fs) x.left (k.each x.left w.left) h.left;
  right = reads_still old new k (stand_by fs) x.right (k.each x.right w.right) h.right;
}
