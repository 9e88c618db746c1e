-- What a graph that grows keeps.
use Rattle.std.proofs.Common.{◌∙◌, ℕ, List, [], ◌∷◌, ◌++◌, arith, refl}
use Rattle.std.proofs.lemmas.Grind.{common_steps}
use Rattle.mp_semantics.specs.Term.{Term}
use Rattle.mp_values.specs.Names.{Names}
use Rattle.mp_graph.specs.Shared.{Shared, Says, Keeps}

pub keeps-push : (names : Names) (ts : List Term) (t : Term) → Keeps (record { names = names; terms = ts }) (record { names = names; terms = ts ++ t ∷ [] })
keeps-push names ts t = record { names = refl; longer = grind (arith, common_steps); each = λ i h. grind (arith, common_steps) }

pub keeps-refl : (g : Shared) → Keeps g g
keeps-refl g = record { names = refl; longer = omega arith; each = λ i h. refl }

pub keeps-trans : (a b c : Shared) → Keeps a b → Keeps b c → Keeps a c
keeps-trans a b c k l = record {
  names = l.names ∙ k.names;
  longer = omega (arith, k.longer, l.longer);
  each = λ i h. l.each i (omega (arith, k.longer)) ∙ k.each i h;
}

-- a number says what it said
pub still : (old new : Shared) (id : ℕ) (t : Term) → Keeps old new → Says old id t → Says new id t
still old new id t k s = record { within = omega (arith, k.longer, s.within); term = k.each id s.within ∙ s.term }
