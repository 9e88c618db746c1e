use Rattle.std.proofs.Common.{ℕ, ap, sym, subst}
use Rattle.mp_values.specs.Names.{Names}
use Rattle.mp_graph.specs.Op.{IsLawful}
use Rattle.mp_graph.specs.Nodes.{IsSound, terms_of}
use Rattle.mp_graph.specs.Shared.{Shared, Keeps}
use Rattle.mp_graph.proofs.Interned.{Interned, interned, shared}
use Rattle.mp_graph.proofs.graph.Graph.intern.Goals as goal

pub invariant_of-self : goal.invariant_of-self
invariant_of-self c = subst (λ l. IsSound c.self.inside.names l) (sym c.in_default.ensures.err) c.self.invariant

all : (c : goal.After-of-2) → Interned c.self.inside.names c.args.op c.args.kids.now c.args.self.now.terms c.insert_full.new.self.keys c.of-2.result
all c =
    let s = c.in-Ok.ensures.stored in
    subst (λ (i : ℕ). Interned c.self.inside.names c.args.op c.args.kids.now c.args.self.now.terms c.insert_full.new.self.keys i) (sym c.of-2.ensures)
    (interned c.self.inside.names _ c.self.inside.nodes.keys c.insert_full.new.self.keys c.args.self.now.terms c.args.op c.of.result c.args.kids.now c.in-Ok.index s.0
    c.self.invariant (ap (λ (g : Shared). g.terms) c.self.view_is) c.of.ensures c.requires.below c.requires.count (subst (λ (g : Shared). IsLawful g.names c.args.op) (sym c.self.view_is) c.requires.lawful)
    c.in-Ok.ensures.keys c.in-Ok.ensures.unique s.1 s.2)

pub invariant_of-self-2 : goal.invariant_of-self-2
invariant_of-self-2 c = (all c).sound

pub returns-clause-says : goal.returns-clause-says
returns-clause-says c = record { within = (all c).within; term = (all c).term }

pub returns-clause-grown : goal.returns-clause-grown
returns-clause-grown c = (all c).grown

pub returns-clause-kept : goal.returns-clause-kept
returns-clause-kept c =
    subst (λ (n : Names). Keeps (record { names = n; terms = c.args.self.now.terms }) (shared c.self.inside.names (terms_of c.insert_full.new.self.keys))) (ap (λ (g : Shared). g.names) c.self.view_is) (all c).kept
