-- The tree of a file, or its first fault, is what the grammar of groups says.
use Rattle.std.proofs.Common.{◌≡◌, ℕ, List, Result, Ok, Err, refl, subst}
use mathlib.Core.Logic.{⊎_elim}
use Rattle.mp_base.specs.Answers.{Gives}
use Rattle.mp_directive.specs.Tree.{Nodes}
use Rattle.mp_directive.specs.Groups.{Fault, groups}
use Rattle.mp_directive.specs.Shown.{nodes_of}
use Rattle.mp_directive.specs.Gives.{told}
use Rattle.mp_directive.specs.Structure as g
use Rattle.mp_directive.specs.Structure.{Means, GivesMeant, contents}
use Rattle.mp_directive.specs.declared.tree.Node.{Node}
use Rattle.mp_directive.specs.declared.fault.TreeFault.{TreeFault}
use Rattle.mp_directive.specs.declared.fault.TreeFault.TheVariants as t
use Rattle.mp_directive.proofs.FirstFault.{fault-is}
use Rattle.mp_directive.proofs.Standing.{found-tree}

pub means-groups : (bytes : List ℕ) → Means (contents bytes) (groups bytes)
means-groups bytes = by (groups bytes) refl
  where
    by : (x : Result Nodes Fault) → groups bytes ≡ x → Means (contents bytes) x
    by (Ok nodes) is = g.Means.tree nodes (found-tree bytes nodes is)
    by (Err f) is = ⊎_elim (λ s. g.Means.stops f s) (λ l. g.Means.ends_open f l) (fault-is bytes f is)

pub gives-meant : (bytes : List ℕ) (result : Result (List Node) TreeFault) → Gives nodes_of told result (groups bytes) → GivesMeant bytes result
gives-meant bytes (Ok nodes) same = subst (Means (contents bytes)) same (means-groups bytes)
gives-meant bytes (Err (t.Refused kind line)) same = subst (Means (contents bytes)) same (means-groups bytes)
gives-meant bytes (Err t.NoMemory) same = tt
