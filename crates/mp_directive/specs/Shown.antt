-- What the code reads, as the definitions see it.
use Rattle.std.specs.Prelude.{◌-◌, List, [], ◌∷◌, option_map}
use Rattle.mp_directive.specs.Directives as d
use Rattle.mp_directive.specs.Lines.{lines}
use Rattle.mp_directive.specs.Tree as t
use Rattle.mp_directive.specs.Groups as g
use Rattle.mp_directive.specs.declared.content.Condition.{Condition}
use Rattle.mp_directive.specs.declared.content.Condition.TheVariants.{Holds, Defined, Undefined, Otherwise}
use Rattle.mp_directive.specs.declared.content.Statement.{Statement}
use Rattle.mp_directive.specs.declared.content.Statement.TheVariants.{Plain, Define, Echo, Error}
use Rattle.mp_directive.specs.declared.content.Content.{Content}
use Rattle.mp_directive.specs.declared.content.Content.TheVariants.{Alone, Include, If, Further, EndIf, For, EndFor, IllFormed}
use Rattle.mp_directive.specs.declared.tree.Node.{Node, Run, Included, Choice', Loop', Row_of-Branch, end_of-Branch, more_of-Branch, Row_of-Node, end_of-Node, more_of-Node}
use Rattle.mp_directive.specs.declared.tree.Branch.{Branch, When', Otherwise'}
use Rattle.mp_directive.specs.declared.groups.Group.{Group}
use Rattle.mp_directive.specs.declared.groups.Group.TheVariants as o

abbrev pub condition_of : Condition → d.Condition
condition_of (Holds expr) = d.Holds expr.now
condition_of (Defined name) = d.Defined name.now
condition_of (Undefined name) = d.Undefined name.now
condition_of Otherwise = d.Otherwise

abbrev pub statement_of : Statement → d.Statement
statement_of (Plain text) = d.Plain text.now
statement_of (Define name value) = d.Define name.now (option_map (λ v. v.now) value)
statement_of (Echo expr) = d.Echo expr.now
statement_of (Error expr) = d.Error expr.now

abbrev pub shown : Content → d.Content
shown (Alone s) = d.Alone (statement_of s)
shown (Include expr) = d.Include expr.now
shown (If c) = d.If (condition_of c)
shown (Further c) = d.Further (condition_of c)
shown EndIf = d.EndIf
shown (For name array) = d.For name.now array.now
shown EndFor = d.EndFor
shown IllFormed = d.IllFormed

abbrev mutual
  -- before further nodes
  pub node_before : Node → t.Nodes → t.Nodes
  node_before (Run first end text) more = t.run_before first (end - first) (lines text.now) more
  node_before (Included line expr) more = t.Then (t.Included line expr.now) more
  node_before (Choice' shape row) more = t.Then (t.Choice (branches_in row)) more
  node_before (Loop' head shape row) more = t.Then (t.Loop head.line head.name.now head.array.now (nodes_in row)) more

  pub nodes_in : {n : _} → Row_of-Node n → t.Nodes
  nodes_in end_of-Node = t.Done
  nodes_in (more_of-Node x rest) = node_before x (nodes_in rest)

  pub branches_in : {n : _} → Row_of-Branch n → t.Branches
  branches_in end_of-Branch = t.NoBranch
  branches_in (more_of-Branch x rest) = branch_of x (branches_in rest)

  -- in front of further branches
  pub branch_of : Branch → t.Branches → t.Branches
  branch_of (When' line condition shape row) more = t.Branch line (condition_of condition) (nodes_in row) more
  branch_of (Otherwise' line shape row) more = t.Branch line d.Otherwise (nodes_in row) more

abbrev pub nodes_of : List Node → t.Nodes
nodes_of [] = t.Done
nodes_of (x ∷ xs) = node_before x (nodes_of xs)

abbrev pub branches_of : List Branch → t.Branches
branches_of [] = t.NoBranch
branches_of (x ∷ xs) = branch_of x (branches_of xs)

abbrev pub group_of : Group → g.Group
group_of (o.Choice outer opener finished line condition) =
    g.OpenChoice (nodes_of outer) opener (branches_of finished) line (condition_of condition)
group_of (o.Loop outer head) = g.OpenLoop (nodes_of outer) head.line head.name.now head.array.now
