-- What tree lines have: the grammar of groups, as a relation. And where lines that have none are at fault.
use Rattle.std.specs.Prelude.{◌≡◌, ℕ, suc, ◌+◌, ◌<◌, ◌≤◌, List, [], ◌∷◌, ◌++◌, map, length, take, false, Option, Some, None, Result, Ok, Err}
use Rattle.mp_base.specs.declared.kinds.MacroKind.{MacroKind}
use Rattle.mp_base.specs.declared.kinds.MacroKind.TheVariants.{BadDirective, Unbalanced, NestDeep}
use Rattle.mp_directive.specs.Lines.{lines}
use Rattle.mp_directive.specs.Directives.{Condition, Statement, Content, Alone, Include, If, Further, EndIf, For, EndFor, IllFormed, content_of}
use Rattle.mp_directive.specs.Tree.{Node, Simple, Included, Choice, Loop, Nodes, Done, Then, Branches, NoBranch, Branch}
use Rattle.mp_directive.specs.Groups.{Fault, is_otherwise}
use Rattle.mp_directive.specs.Shown.{nodes_of}
use Rattle.mp_directive.specs.declared.tree.Node.{Node as Node'}
use Rattle.mp_directive.specs.declared.fault.TreeFault.{TreeFault}
use Rattle.mp_directive.specs.declared.fault.TreeFault.TheVariants as t

mutual
  -- in lines of these contents, the first of which has this number, these nodes stand; at most so many groups are open in them
  pub data NodesStand : (room line : ℕ) → List Content → Nodes → Type 0 where
    none : {room line : ℕ} → NodesStand room line [] Done
    more : {room line : ℕ} {cs ds : List Content} {n : Node} {ns : Nodes} → NodeStands room line cs n → NodesStand room (line + length cs) ds ns → NodesStand room line (cs ++ ds) (Then n ns)

  -- one node: a line by itself, an include, `@#if` to `@#endif`, or `@#for` to `@#endfor`
  pub data NodeStands : (room line : ℕ) → List Content → Node → Type 0 where
    by_itself : {room line : ℕ} {s : Statement} → NodeStands room line (Alone s ∷ []) (Simple line s)
    include : {room line : ℕ} {expr : List ℕ} → NodeStands room line (Include expr ∷ []) (Included line expr)
    choice : {room line : ℕ} {c : Condition} {cs ds : List Content} {body : Nodes} {rest : Branches} → NodesStand room (line + 1) cs body → FurtherStand room (line + 1 + length cs) c ds rest → NodeStands (suc room) line (If c ∷ (cs ++ (ds ++ EndIf ∷ []))) (Choice (Branch line c body rest))
    loop : {room line : ℕ} {name array : List ℕ} {cs : List Content} {body : Nodes} → NodesStand room (line + 1) cs body → NodeStands (suc room) line (For name array ∷ (cs ++ EndFor ∷ [])) (Loop line name array body)

  -- further branches, after one with this condition; none after `@#else`
  pub data FurtherStand : (room line : ℕ) → (before : Condition) → List Content → Branches → Type 0 where
    last : {room line : ℕ} {before : Condition} → FurtherStand room line before [] NoBranch
    next : {room line : ℕ} {before c : Condition} {cs ds : List Content} {body : Nodes} {rest : Branches} → is_otherwise before ≡ false → NodesStand room (line + 1) cs body → FurtherStand room (line + 1 + length cs) c ds rest → FurtherStand room line before (Further c ∷ (cs ++ ds)) (Branch line c body rest)

-- what the lines of a file are
abbrev pub contents : List ℕ → List Content
contents bytes = map content_of (lines bytes)

-- lines that have a tree; at most 100 groups are open
abbrev pub HasTree : List Content → Type 0
HasTree cs = (nodes : Nodes) × NodesStand 100 1 cs nodes

-- lines with which ones that have a tree begin
abbrev pub Begins : List Content → Type 0
Begins cs = (more : List Content) × HasTree (cs ++ more)

-- what is wrong with a line at which no tree can go on, by what the line is; plain lines and includes can stand anywhere
abbrev pub kind_of : Content → Option MacroKind
kind_of (Alone s) = None
kind_of (Include expr) = None
kind_of (If c) = Some NestDeep
kind_of (Further c) = Some Unbalanced
kind_of EndIf = Some Unbalanced
kind_of (For name array) = Some NestDeep
kind_of EndFor = Some Unbalanced
kind_of IllFormed = Some BadDirective

-- the lines before this one, which is the content, begin ones that have a tree, and with this one more they do not
pub record StopsAt (cs : List Content) (f : Fault) : Type 0 where
  pub before : ℕ
  pub content : Content
  pub rest : List Content
  pub line : f.line ≡ suc before
  pub splits : cs ≡ take before cs ++ content ∷ rest
  pub goes_on : Begins (take before cs)
  pub stops : ¬ Begins (take (suc before) cs)
  pub kind : kind_of content ≡ Some f.kind

-- all lines begin ones that have a tree, but an end is missing: the fault is after the longest beginning that has a tree
-- itself, at the opener of the outermost group
pub record LacksEnd (cs : List Content) (f : Fault) : Type 0 where
  pub before : ℕ
  pub within : before < length cs
  pub line : f.line ≡ suc before
  pub kind : f.kind ≡ Unbalanced
  pub goes_on : Begins cs
  pub complete : HasTree (take before cs)
  pub longest : (n : ℕ) → before < n → n ≤ length cs → ¬ HasTree (take n cs)

-- by the grammar of groups: the tree that stands in the lines, or the first own fault
pub data Means (cs : List Content) : Result Nodes Fault → Type 0 where
  tree : (nodes : Nodes) → NodesStand 100 1 cs nodes → Means cs (Ok nodes)
  stops : (f : Fault) → StopsAt cs f → Means cs (Err f)
  ends_open : (f : Fault) → LacksEnd cs f → Means cs (Err f)

-- what was returned is what these bytes mean, unless there was no memory
abbrev pub GivesMeant : List ℕ → Result (List Node') TreeFault → Type 0
GivesMeant bytes (Ok nodes) = Means (contents bytes) (Ok (nodes_of nodes))
GivesMeant bytes (Err (t.Refused kind line)) = Means (contents bytes) (Err (record { kind = kind; line = line }))
GivesMeant bytes (Err t.NoMemory) = Unit {0}
