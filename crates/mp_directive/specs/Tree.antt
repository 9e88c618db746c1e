-- The tree of a file's lines.
use Rattle.std.specs.Prelude.{ℕ, zero, suc, ◌+◌, List, [], ◌∷◌, Bool, true, false}
use Rattle.mp_directive.specs.Directives.{Condition, Statement, Content, Alone, content_of}

mutual
  -- a line by itself, an include, a choice of branches, or a body for each element of an array; with line numbers from 1
  pub data Node : Type 0 where
    Simple : (line : ℕ) → Statement → Node
    Included : (line : ℕ) → (expr : List ℕ) → Node
    Choice : Branches → Node
    Loop : (line : ℕ) → (name array : List ℕ) → (body : Nodes) → Node

  -- nodes in order
  pub data Nodes : Type 0 where
    Done : Nodes
    Then : Node → Nodes → Nodes

  -- branches in order, each with the line of its condition
  pub data Branches : Type 0 where
    NoBranch : Branches
    Branch : (line : ℕ) → Condition → (body : Nodes) → (more : Branches) → Branches

-- one node more at the end
abbrev pub with_node : Nodes → Node → Nodes
with_node Done n = Then n Done
with_node (Then m ns) n = Then m (with_node ns n)

-- these nodes and then those
abbrev pub joined : Nodes → Nodes → Nodes
joined Done ms = ms
joined (Then n ns) ms = Then n (joined ns ms)

-- a line by itself
abbrev pub is_alone : Content → Bool
is_alone (Alone s) = true
is_alone _ = false

-- a line by itself, before further nodes
abbrev pub line_before : ℕ → Content → Nodes → Nodes
line_before line (Alone s) more = Then (Simple line s) more
line_before line _ more = more

-- so many first lines, by themselves, the first of which has this number, before further nodes
abbrev pub run_before : (line count : ℕ) → List (List ℕ) → Nodes → Nodes
run_before line zero ls more = more
run_before line (suc n) [] more = more
run_before line (suc n) (l ∷ ls) more = line_before line (content_of l) (run_before (line + 1) n ls more)

-- one branch more at the end
abbrev pub with_branch : Branches → ℕ → Condition → Nodes → Branches
with_branch NoBranch line condition body = Branch line condition body NoBranch
with_branch (Branch l c b more) line condition body = Branch l c b (with_branch more line condition body)

abbrev mutual
  -- how many nodes and branches there are, those inside included
  pub weight : Node → ℕ
  weight (Simple line s) = 1
  weight (Included line e) = 1
  weight (Choice branches) = 1 + branches_weight branches
  weight (Loop line name array body) = 1 + nodes_weight body

  pub nodes_weight : Nodes → ℕ
  nodes_weight Done = 0
  nodes_weight (Then n ns) = weight n + nodes_weight ns

  pub branches_weight : Branches → ℕ
  branches_weight NoBranch = 0
  branches_weight (Branch line condition body more) = 1 + nodes_weight body + branches_weight more
