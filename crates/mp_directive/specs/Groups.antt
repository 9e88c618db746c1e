-- How lines stand in groups: `@#if` to `@#endif` and `@#for` to `@#endfor`, inside one another.
use Rattle.std.specs.Prelude.{◌≡◌, ℕ, ◌+◌, List, [], ◌∷◌, length, Bool, true, false, nat_lt, if◌then◌else◌, Result, Ok, Err}
use Rattle.mp_base.specs.declared.kinds.MacroKind.{MacroKind}
use Rattle.mp_base.specs.declared.kinds.MacroKind.TheVariants.{BadDirective, Unbalanced, NestDeep}
use Rattle.mp_directive.specs.Results.{◌>>=◌}
use Rattle.mp_directive.specs.Lines.{lines}
use Rattle.mp_directive.specs.Directives.{Condition, Otherwise, Content, Alone, Include, If, Further, EndIf, For, EndFor, IllFormed, content_of}
use Rattle.mp_directive.specs.Tree.{Nodes, Done, Node, Simple, Included, Choice, Loop, with_node, joined, run_before, Branches, NoBranch, with_branch}

-- why a file has no tree, and the line
pub record Fault : Type 0 where
  pub kind : MacroKind
  pub line : ℕ

-- a group that is open, with the nodes before it in the body around it and the line that opened it: a choice with its
-- finished branches and the head of the one that is being read, or a loop
pub data Group : Type 0 where
  OpenChoice : (outer : Nodes) → (opener : ℕ) → (finished : Branches) → (line : ℕ) → Condition → Group
  OpenLoop : (outer : Nodes) → (opener : ℕ) → (name array : List ℕ) → Group

-- the groups that are open, the innermost first, and the nodes read in its body
pub record Reading : Type 0 where
  pub groups : List Group
  pub nodes : Nodes

abbrev pub nothing_read : Reading
nothing_read = record { groups = []; nodes = Done }

-- one node more
abbrev pub with : Reading → Node → Reading
with r n = record { groups = r.groups; nodes = with_node r.nodes n }

-- a group that opens; at most 100 are open
abbrev pub opened : Group → List Group → Result Reading MacroKind
opened g gs = if nat_lt (length gs) 100 then Ok (record { groups = g ∷ gs; nodes = Done }) else Err NestDeep

-- the branch of an `@#else`
abbrev pub is_otherwise : Condition → Bool
is_otherwise Otherwise = true
is_otherwise _ = false

-- a further branch: in a choice, and not after its `@#else`
abbrev pub further : ℕ → Condition → Nodes → List Group → Result Reading MacroKind
further line c nodes (OpenChoice outer opener finished l was ∷ gs) =
    if is_otherwise was then Err Unbalanced else Ok (record { groups = OpenChoice outer opener (with_branch finished l was nodes) line c ∷ gs; nodes = Done })
further line c nodes _ = Err Unbalanced

-- the end of a choice
abbrev pub choice_ended : Nodes → List Group → Result Reading MacroKind
choice_ended nodes (OpenChoice outer opener finished l was ∷ gs) =
    Ok (record { groups = gs; nodes = with_node outer (Choice (with_branch finished l was nodes)) })
choice_ended nodes _ = Err Unbalanced

-- the end of a loop
abbrev pub loop_ended : Nodes → List Group → Result Reading MacroKind
loop_ended nodes (OpenLoop outer opener name array ∷ gs) =
    Ok (record { groups = gs; nodes = with_node outer (Loop opener name array nodes) })
loop_ended nodes _ = Err Unbalanced

-- what is read after a line more
abbrev pub after_line : ℕ → Content → Reading → Result Reading MacroKind
after_line line (Alone s) r = Ok (with r (Simple line s))
after_line line (Include e) r = Ok (with r (Included line e))
after_line line (If c) r = opened (OpenChoice r.nodes line NoBranch line c) r.groups
after_line line (Further c) r = further line c r.nodes r.groups
after_line line EndIf r = choice_ended r.nodes r.groups
after_line line (For name array) r = opened (OpenLoop r.nodes line name array) r.groups
after_line line EndFor r = loop_ended r.nodes r.groups
after_line line IllFormed r = Err BadDirective

-- the fault's line
abbrev pub at : {X : Type 0} → ℕ → Result X MacroKind → Result X Fault
at line (Ok x) = Ok x
at line (Err kind) = Err (record { kind = kind; line = line })

-- what is read after these lines, the first of which has this number; or the first line that is at fault
unfoldable pub after_lines : ℕ → List (List ℕ) → Reading → Result Reading Fault
after_lines line [] r = Ok r
after_lines line (l ∷ ls) r = at line (after_line line (content_of l) r) >>= after_lines (line + 1) ls

-- the line that opened a group
abbrev pub opener : Group → ℕ
opener (OpenChoice outer line finished l c) = line
opener (OpenLoop outer line name array) = line

-- the last of these, the outermost group
abbrev pub outermost : Group → List Group → Group
outermost g [] = g
outermost g (h ∷ gs) = outermost h gs

-- no group may be open at the end; a missing end is placed at the opener of the outermost
abbrev pub whole : Reading → Result Nodes Fault
whole r = by r.groups
  where
    by : List Group → Result Nodes Fault
    by [] = Ok r.nodes
    by (g ∷ gs) = Err (record { kind = Unbalanced; line = opener (outermost g gs) })

-- the tree of a file's lines, or the first line that is at fault; a missing end comes after all lines
abbrev pub groups : List ℕ → Result Nodes Fault
groups bytes = after_lines 1 (lines bytes) nothing_read >>= whole

-- where so many first lines are by themselves, what is read after them and further lines
abbrev pub AreAlone : List (List ℕ) → ℕ → List (List ℕ) → Type 0
AreAlone all count rest = (line : ℕ) (r : Reading) → after_lines line all r ≡ after_lines (line + count) rest (record { groups = r.groups; nodes = joined r.nodes (run_before line count all Done) })
