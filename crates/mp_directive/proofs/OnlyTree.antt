-- Lines in which nodes stand are read as these nodes.
use Rattle.std.proofs.Common.{◌≡◌, ℕ, suc, ◌+◌, ◌<◌, ◌≤◌, List, [], ◌∷◌, ◌++◌, length, Result, Ok, Err, false, nat_lt, if◌then◌else◌, refl, sym, ap, ◌∙◌, append_assoc, arith}
use Rattle.std.proofs.lemmas.Bool.Decides.{nat_tests}
use Rattle.mp_base.specs.declared.kinds.MacroKind.{MacroKind}
use Rattle.mp_base.specs.declared.kinds.MacroKind.TheVariants.{NestDeep}
use Rattle.mp_directive.specs.Results.{◌>>=◌}
use Rattle.mp_directive.specs.Directives as d
use Rattle.mp_directive.specs.Tree.{Node, Choice, Nodes, Done, with_node, Branches, NoBranch, Branch, with_branch}
use Rattle.mp_directive.specs.Groups.{Group, OpenChoice, OpenLoop, Reading, opened, further, is_otherwise, whole, groups, nothing_read}
use Rattle.mp_directive.specs.Structure.{NodesStand, none, more, NodeStands, by_itself, include, choice, loop, FurtherStand, last, next, contents}
use Rattle.mp_directive.proofs.Contents.{read_from, read-after, read-line, groups-contents}
use Rattle.mp_directive.proofs.Joined.{joined-none, joined-node, joined_branches, joined-last, joined-branch}
use Rattle.mp_directive.specs.Tree.{joined}

-- a group opens where there is room
pub opens : (g : Group) (gs : List Group) → length gs < 100 → opened g gs ≡ Ok (record { groups = g ∷ gs; nodes = Done })
opens g gs room = by (length gs) room
  where
    by : (n : ℕ) → n < 100 → (let yes : Result Reading MacroKind = Ok (record { groups = g ∷ gs; nodes = Done }) in (if nat_lt n 100 then yes else Err NestDeep) ≡ yes)
    by n lt = grind (arith, nat_tests)

-- a further branch begins after one that is no `@#else`
pub begins-branch : (line : ℕ) (c : d.Condition) (body outer : Nodes) (opener : ℕ) (finished : Branches) (l : ℕ) (before : d.Condition) (gs : List Group) → is_otherwise before ≡ false → further line c body (OpenChoice outer opener finished l before ∷ gs) ≡ Ok (record { groups = OpenChoice outer opener (with_branch finished l before body) line c ∷ gs; nodes = Done })
begins-branch line c body outer opener finished l before gs e = rw e refl

mutual
  nodes-only : {room line : ℕ} {cs : List d.Content} {ns : Nodes} → NodesStand room line cs ns → (gs : List Group) (before : Nodes) → length gs + room ≤ 100 → read_from line cs (record { groups = gs; nodes = before }) ≡ Ok (record { groups = gs; nodes = joined before ns })
  nodes-only none gs before few = ap (λ ns. Ok (record { groups = gs; nodes = ns })) (sym (joined-none before))
  nodes-only (more {line = line} {cs = cs} {ds = ds} {n = n} {ns = ns} h hs) gs before few =
      read-after line cs ds _ _ (node-only h gs before few)
      ∙ nodes-only hs gs (with_node before n) few
      ∙ ap (λ ns. Ok (record { groups = gs; nodes = ns })) (joined-node before n ns)

  node-only : {room line : ℕ} {cs : List d.Content} {n : Node} → NodeStands room line cs n → (gs : List Group) (before : Nodes) → length gs + room ≤ 100 → read_from line cs (record { groups = gs; nodes = before }) ≡ Ok (record { groups = gs; nodes = with_node before n })
  node-only by_itself gs before few = refl
  node-only include gs before few = refl
  node-only (choice {line = line} {c = c} {cs = cs} {ds = ds} {body = body} h hs) gs before few =
      read-line line (d.If c) (cs ++ (ds ++ d.EndIf ∷ [])) _ _ (opens (OpenChoice before line NoBranch line c) gs (omega arith))
      ∙ read-after (line + 1) cs (ds ++ d.EndIf ∷ []) _ _ (nodes-only h (OpenChoice before line NoBranch line c ∷ gs) Done (omega arith))
      ∙ further-only hs gs before line NoBranch line body (omega arith)
  node-only (loop {line = line} {name = name} {array = array} {cs = cs} {body = body} h) gs before few =
      read-line line (d.For name array) (cs ++ d.EndFor ∷ []) _ _ (opens (OpenLoop before line name array) gs (omega arith))
      ∙ read-after (line + 1) cs (d.EndFor ∷ []) _ _ (nodes-only h (OpenLoop before line name array ∷ gs) Done (omega arith))

  further-only : {room line : ℕ} {before : d.Condition} {ds : List d.Content} {rest : Branches} → FurtherStand room line before ds rest → (gs : List Group) (outer : Nodes) (opener : ℕ) (finished : Branches) (l : ℕ) (body : Nodes) → length gs + suc room ≤ 100 → read_from line (ds ++ d.EndIf ∷ []) (record { groups = OpenChoice outer opener finished l before ∷ gs; nodes = body }) ≡ Ok (record { groups = gs; nodes = with_node outer (Choice (joined_branches finished (Branch l before body rest))) })
  further-only (last {before = before}) gs outer opener finished l body few = ap (λ bs. Ok (record { groups = gs; nodes = with_node outer (Choice bs) })) (sym (joined-last finished l before body))
  further-only (next {line = line} {before = before} {c = c} {cs = cs} {ds = ds} {body = inner} {rest = rest} open_yet h hs) gs outer opener finished l body few =
      read-line line (d.Further c) ((cs ++ ds) ++ d.EndIf ∷ []) (record { groups = OpenChoice outer opener finished l before ∷ gs; nodes = body }) _ (begins-branch line c body outer opener finished l before gs open_yet)
      ∙ ap (λ x. read_from (line + 1) x (record { groups = OpenChoice outer opener (with_branch finished l before body) line c ∷ gs; nodes = Done })) (append_assoc cs ds (d.EndIf ∷ []))
      ∙ read-after (line + 1) cs (ds ++ d.EndIf ∷ []) _ _ (nodes-only h (OpenChoice outer opener (with_branch finished l before body) line c ∷ gs) Done (omega arith))
      ∙ further-only hs gs outer opener (with_branch finished l before body) line inner few
      ∙ ap (λ bs. Ok (record { groups = gs; nodes = with_node outer (Choice bs) })) (joined-branch finished l before body (Branch line c inner rest))

-- lines that have a tree are read as it
pub tree-only : {cs : List d.Content} {ns : Nodes} → NodesStand 100 1 cs ns → read_from 1 cs nothing_read ≡ Ok (record { groups = []; nodes = ns })
tree-only h = nodes-only h [] Done (omega arith)

pub only-tree : (bytes : List ℕ) (ns : Nodes) → NodesStand 100 1 (contents bytes) ns → groups bytes ≡ Ok ns
only-tree bytes ns h = groups-contents bytes ∙ ap (λ x. x >>= whole) (tree-only h)
