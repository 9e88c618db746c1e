use Rattle.std.proofs.Common.{◌≡◌, ◌+◌, ◌*◌, ◌^◌, ◌≤◌, length, Some, option_map}
use Rattle.mp_outside.specs.Outside.{Listing, Later}
use Rattle.mp_mvalue.specs.Shared.{unshared, all_unshared}
use Rattle.mp_directive.specs.Tree.{Done, nodes_weight, branches_weight}
use Rattle.mp_directive.specs.Shown.{node_before, nodes_of, branches_of}
use Rattle.mp_macro.specs.Expansion.{after_nodes, after_branches, turns, include}
use Rattle.mp_macro.specs.Says.{state_of}
use Rattle.mp_macro.proofs.expansion.+expansion.Given as goal

abbrev pub decreases-expand_nodes : goal.decreases-expand_nodes
decreases-expand_nodes g l = l.room * 2 ^ 26 + 4 * nodes_weight (nodes_of l.nodes.now) + 1

abbrev pub decreases-expand_node : goal.decreases-expand_node
decreases-expand_node g l = l.room * 2 ^ 26 + 4 * nodes_weight (node_before l.node.now Done)

abbrev pub decreases-expand_included : goal.decreases-expand_included
decreases-expand_included g l = l.room * 2 ^ 26 + 1

abbrev pub decreases-expand_branches : goal.decreases-expand_branches
decreases-expand_branches g l = l.room * 2 ^ 26 + 4 * branches_weight (branches_of l.branches.now) + 1

abbrev pub decreases-expand_loop : goal.decreases-expand_loop
decreases-expand_loop g l = l.room * 2 ^ 26 + 4 * nodes_weight (nodes_of l.body.now) + 3

abbrev pub decreases-expand_include : goal.decreases-expand_include
decreases-expand_include g l = l.room * 2 ^ 26

abbrev pub invariant-expand_nodes-nodes : goal.invariant-expand_nodes-nodes
invariant-expand_nodes-nodes g l = record {
  later : Later (g.F.Files.outside l.fn.files) (g.F.Files.outside l.files);
  light : nodes_weight (nodes_of l.rest) ≤ nodes_weight (nodes_of l.nodes);
  told : (k : Listing) → (g.F.Files.outside l.fn.files).listing ≡ Some k → after_nodes (include k l.room) l.file (nodes_of l.rest) (state_of l.state) ≡ after_nodes (include k l.room) l.file (nodes_of l.nodes) (state_of l.fn.state);
}

abbrev pub decreases-expand_nodes-nodes : goal.decreases-expand_nodes-nodes
decreases-expand_nodes-nodes g l = length l.rest

abbrev pub invariant-expand_branches-branches : goal.invariant-expand_branches-branches
invariant-expand_branches-branches g l = record {
  same : g.F.Files.outside l.files ≡ g.F.Files.outside l.fn.files;
  light : branches_weight (branches_of l.rest) ≤ branches_weight (branches_of l.branches);
  told : (k : Listing) → after_branches (include k l.room) l.file (branches_of l.rest) (state_of l.state) ≡ after_branches (include k l.room) l.file (branches_of l.branches) (state_of l.fn.state);
}

abbrev pub decreases-expand_branches-branches : goal.decreases-expand_branches-branches
decreases-expand_branches-branches g l = length l.rest

abbrev pub invariant-expand_loop-turns : goal.invariant-expand_loop-turns
invariant-expand_loop-turns g l = record {
  later : Later (g.F.Files.outside l.fn.files) (g.F.Files.outside l.files);
  former : option_map unshared l.former ≡ (state_of l.fn.state).names l.head.name.now;
  told : (k : Listing) → (g.F.Files.outside l.fn.files).listing ≡ Some k → turns (after_nodes (include k l.room) l.file (nodes_of l.body)) l.file l.head.line l.head.name.now (all_unshared l.rest) (state_of l.state) ≡ turns (after_nodes (include k l.room) l.file (nodes_of l.body)) l.file l.head.line l.head.name.now (all_unshared l.initial.rest) (state_of l.fn.state);
}

abbrev pub decreases-expand_loop-turns : goal.decreases-expand_loop-turns
decreases-expand_loop-turns g l = length l.rest
