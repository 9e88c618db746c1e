use Rattle.std.proofs.Common.{◌≡◌, Ok, Err, sym, ap, ◌∙◌, subst, arith}
use Rattle.std.proofs.lemmas.Result.{err_from_is_err_and}
use Rattle.mp_outside.specs.Outside.{Listing}
use Rattle.mp_directive.specs.Tree.{Done, Then, Choice, Loop, nodes_weight}
use Rattle.mp_directive.specs.declared.tree.Head.{Head}
use Rattle.mp_directive.specs.Groups.{groups}
use Rattle.mp_directive.specs.Shown.{node_before, nodes_of, branches_of}
use Rattle.mp_macro.specs.States.{counted, named, elements, turn_begun}
use Rattle.mp_macro.specs.Expansion.{after_node, after_nodes, after_branches, include, tree}
use Rattle.mp_macro.specs.Says.{state_of, SaysHere}
use Rattle.mp_mvalue.specs.Shared.{unshared, all_unshared}
use Rattle.mp_mvalue.proofs.Lengths.{length-unshared}
use Rattle.mp_macro.proofs.Runs.{one-node, first-weight, nodes-next, nodes-stop, here-says}
use Rattle.mp_macro.proofs.Parts.{choice-of, loop-of}
use Rattle.mp_macro.proofs.Steps.{later-refl, later-join, says-after, gives-ok, deep-says, count-stops, fetch-stops, tree-stops, include-goes-on, turn-stops, body-stops, loop-ends}
use Rattle.mp_macro.proofs.expansion.+expansion.Goals as goal

pub expand_node-expand_branches-requires : goal.expand_node-expand_branches-requires
expand_node-expand_branches-requires g t c κs within =
    let w = ap nodes_weight (choice-of c.args.node.now c.in-Choice.branches c.as_slice.result.now c.in-Choice.is c.as_slice.ensures) in
    (omega (arith, c.decreases, w), (within, (c.requires.short, omega (arith, c.requires.light, w))))

pub expand_node-expand_loop-requires : goal.expand_node-expand_loop-requires
expand_node-expand_loop-requires g t c κs within =
    let w = ap nodes_weight (loop-of c.args.node.now c.in-Loop.head c.in-Loop.body c.as_slice-in-Loop.result.now c.in-Loop.is c.as_slice-in-Loop.ensures) in
    (omega (arith, c.decreases, w), (within, (c.requires.short, omega (arith, c.requires.light, w))))

pub expand_node-returns-in-Choice-clause-says : goal.expand_node-returns-in-Choice-clause-says
expand_node-returns-in-Choice-clause-says g t c =
    let a = g.F.Files.outside c.args.files.now in
    let s = state_of c.args.state.now in
    let is = choice-of c.args.node.now c.in-Choice.branches c.as_slice.result.now c.in-Choice.is c.as_slice.ensures in
    says-after (state_of c.expand_branches.new.state) a a (g.F.Files.outside c.expand_branches.new.files) (λ l. after_branches (include l c.args.room) c.args.file.now (branches_of c.as_slice.result.now) s) (λ l. after_nodes (include l c.args.room) c.args.file.now (node_before c.args.node.now Done) s) c.expand_branches.result (later-refl a) (λ l told. ap (λ n. after_nodes (include l c.args.room) c.args.file.now n s) is ∙ one-node (include l c.args.room) c.args.file.now (Choice (branches_of c.as_slice.result.now)) s) c.expand_branches.ensures.says

pub expand_node-returns-in-Loop-clause-says : goal.expand_node-returns-in-Loop-clause-says
expand_node-returns-in-Loop-clause-says g t c =
    let a = g.F.Files.outside c.args.files.now in
    let s = state_of c.args.state.now in
    let body = nodes_of c.as_slice-in-Loop.result.now in
    let head : Head = c.get.result.now in
    let is = loop-of c.args.node.now c.in-Loop.head c.in-Loop.body c.as_slice-in-Loop.result.now c.in-Loop.is c.as_slice-in-Loop.ensures ∙ ap (λ (h : Head). Then (Loop h.line h.name.now h.array.now body) Done) (sym c.get.ensures) in
    says-after (state_of c.expand_loop.new.state) a a (g.F.Files.outside c.expand_loop.new.files) (λ l. after_node (include l c.args.room) c.args.file.now (Loop head.line head.name.now head.array.now body) s) (λ l. after_nodes (include l c.args.room) c.args.file.now (node_before c.args.node.now Done) s) c.expand_loop.result (later-refl a) (λ l told. ap (λ n. after_nodes (include l c.args.room) c.args.file.now n s) is ∙ one-node (include l c.args.room) c.args.file.now (Loop head.line head.name.now head.array.now body) s) c.expand_loop.ensures.says

pub expand_include-returns-then-room-eq0-clause-says : goal.expand_include-returns-then-room-eq0-clause-says
expand_include-returns-then-room-eq0-clause-says g t c =
    let a = g.F.Files.outside c.args.files.now in
    let s = state_of c.args.state.now in
    deep-says s s a a c.args.room c.args.file.now c.args.line c.args.name.now c.refusal.result c.if-room-eq0.true c.refusal.ensures

pub expand_include-returns-in_err-placed-clause-says : goal.expand_include-returns-in_err-placed-clause-says
expand_include-returns-in_err-placed-clause-says g t c =
    let p = err_from_is_err_and c.from_residual.result c.from_residual.ensures.1 in
    let a = g.F.Files.outside c.args.files.now in
    let s = state_of c.args.state.now in
    rw (p.1, p.2) (count-stops a c.args.room c.args.file.now c.args.line c.args.name.now s c.count.new.self c.count.result c.in_err-placed.field-0.0 c.if-room-eq0.false c.count.ensures c.in_err-placed.ensures)

pub expand_include-returns-in_err-fetch-clause-says : goal.expand_include-returns-in_err-fetch-clause-says
expand_include-returns-in_err-fetch-clause-says g t c =
    let p = err_from_is_err_and c.from_residual-in_err-fetch.result c.from_residual-in_err-fetch.ensures.1 in
    let counts = gives-ok (λ u. state_of c.count.new.self) c.count.result (counted (state_of c.args.state.now)) c.in_ok-placed.field-0 c.count.ensures c.in_ok-placed.ensures in
    rw (p.1, p.2) (fetch-stops (g.F.Files.outside c.args.files.now) (g.F.Files.outside c.fetch.new.files) c.args.room c.args.file.now c.args.line c.args.name.now (state_of c.args.state.now) (state_of c.count.new.self) c.fetch.new.into c.in_err-fetch.field-0.0 c.if-room-eq0.false counts c.in_err-fetch.ensures.says)

pub expand_include-returns-in_err-nodes-clause-says : goal.expand_include-returns-in_err-nodes-clause-says
expand_include-returns-in_err-nodes-clause-says g t c =
    let p = err_from_is_err_and c.from_residual-in_err-nodes.result c.from_residual-in_err-nodes.ensures.1 in
    let counts = gives-ok (λ u. state_of c.count.new.self) c.count.result (counted (state_of c.args.state.now)) c.in_ok-placed.field-0 c.count.ensures c.in_ok-placed.ensures in
    let read = subst (λ b. SaysHere nodes_of (Err c.in_err-nodes.field-0.0) (tree c.args.name.now (groups b))) c.as_slice.ensures c.in_err-nodes.ensures.tree in
    rw (p.1, p.2) (tree-stops (g.F.Files.outside c.args.files.now) (g.F.Files.outside c.fetch.new.files) c.args.room c.args.file.now c.args.line c.args.name.now (state_of c.args.state.now) (state_of c.count.new.self) c.fetch.new.into c.in_err-nodes.field-0.0 c.if-room-eq0.false counts c.in_ok-fetch.ensures.says read)

pub expand_include-returns-clause-says : goal.expand_include-returns-clause-says
expand_include-returns-clause-says g t c =
    let counts = gives-ok (λ u. state_of c.count.new.self) c.count.result (counted (state_of c.args.state.now)) c.in_ok-placed.field-0 c.count.ensures c.in_ok-placed.ensures in
    let read = subst (λ b. tree c.args.name.now (groups b) ≡ Ok (nodes_of c.in_ok-nodes.nodes)) c.as_slice.ensures c.in_ok-nodes.ensures.tree in
    let read' = read ∙ ap (λ b. Ok (nodes_of b)) (sym c.as_slice-2.ensures) in
    include-goes-on (g.F.Files.outside c.args.files.now) (g.F.Files.outside c.fetch.new.files) (g.F.Files.outside c.expand_nodes.new.files) c.args.room c.args.file.now c.args.line c.args.name.now (state_of c.args.state.now) (state_of c.count.new.self) (state_of c.expand_nodes.new.state) c.fetch.new.into (nodes_of c.as_slice-2.result.now) c.expand_nodes.result c.if-room-eq0.false counts c.in_ok-fetch.ensures.says read' c.in_ok-fetch.ensures.later c.expand_nodes.ensures.says

pub expand_loop-returns-in_err-placed-clause-says : goal.expand_loop-returns-in_err-placed-clause-says
expand_loop-returns-in_err-placed-clause-says g t c =
    let p = err_from_is_err_and c.from_residual-in_err-placed.result c.from_residual-in_err-placed.ensures.1 in
    let h = c.args.head.now in
    let z = state_of c.args.state.now in
    let elems = gives-ok (λ a. a.value) c.elements.result (elements z.names h.array.now) c.in_ok-values.values c.elements.ensures c.in_ok-values.ensures in
    rw (p.1, p.2) (turn-stops c.args.room c.args.file.now h.line h.name.now h.array.now (nodes_of c.args.body.now) (g.F.Files.outside c.args.files.now) (g.F.Files.outside c.turns.files) c.in_ok-values.values.value (all_unshared c.as_slice-rest.result.now) (all_unshared c.turns.rest.now) (all_unshared c.in-Some.more.now) (unshared c.in-Some.value.now) z (state_of c.turns.state) c.begin_turn.new.state c.begin_turn.result c.in_err-placed.field-0.0 elems (c.as_slice-rest.ensures ∙ c.as_ref.ensures) (ap all_unshared c.in-Some.ensures.cases.0) c.begin_turn.ensures c.in_err-placed.ensures c.turns.invariant.told)

pub expand_loop-returns-in_err-expand_nodes-clause-says : goal.expand_loop-returns-in_err-expand_nodes-clause-says
expand_loop-returns-in_err-expand_nodes-clause-says g t c =
    let p = err_from_is_err_and c.from_residual-in_err-expand_nodes.result c.from_residual-in_err-expand_nodes.ensures.1 in
    let h = c.args.head.now in
    let z = state_of c.args.state.now in
    let elems = gives-ok (λ a. a.value) c.elements.result (elements z.names h.array.now) c.in_ok-values.values c.elements.ensures c.in_ok-values.ensures in
    let begun = gives-ok (λ u. state_of c.begin_turn.new.state) c.begin_turn.result (turn_begun h.name.now (unshared c.in-Some.value.now) (state_of c.turns.state)) c.in_ok-placed.field-0 c.begin_turn.ensures c.in_ok-placed.ensures in
    rw (p.1, p.2) (body-stops c.args.room c.args.file.now h.line h.name.now h.array.now (nodes_of c.args.body.now) (g.F.Files.outside c.args.files.now) (g.F.Files.outside c.turns.files) (g.F.Files.outside c.expand_nodes.new.files) c.in_ok-values.values.value (all_unshared c.as_slice-rest.result.now) (all_unshared c.turns.rest.now) (all_unshared c.in-Some.more.now) (unshared c.in-Some.value.now) z (state_of c.turns.state) (state_of c.begin_turn.new.state) (state_of c.expand_nodes.new.state) c.in_err-expand_nodes.field-0.0 elems (c.as_slice-rest.ensures ∙ c.as_ref.ensures) (ap all_unshared c.in-Some.ensures.cases.0) begun c.turns.invariant.later c.turns.invariant.told c.in_err-expand_nodes.ensures.says)

pub expand_loop-returns-clause-says : goal.expand_loop-returns-clause-says
expand_loop-returns-clause-says g t c =
    let h = c.args.head.now in
    let z = state_of c.args.state.now in
    let elems = gives-ok (λ a. a.value) c.elements.result (elements z.names h.array.now) c.in_ok-values.values c.elements.ensures c.in_ok-values.ensures in
    loop-ends c.args.room c.args.file.now h.line h.name.now h.array.now (nodes_of c.args.body.now) (g.F.Files.outside c.args.files.now) c.in_ok-values.values.value (all_unshared c.as_slice-rest.result.now) (all_unshared c.turns.rest.now) z (state_of c.turns.state) (state_of c.restore.new.self) elems (c.as_slice-rest.ensures ∙ c.as_ref.ensures) (length-unshared c.turns.rest.now ∙ c.in_default.ensures.cases) c.turns.invariant.told (c.in_ok-restore.ensures ∙ ap (λ v. named h.name.now v (state_of c.turns.state)) c.turns.invariant.former)

pub expand_nodes-expand_node-requires : goal.expand_nodes-expand_node-requires
expand_nodes-expand_node-requires g t c κs within =
    let w = ap (λ xs. nodes_weight (nodes_of xs)) c.in-Some.ensures.cases.0 ∙ first-weight c.in-Some.node.now c.in-Some.more.now in
    (omega (arith, c.decreases, c.nodes.invariant.light, w), (within, (c.requires.short, omega (arith, c.requires.light, c.nodes.invariant.light, w))))

pub expand_nodes-returns-in_err-expand_node-clause-says : goal.expand_nodes-returns-in_err-expand_node-clause-says
expand_nodes-returns-in_err-expand_node-clause-says g t c =
    let p = err_from_is_err_and c.from_residual.result c.from_residual.ensures.1 in
    let i = c.nodes.invariant in
    rw (p.1, p.2) (nodes-stop c.args.room c.args.file.now (g.F.Files.outside c.args.files.now) (g.F.Files.outside c.nodes.files) c.in-Some.node.now c.in-Some.more.now c.nodes.rest.now c.args.nodes.now (state_of c.args.state.now) (state_of c.nodes.state) (state_of c.expand_node.new.state) (g.F.Files.outside c.expand_node.new.files) c.in_err-expand_node.field-0.0 c.in-Some.ensures.cases.0 i.later i.told c.in_err-expand_node.ensures.says)

pub expand_nodes-nodes-preserved : goal.expand_nodes-nodes-preserved
expand_nodes-nodes-preserved g t c =
    let i = c.nodes.invariant in
    let w = ap (λ xs. nodes_weight (nodes_of xs)) c.in-Some.ensures.cases.0 ∙ first-weight c.in-Some.node.now c.in-Some.more.now in
    record {
      later = later-join i.later c.expand_node.ensures.later;
      light = omega (arith, i.light, w);
      told = nodes-next c.args.room c.args.file.now (g.F.Files.outside c.args.files.now) (g.F.Files.outside c.nodes.files) c.in-Some.node.now c.in-Some.more.now c.nodes.rest.now c.args.nodes.now (state_of c.args.state.now) (state_of c.nodes.state) (state_of c.expand_node.new.state) c.in-Some.ensures.cases.0 i.later i.told c.in_ok-expand_node.ensures.says;
    }

pub expand_node-returns-in-Run-clause-says : goal.expand_node-returns-in-Run-clause-says
expand_node-returns-in-Run-clause-says g t c =
    let s = state_of c.args.state.now in
    let told : (l : Listing) → SaysHere (λ u. state_of c.expand_run.new.state) c.expand_run.result (after_nodes (include l c.args.room) c.args.file.now (node_before c.args.node.now Done) s) = λ l. subst (λ x. SaysHere (λ u. state_of c.expand_run.new.state) c.expand_run.result (after_nodes (include l c.args.room) c.args.file.now (node_before x Done) s)) (sym c.in-Run.is) (c.expand_run.ensures (include l c.args.room)) in
    here-says c.expand_run.new.state (g.F.Files.outside c.args.files.now) (λ l. after_nodes (include l c.args.room) c.args.file.now (node_before c.args.node.now Done) s) c.expand_run.result told
