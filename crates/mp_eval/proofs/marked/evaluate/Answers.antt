use Rattle.std.proofs.Common.{rules, ◌≡◌, ◌∙◌, ◌≤◌, ap, arith, ℕ, pos, List, Bool, length, Option, set}
use Rattle.std.specs.Prelude.{IsTrue}
use Rattle.mp_semantics.specs.Term.{Leaf, Term}
use Rattle.mp_walk.specs.Cells.{Cell, cell_at}
use Rattle.mp_path.specs.Points.{cells_of}
use Rattle.mp_eval.specs.Given.{is_marked}
use Rattle.mp_eval.proofs.Ready.{kids_of, kids_ready, node_small, node_written, done_more, done_past, count_marked, count_past}
use Rattle.mp_eval.proofs.marked.evaluate.Goals as goal
use Rattle.mp_eval.proofs.marked.evaluate.Goals.{then-marks-id, else-marks-id}

pub size_of-size-requires-clause-room : goal.size_of-size-requires-clause-room
size_of-size-requires-clause-room g c =
    let read : Leaf → Option Cell = cell_at (cells_of c.args.grid.now) (pos c.args.t) in
    let ts : List Term = c.args.graph.now.terms in
    let node = c.node-node in
    let marked : IsTrue (is_marked c.args.marks.now c.loop-id.id) = search rules in
    node_small g.K.Kind.arithmetic read ts c.args.marks.now c.loop-id.sizes c.loop-id.values c.loop-id.id node.result.op node.result.kids.now c.requires.marks
    (kids_of read ts c.args.marks.now c.loop-id.id c.of.result node.result.op node.result.kids.now c.of.ensures (omega (arith, c.loop-id-test.true, c.nodes-id-end.ensures)) marked node.ensures.term node.ensures.count node.ensures.below)
    c.loop-id.invariant.done

pub value_of-value-requires-clause-kids : goal.value_of-value-requires-clause-kids
value_of-value-requires-clause-kids g c =
    let read : Leaf → Option Cell = cell_at (cells_of c.args.grid.now) (pos c.args.t) in
    let ts : List Term = c.args.graph.now.terms in
    let node = c.node-node in
    let marked : IsTrue (is_marked c.args.marks.now c.loop-id.id) = search rules in
    kids_ready g.K.Kind.arithmetic read ts c.args.marks.now c.loop-id.sizes c.loop-id.values c.loop-id.id node.result.op node.result.kids.now c.requires.marks
    (kids_of read ts c.args.marks.now c.loop-id.id c.of.result node.result.op node.result.kids.now c.of.ensures (omega (arith, c.loop-id-test.true, c.nodes-id-end.ensures)) marked node.ensures.term node.ensures.count node.ensures.below)
    c.loop-id.invariant.done (omega (arith, c.requires.sizes_room, c.loop-id.invariant.sizes_room)) (omega (arith, c.requires.values_room, c.loop-id.invariant.values_room))

pub loop-id-preserved : goal.loop-id-preserved
loop-id-preserved g c =
    let read : Leaf → Option Cell = cell_at (cells_of c.args.grid.now) (pos c.args.t) in
    let ts : List Term = c.args.graph.now.terms in
    let marks : List Bool = c.args.marks.now in
    let id : ℕ = c.loop-id.id in
    let old = c.loop-id.invariant in
    let ls : length ts ≤ length c.loop-id.sizes = omega (arith, c.requires.sizes_room, old.sizes_room) in
    let lv : length ts ≤ length c.loop-id.values = omega (arith, c.requires.values_room, old.values_room) in
    elim c.if-marks-id.branch [
      | then-marks-id w ↦
          let marked : IsTrue (is_marked marks id) = search rules in
          let node = w.node-node in
          let n : ℕ = w.size_of-size.result in
          let v = w.value_of-value.result in
          let kids = kids_of read ts marks id w.of.result node.result.op node.result.kids.now w.of.ensures (omega (arith, c.loop-id-test.true, c.nodes-id-end.ensures)) marked node.ensures.term node.ensures.count node.ensures.below in
          let es : c.if-marks-id.sizes ≡ set c.loop-id.sizes id n = search rules in
          let ev : c.if-marks-id.values ≡ set c.loop-id.values id v = search rules in
          let count = count_marked marks id marked in
          record {
            done = done_more g.K.Kind.arithmetic read ts marks c.loop-id.sizes c.if-marks-id.sizes c.loop-id.values c.if-marks-id.values id n v es ev old.done
                (node_written g.K.Kind.arithmetic read ts marks c.loop-id.sizes c.loop-id.values id n v node.result.op node.result.kids.now c.requires.marks kids old.done ls lv
                w.size_of-size.ensures w.value_of-value.ensures.value w.value_of-value.ensures.within);
            sizes_room = search rules;
            values_room = search rules;
            steps = omega (arith, count, old.steps, w.steps-is, w.value_of-value.ensures.steps);
          }
      | else-marks-id w ↦
          let off : IsTrue (is_marked marks id) → ⊥ = search rules in
          let count = count_past marks id in
          record {
            done = done_past g.K.Kind.arithmetic read ts marks c.loop-id.sizes c.if-marks-id.sizes c.loop-id.values c.if-marks-id.values id w.sizes-is w.values-is off old.done;
            sizes_room = ap length w.sizes-is ∙ old.sizes_room;
            values_room = ap length w.values-is ∙ old.values_room;
            steps = omega (arith, count, old.steps, w.steps-is);
          }
    ]
