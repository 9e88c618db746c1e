use Rattle.std.proofs.Common.{◌≡◌, ◌+◌, Some, slice_get, sym, ap, ◌∙◌}
use Rattle.clap.specs.Walk.{texts}
use Rattle.mp_words.specs.Shown.{wrong_of}
use Rattle.mp_words.proofs.Defines.{at-text, right-define, right-room, from-some, wrong-one, after, after-one, from}
use Rattle.mp_words.proofs.command.defines_of.Goals as goal

pub define_of-requires : goal.define_of-requires
define_of-requires c =
    let words = texts c.args.words.now in
    let k = c.loop-word.word-index in
    let e : slice_get words k ≡ Some c.as_bytes.result.now = at-text c.args.words.now k _ c.as_bytes.result.now c.loop-word-test.true c.as_bytes.ensures.value in
    right-define 3 1000 words k c.as_bytes.result.now e c.loop-word.invariant.right

pub loop-word-preserved : goal.loop-word-preserved
loop-word-preserved c =
    let words = texts c.args.words.now in
    let k = c.loop-word.word-index in
    let w = c.as_bytes.result.now in
    let d = c.in_ok-define_of.field-0 in
    let e : slice_get words k ≡ Some w = at-text c.args.words.now k _ w c.loop-word-test.true c.as_bytes.ensures.value in
    let step = from-some 3 1000 words k w d e (right-room 3 1000 words k w e c.loop-word.invariant.right) c.in_ok-define_of.ensures in
    record {
      right = sym (ap wrong_of step ∙ wrong-one d (from 3 1000 words (k + 1))) ∙ c.loop-word.invariant.right;
      told = ap (λ ds. after ds (from 3 1000 words (k + 1))) c.in_ok-push.ensures.ok ∙ after-one c.loop-word.defines d (from 3 1000 words (k + 1)) ∙ ap (after c.loop-word.defines) (sym step) ∙ c.loop-word.invariant.told;
    }
