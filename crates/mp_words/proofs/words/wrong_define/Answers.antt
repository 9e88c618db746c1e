use Rattle.std.proofs.Common.{◌≡◌, Some, false, true, get_or, [], slice_get, sym, ◌∙◌, arith}
use Rattle.std.proofs.lemmas.Option.{slice_get-get_or}
use Rattle.std.specs.Prelude.{is_some}
use Rattle.mp_words.specs.Words.{define_of}
use Rattle.mp_words.proofs.Defines.{at-word, wrong-many, wrong-none, wrong-on}
use Rattle.mp_words.proofs.words.wrong_define.Goals.{then-at-via-then-at, then-at-via-else-at+then-not-is_define}
use Rattle.mp_words.proofs.words.wrong_define.Goals as goal

pub returns-then-at : goal.returns-then-at
returns-then-at c =
    let words = c.args.words.now in
    let k = c.loop-before.before in
    elim c.then-at.branch [
      | then-at-via-then-at w ↦ sym (wrong-many 1 1002 words k (get_or words k []) (slice_get-get_or words k [] (omega (arith, c.loop-before-test.true, c.count-before-end.ensures))) (omega (arith, w.if-at))) ∙ c.loop-before.invariant
      | then-at-via-else-at+then-not-is_define w ↦
          let e : slice_get words k ≡ Some w.as_bytes.result.now = at-word words k w.word.result.now w.as_bytes.result.now w.word.ensures w.as_bytes.ensures.value in
          let none : is_some (define_of w.as_bytes.result.now) ≡ false = sym w.is_define.ensures ∙ w.if-not-is_define.true in
          sym (wrong-none 1 1002 words k w.as_bytes.result.now e (omega (arith, w.if-at)) none) ∙ c.loop-before.invariant
    ]

pub loop-before-preserved : goal.loop-before-preserved
loop-before-preserved c =
    let words = c.args.words.now in
    let k = c.loop-before.before in
    let e : slice_get words k ≡ Some c.as_bytes.result.now = at-word words k c.word.result.now c.as_bytes.result.now c.word.ensures c.as_bytes.ensures.value in
    let h : is_some (define_of c.as_bytes.result.now) ≡ true = sym c.is_define.ensures ∙ c.if-not-is_define.false in
    wrong-on 1 1002 words k c.as_bytes.result.now e (omega (arith, c.if-at.false)) h ∙ c.loop-before.invariant
