use Rattle.std.proofs.Common.{◌≡◌, ◌∙◌, ◌++◌, ◌∷◌, [], Some, ap, sym, refl, slice_get}
use Rattle.std.proofs.lemmas.List.{map-append, take_more}
use Rattle.std.proofs.lemmas.Option.{get_or_from_slice_get, slice_get_within}
use Rattle.clap.specs.Walk.{texts}
use Rattle.mp_words.proofs.Defines.{at-word}
use Rattle.mp_words.proofs.words.texts_of.Goals as goal

pub loop-before-preserved : goal.loop-before-preserved
loop-before-preserved c =
    let words = c.args.words.now in
    let k = c.loop-before.before in
    let w = c.word.result in
    let e : slice_get words k ≡ Some w.now = at-word words k w.now w.now c.word.ensures refl in
    ap texts c.in_ok-push.ensures.items ∙ map-append (λ t. t.now) c.loop-before.texts.items (w ∷ [])
    ∙ (λ i. c.loop-before.invariant i ++ sym (get_or_from_slice_get words k w.now w.now e) i ∷ [])
    ∙ sym (take_more words k w.now (slice_get_within words k w.now e))
