use Rattle.std.proofs.Common.{◌≡◌, Some, ap, sym, ◌∙◌, drop, length, ◌+◌, ◌-◌, arith}
use Rattle.std.proofs.lemmas.List.{take_all, length-drop}
use Rattle.std.specs.Prelude.{position}
use Rattle.mp_words.specs.Words.{value_of, is_equals}
use Rattle.mp_words.proofs.Defines.{define-made}
use Rattle.mp_words.proofs.define.define_of.Goals as goal

pub returns : goal.returns
returns c =
    let word = c.args.word.now in
    let at = c.unwrap-at.result in
    let e : position is_equals word ≡ Some at = sym c.equals.ensures.place ∙ c.unwrap-at.ensures in
    define-made word at c.in_ok-copy_of.field-0 c.in_ok-value_of.field-0 e c.requires c.in_ok-copy_of.ensures (c.in_ok-value_of.ensures ∙ ap value_of (take_all (length word - (at + 1)) (drop (at + 1) word) (omega (arith, length-drop (at + 1) word))))
