use Rattle.std.proofs.Common.{List, ◌++◌, ◌∷◌, [], arith, ap, ◌∙◌}
use Rattle.mp_shift.specs.Called.{Called, auxiliary_of}
use Rattle.mp_shift.proofs.Listed.{called_more}
use Rattle.mp_shift.proofs.list.Auxiliaries.add.Goals as goal

pub returns : goal.returns
returns c =
    called_more c.self.inside.text.items c.args.name.now c.extend_from_slice.new.self.items c.in_ok-extend_from_slice.ensures.items c.self.inside.entries.items c.self.invariant (record { auxiliary = c.args.auxiliary; start = c.len-start.result; end = c.len-end.result }) c.push.new.self.items (omega (arith, c.len-start.ensures, c.self.inside.text.ok.0)) (omega (arith, c.len-end.ensures, c.extend_from_slice.new.self.ok.0)) c.in_ok-push.ensures.items
    ∙ ap (λ (l : List Called). l ++ record { auxiliary = auxiliary_of c.args.auxiliary; name = c.args.name.now } ∷ []) c.self.view_is
