use Rattle.std.proofs.Common.{option_map, ap, ◌∙◌}
use Rattle.mp_file.specs.Shown.{file_of}
use Rattle.mp_local.specs.Local.{tested, shift_refused}
use Rattle.mp_local.specs.Reaches.{far_of}
use Rattle.mp_local.proofs.GivesLaws.{fails_same, shifts_told}
use Rattle.mp_local.proofs.expand.test_shifts.Goals as goal

pub returns-in-Ok-Some : goal.returns-in-Ok-Some
returns-in-Ok-Some c =
    let file = file_of c.args.file.now in
    fails_same c.refused.result _ _ (ap tested (shifts_told file c.args.names.now c.in-Ok-Some.field-0 c.in-Ok-Some.ensures c.requires) ∙ ap (λ o. tested (option_map (λ x. shift_refused (far_of x)) o)) c.in-Ok-Some.field-0-is) c.refused.ensures
