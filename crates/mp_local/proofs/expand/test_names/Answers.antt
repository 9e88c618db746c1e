use Rattle.std.proofs.Common.{ℕ, length, pos, Err, option_map, sym, ap, ◌∙◌}
use Rattle.mp_base.specs.declared.kinds.DataKind.TheVariants as d
use Rattle.mp_rational.specs.Fraction.{whole}
use Rattle.mp_declared.specs.Many.{most_names}
use Rattle.mp_file.specs.Shown.{file_of}
use Rattle.mp_values.specs.Limits.{Refused}
use Rattle.mp_names.specs.Named.{of_kind}
use Rattle.mp_local.specs.Local.{tested, many_refused}
use Rattle.mp_local.proofs.GivesLaws.{fails_same, kind_same}
use Rattle.mp_local.proofs.expand.test_names.Goals as goal

pub returns : goal.returns
returns c =
    let file = file_of c.args.file.now in
    let beyond = c.in-Some.beyond in
    let count = c.count-count.ensures.count ∙ ap (λ ns. length (of_kind beyond.kind ns)) c.requires ∙ ap length (kind_same beyond.kind file) in
    fails_same c.refused.result _ _
    (ap (λ x. tested (option_map (many_refused file) x)) (sym c.in-Some.ensures)
    ∙ ap (λ (n : ℕ). Err (Refused d.ManyNames beyond.name.at (whole (pos n)) (whole (pos (most_names beyond.kind))))) (sym count)
    ∙ ap (λ (n : ℕ). Err (Refused d.ManyNames beyond.name.at (whole (pos c.count-count.result)) (whole (pos n)))) (sym c.most_names-most.ensures))
    c.refused.ensures
