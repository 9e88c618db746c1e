use Rattle.std.proofs.Common.{◌≡◌, ◌<◌, ◌+◌, ◌-◌, ℕ, [], map, length, Some, None, sym, ap, ◌∙◌, arith}
use Rattle.std.specs.Prelude.{if◌then◌else◌}
use Rattle.std.proofs.lemmas.List.{length-map, get_or-map}
use Rattle.mp_statements.specs.Parts.{is_kind}
use Rattle.mp_syntax.specs.Syntax.{Named}
use Rattle.mp_declared.specs.Many.{most_names, declared_in, count_kind, first_beyond}
use Rattle.mp_file.specs.Shown.{named_of, statement_of}
use Rattle.mp_local.specs.Many.{room_for}
use Rattle.mp_local.proofs.ManyLaws.{of_kind, beyond_at, passes_names, same_names}
use Rattle.mp_local.proofs.many.beyond_in.Goals as goal

pub returns-then-left-names : goal.returns-then-left-names
returns-then-left-names c before leaves =
    let k = c.in-Declares.kind in
    let names = c.as_slice-names.result.now in
    let d : Named = record { name = []; at = 0 } in
    let full : c.left-left.result + count_kind k before ≡ most_names k = ap (λ (n : ℕ). n + count_kind k before) c.left-left.ensures ∙ leaves k in
    let within : c.left-left.result < length (map named_of names) = omega (arith, length-map names named_of, c.if-left-names.true) in
    ap (λ s. first_beyond before (declared_in (statement_of s))) c.in-Declares.is
    ∙ ap (λ l. first_beyond before (of_kind k (map named_of l))) (sym c.as_slice-names.ensures)
    ∙ beyond_at k before (map named_of names) c.left-left.result d full within
    ∙ ap (λ n. Some (k, n)) (get_or-map named_of names c.left-left.result _ d c.if-left-names.true)

pub returns : goal.returns
returns c before =
    let k = c.in-Declares.kind in
    let names = c.as_slice-names.result.now in
    let is : declared_in (statement_of c.args.statement.now) ≡ of_kind k (map named_of names) =
    ap (λ s. declared_in (statement_of s)) c.in-Declares.is ∙ ap (λ l. of_kind k (map named_of l)) (sym c.as_slice-names.ensures) in
    same_names before c.args.room.now c.take.new.self _ _ None is
    (passes_names before c.args.room.now c.take.new.self k (map named_of names) (omega (arith, length-map names named_of, c.if-left-names.false, c.left-left.ensures))
    (λ j. c.take.ensures j ∙ ap (λ (n : ℕ). if is_kind j k then room_for j c.args.room.now - n else room_for j c.args.room.now) (sym (length-map names named_of))))
