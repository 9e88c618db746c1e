use Rattle.std.proofs.Common.{sym, ap, subst, ◌∙◌}
use Rattle.mp_file.specs.Shown.{expr_of}
use Rattle.mp_declared.specs.Points.{reads}
use Rattle.mp_decl.specs.Shown.{reader_of}
use Rattle.mp_decl.specs.Walk.{walked_by}
use Rattle.mp_decl.specs.Walks.{Went}
use Rattle.mp_decl.proofs.ReadWalks.{walk-reads, all-reads}
use Rattle.mp_decl.proofs.walk.walk_expression.Goals as goal

pub returns : goal.returns
returns c =
    let known = c.args.known.now in
    let r = reader_of c.args.reader in
    let e = expr_of c.args.value.now in
    subst (Went c.refused.result known) (ap (walked_by known) c.find_in.ensures ∙ sym (walk-reads known (reads r e) (all-reads r e))) c.refused.ensures
