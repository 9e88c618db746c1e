use Rattle.std.proofs.Common.{map, ap, ◌∙◌, is_some}
use Rattle.mp_statements.specs.Parts.{is_tag}
use Rattle.mp_file.specs.Shown.{tag_of}
use Rattle.mp_decl.proofs.FindTurns.{is_some-find, is_some-map}
use Rattle.mp_decl.proofs.tags.is_there.Goals as goal

pub returns : goal.returns
returns c =
    c.is_some.ensures ∙ is_some-map _ c.named.result
    ∙ ap is_some c.named.ensures
    ∙ is_some-find (is_tag c.args.name.now) (map tag_of c.args.tags.now)
