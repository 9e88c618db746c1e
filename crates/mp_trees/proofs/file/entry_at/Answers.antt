use Rattle.mp_trees.proofs.Entries.{is_some_within, entry_is}
use Rattle.mp_trees.proofs.file.entry_at.Goals as goal

pub unwrap-requires : goal.unwrap-requires
unwrap-requires c = is_some_within c.args.table.now c.args.place c.entry.result c.entry.ensures c.requires

pub returns : goal.returns
returns c = entry_is c.args.table.now c.args.place c.entry.result c.unwrap.result c.entry.ensures c.unwrap.ensures
