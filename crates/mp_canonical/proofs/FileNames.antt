-- The names that a file declares are NAMEs, and those of its equations stand between quotes.
use Rattle.std.proofs.Common.{ℕ, List, [], ◌∷◌, ◌++◌, map, find, Bool, true, false, cond, Some, option_map, codes}
use Rattle.std.specs.List.{AllByRecursion}
use Rattle.mp_syntax.specs.Syntax.{Named}
use Rattle.mp_statements.specs.declared.kind.NameKind.TheVariants as kind
use Rattle.mp_statements.specs.Statements.{Tag, Item, Local, Equates, Statement, Declares, Assigns, Model, Notes}
use Rattle.mp_statements.specs.Parts.{is_tag, unquoted, items_of}
use Rattle.mp_format.specs.Pieces.{IsName}
use Rattle.mp_format.specs.Spelling.{FitsAll, FitsOpt}
use Rattle.mp_grammar.specs.Statements.{IsNamed, IsItem, IsFile}
use Rattle.mp_grammar.specs.Tags.{IsTag}
use Rattle.mp_canonical.specs.Contents.{contents_of}
use Rattle.mp_canonical.proofs.Contents.{contents_names}
use Rattle.mp_canonical.specs.Printable.{IsTagName}
use Rattle.mp_canonical.proofs.Names.{AreNames}
use Rattle.mp_canonical.proofs.TagNames.{text_names}
use Rattle.mp_canonical.proofs.Source.{HasTagName}

front : (ns : List Named) (more : List (List ℕ)) → FitsAll IsNamed ns → AllByRecursion IsName more → AllByRecursion IsName (map (λ (n : Named). n.name) ns ++ more)
front [] more is are = are
front (n ∷ ns) more is are = (is.0, front ns more is.1 are)

pub names-are : (file : List Statement) → IsFile file → AreNames (contents_names (contents_of file))
names-are [] is = record { endogenous_ones = tt; exogenous_ones = tt; parameter_ones = tt }
names-are (Declares kind.Endogenous ns ∷ file) is =
    let r = names-are file is.1 in record { endogenous_ones = front ns _ is.0.1 r.endogenous_ones; exogenous_ones = r.exogenous_ones; parameter_ones = r.parameter_ones }
names-are (Declares kind.Exogenous ns ∷ file) is =
    let r = names-are file is.1 in record { endogenous_ones = r.endogenous_ones; exogenous_ones = front ns _ is.0.1 r.exogenous_ones; parameter_ones = r.parameter_ones }
names-are (Declares kind.Parameter ns ∷ file) is =
    let r = names-are file is.1 in record { endogenous_ones = r.endogenous_ones; exogenous_ones = r.exogenous_ones; parameter_ones = front ns _ is.0.1 r.parameter_ones }
names-are (Assigns n e ∷ file) is = let r = names-are file is.1 in record { endogenous_ones = r.endogenous_ones; exogenous_ones = r.exogenous_ones; parameter_ones = r.parameter_ones }
names-are (Model at choices xs ∷ file) is = let r = names-are file is.1 in record { endogenous_ones = r.endogenous_ones; exogenous_ones = r.exogenous_ones; parameter_ones = r.parameter_ones }
names-are (Notes command ns ∷ file) is = let r = names-are file is.1 in record { endogenous_ones = r.endogenous_ones; exogenous_ones = r.exogenous_ones; parameter_ones = r.parameter_ones }

-- ---- names of equations

tag-name : (ts : List Tag) → FitsAll IsTag ts → FitsOpt IsTagName (option_map (λ (t : Tag). unquoted t.text) (find (is_tag (codes "name")) ts))
tag-name [] is = tt
tag-name (t ∷ ts) is = by (is_tag (codes "name") t) (tag-name ts is.1)
  where
    by : (b : Bool) → FitsOpt IsTagName (option_map (λ (t : Tag). unquoted t.text) (find (is_tag (codes "name")) ts)) → FitsOpt IsTagName (option_map (λ (t : Tag). unquoted t.text) (cond b (Some t) (find (is_tag (codes "name")) ts)))
    by true more = text_names t.text is.0.1
    by false more = more

items_named : (xs : List Item) (more : List Item) → FitsAll IsItem xs → AllByRecursion HasTagName more → AllByRecursion HasTagName (xs ++ more)
items_named [] more is are = are
items_named (Local n e ∷ xs) more is are = (tt, items_named xs more is.1 are)
items_named (Equates x ∷ xs) more is are = (tag-name x.tags is.0.0, items_named xs more is.1 are)

pub equations-named : (file : List Statement) → IsFile file → AllByRecursion HasTagName (items_of file)
equations-named [] is = tt
equations-named (Declares k ns ∷ file) is = equations-named file is.1
equations-named (Assigns n e ∷ file) is = equations-named file is.1
equations-named (Model at choices xs ∷ file) is = items_named xs _ is.0.1 (equations-named file is.1)
equations-named (Notes command ns ∷ file) is = equations-named file is.1
