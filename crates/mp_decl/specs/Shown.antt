-- The types of this crate as the definitions see them.
use Rattle.std.specs.Prelude.{option_map}
use Rattle.mp_file.specs.Shown.{named_of, shift_of}
use Rattle.mp_declared.specs.Points as p
use Rattle.mp_declared.specs.Declared as d
use Rattle.mp_decl.specs.declared.fault.DeclFault.{DeclFault}
use Rattle.mp_decl.specs.declared.fault.DeclFault.TheVariants as f
use Rattle.mp_decl.specs.declared.known.Standing.{Standing}
use Rattle.mp_decl.specs.declared.known.Standing.TheVariants.{Of, Local}
use Rattle.mp_decl.specs.declared.search.Reader.{Reader}
use Rattle.mp_decl.specs.declared.search.Reader.TheVariants.{InModel, Constant}
use Rattle.mp_decl.specs.declared.search.Point.{Point}
use Rattle.mp_decl.specs.declared.search.Point.TheVariants.{Reads, Differs}

abbrev pub reader_of : Reader → p.Reader
reader_of InModel = p.InModel
reader_of Constant = p.Constant

abbrev pub standing_of : Standing → d.Standing
standing_of (Of kind) = d.Of kind
standing_of Local = d.ALocal

abbrev pub point_of : Point → p.Point
point_of (Reads reader name shift) = p.Reads (reader_of reader) (named_of name) (option_map shift_of shift)
point_of (Differs reader at) = p.Differs (reader_of reader) at

abbrev pub told : d.Fault → DeclFault
told x = f.Declared x.kind x.name x.at
