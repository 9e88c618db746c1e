-- How kinds are written.
use Rattle.std.specs.Prelude.{ℕ, List, codes}
use Rattle.mp_base.specs.declared.kinds.MacroKind.{MacroKind}
use Rattle.mp_base.specs.declared.kinds.MacroKind.TheVariants as m
use Rattle.mp_base.specs.declared.kinds.TextKind.{TextKind}
use Rattle.mp_base.specs.declared.kinds.TextKind.TheVariants as t
use Rattle.mp_base.specs.declared.kinds.DeclKind.{DeclKind}
use Rattle.mp_base.specs.declared.kinds.DeclKind.TheVariants as d
use Rattle.mp_base.specs.declared.kinds.DataKind.{DataKind}
use Rattle.mp_base.specs.declared.kinds.DataKind.TheVariants as a
use Rattle.mp_base.specs.declared.kinds.FixFault.{FixFault}
use Rattle.mp_base.specs.declared.kinds.FixFault.TheVariants as f
use Rattle.mp_base.specs.declared.kinds.Stage.{Stage}
use Rattle.mp_base.specs.declared.kinds.Stage.TheVariants as s
use Rattle.mp_base.specs.declared.kinds.Place.{Place}
use Rattle.mp_base.specs.declared.kinds.Place.TheVariants as p
use Rattle.mp_base.specs.declared.kinds.Op.{Op}
use Rattle.mp_base.specs.declared.kinds.Op.TheVariants as o
use Rattle.mp_base.specs.declared.kinds.LooseKind.{LooseKind}
use Rattle.mp_base.specs.declared.kinds.LooseKind.TheVariants as l

abbrev pub macro_name : MacroKind → List ℕ
macro_name m.BadDirective = codes "BadDirective"
macro_name m.Unbalanced = codes "Unbalanced"
macro_name m.NestDeep = codes "NestDeep"
macro_name m.BadExpression = codes "BadExpression"
macro_name m.Unknown = codes "Unknown"
macro_name m.WrongKind = codes "WrongKind"
macro_name m.Overflow = codes "Overflow"
macro_name m.OutOfRange = codes "OutOfRange"
macro_name m.UserError = codes "UserError"
macro_name m.FileName = codes "FileName"
macro_name m.FileLong = codes "FileLong"
macro_name m.IncludeDeep = codes "IncludeDeep"
macro_name m.TurnsLimit = codes "TurnsLimit"
macro_name m.TextLimit = codes "TextLimit"
macro_name m.ArrayLimit = codes "ArrayLimit"

abbrev pub text_name : TextKind → List ℕ
text_name t.BadByte = codes "BadByte"
text_name t.OpenComment = codes "OpenComment"
text_name t.OpenText = codes "OpenText"
text_name t.LongName = codes "LongName"
text_name t.Token = codes "Token"

abbrev pub decl_name : DeclKind → List ℕ
decl_name d.Twice = codes "Twice"
decl_name d.BlockTwice = codes "BlockTwice"
decl_name d.Order = codes "Order"
decl_name d.Option = codes "Option"
decl_name d.Undeclared = codes "Undeclared"
decl_name d.WrongKind = codes "WrongKind"
decl_name d.Shift = codes "Shift"
decl_name d.Place = codes "Place"
decl_name d.NotGiven = codes "NotGiven"
decl_name d.TagTwice = codes "TagTwice"
decl_name d.TagClash = codes "TagClash"
decl_name d.TagText = codes "TagText"
decl_name d.PairTwice = codes "PairTwice"
decl_name d.ValueCount = codes "ValueCount"
decl_name d.LongShift = codes "LongShift"
decl_name d.NoModel = codes "NoModel"
decl_name d.Empty = codes "Empty"
decl_name d.UnknownConstraint = codes "UnknownConstraint"
decl_name d.VariantUnnamed = codes "VariantUnnamed"
decl_name d.RegimeGap = codes "RegimeGap"
decl_name d.EquationCount = codes "EquationCount"
decl_name d.NoValue = codes "NoValue"
decl_name d.NoHorizon = codes "NoHorizon"
decl_name d.NameTaken = codes "NameTaken"
decl_name d.NameLong = codes "NameLong"

abbrev pub data_name : DataKind → List ℕ
data_name a.Literal = codes "Literal"
data_name a.Overflow = codes "Overflow"
data_name a.ZeroDivisor = codes "ZeroDivisor"
data_name a.Exponent = codes "Exponent"
data_name a.BoundNotUnits = codes "BoundNotUnits"
data_name a.OptionRange = codes "OptionRange"
data_name a.Horizon = codes "Horizon"
data_name a.ManyConstraints = codes "ManyConstraints"
data_name a.ManyNames = codes "ManyNames"
data_name a.ShiftFar = codes "ShiftFar"
data_name a.TooDeep = codes "TooDeep"
data_name a.TooLarge = codes "TooLarge"
data_name a.DerivativesLarge = codes "DerivativesLarge"
data_name a.SizeLimit = codes "SizeLimit"
data_name a.PeriodOutside = codes "PeriodOutside"
data_name a.SteadyLoose = codes "SteadyLoose"
data_name a.PathFile = codes "PathFile"

abbrev pub fault_name : FixFault → List ℕ
fault_name f.Overflow = codes "Overflow"
fault_name f.ZeroDivisor = codes "ZeroDivisor"

abbrev pub stage_name : Stage → List ℕ
stage_name s.Steady = codes "steady"
stage_name s.Path = codes "path"

abbrev pub place_name : Place → List ℕ
place_name p.Box = codes "Box"
place_name p.Point = codes "Point"
place_name p.Slope = codes "Slope"
place_name p.Eliminate = codes "Eliminate"
place_name p.Update = codes "Update"
place_name p.Start = codes "Start"
place_name p.Linear = codes "Linear"
place_name p.Test = codes "Test"

abbrev pub op_name : Op → List ℕ
op_name o.Leaf = codes "leaf"
op_name o.Neg = codes "neg"
op_name o.Add = codes "+"
op_name o.Sub = codes "-"
op_name o.Mul = codes "*"
op_name o.Div = codes "/"
op_name o.Pow = codes "^"
op_name o.Min = codes "min"
op_name o.Max = codes "max"
op_name o.Pick = codes "pick"

abbrev pub loose_name : LooseKind → List ℕ
loose_name l.Bound = codes "Bound"
loose_name l.Pair = codes "Pair"
