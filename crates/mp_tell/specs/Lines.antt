-- The fault line of each outcome.
use Rattle.std.specs.Prelude.{ℕ, List, [], ◌++◌, codes, decimal, unsigned_abs, if◌then◌else◌, ◌==◌}
use Rattle.std.specs.Fmt.{signed_decimal}
use Rattle.mp_base.specs.Decimals.{decimal_text}
use Rattle.mp_base.specs.declared.fraction.Ratio.{Ratio}
use Rattle.mp_base.specs.declared.outcome.Outcome.{Outcome}
use Rattle.mp_base.specs.declared.outcome.Outcome.TheVariants.{Done, Refused}
use Rattle.mp_base.specs.declared.refusal.Refusal.{Refusal}
use Rattle.mp_base.specs.declared.refusal.Refusal.TheVariants as r
use Rattle.mp_base.specs.declared.faults.NotSolved.TheVariants as n
use Rattle.mp_base.specs.declared.faults.GuessFault.TheVariants as g
use Rattle.mp_tell.specs.Names.{macro_name, text_name, decl_name, data_name, fault_name, stage_name, place_name, op_name, loose_name}

-- n, or n/d
abbrev pub fraction : Ratio → List ℕ
fraction r = if unsigned_abs r.d == 1 then signed_decimal r.n else signed_decimal r.n ++ codes "/" ++ signed_decimal r.d

-- the line of a refusal
abbrev pub refusal_line : Refusal → List ℕ
refusal_line (r.NotSolved (n.StepLimit stage steps equation period bound)) =
    codes "modpath: 1 StepLimit stage=" ++ stage_name stage ++ codes " steps=" ++ decimal steps ++ codes " equation=" ++ decimal equation ++ codes " period=" ++ decimal period ++ codes " bound=" ++ decimal_text bound ++ codes "\n"
refusal_line (r.NotSolved (n.Pivot stage step slot period pivot)) =
    codes "modpath: 1 Pivot stage=" ++ stage_name stage ++ codes " step=" ++ decimal step ++ codes " slot=" ++ slot ++ codes " period=" ++ decimal period ++ codes " pivot=" ++ decimal_text pivot ++ codes "\n"
refusal_line (r.Words word) =
    codes "modpath: 2 Words word=" ++ decimal word ++ codes "\n"
refusal_line (r.Absent name) =
    codes "modpath: 3 Absent name=" ++ name ++ codes "\n"
refusal_line (r.Macro kind file number) =
    codes "modpath: 4 Macro kind=" ++ macro_name kind ++ codes " file=" ++ file ++ codes " line=" ++ decimal number ++ codes "\n"
refusal_line (r.Text kind at token) =
    codes "modpath: 5 Text kind=" ++ text_name kind ++ codes " at=" ++ decimal at ++ codes " token=" ++ token ++ codes "\n"
refusal_line (r.Declared kind name at) =
    codes "modpath: 6 Declared kind=" ++ decl_name kind ++ codes " name=" ++ name ++ codes " at=" ++ decimal at ++ codes "\n"
refusal_line (r.Data d) =
    codes "modpath: 7 Data kind=" ++ data_name d.kind ++ codes " at=" ++ decimal d.at ++ codes " first=" ++ fraction d.first ++ codes " second=" ++ fraction d.second ++ codes "\n"
refusal_line (r.Number f) =
    codes "modpath: 8 Number kind=" ++ fault_name f.kind ++ codes " place=" ++ place_name f.place ++ codes " item=" ++ decimal f.item ++ codes " period=" ++ decimal f.period ++ codes " node=" ++ decimal f.node ++ codes " op=" ++ op_name f.op ++ codes "\n"
refusal_line (r.Guess (g.GuessLimit period name)) =
    codes "modpath: 9 GuessLimit period=" ++ decimal period ++ codes " name=" ++ name ++ codes "\n"
refusal_line (r.Guess (g.SignUnknown period name low high)) =
    codes "modpath: 9 SignUnknown period=" ++ decimal period ++ codes " name=" ++ name ++ codes " low=" ++ decimal_text low ++ codes " high=" ++ decimal_text high ++ codes "\n"
refusal_line (r.Guess (g.EndBinding name)) =
    codes "modpath: 9 EndBinding name=" ++ name ++ codes "\n"
refusal_line (r.Loose kind equation period value) =
    codes "modpath: 10 Loose kind=" ++ loose_name kind ++ codes " equation=" ++ decimal equation ++ codes " period=" ++ decimal period ++ codes " value=" ++ decimal_text value ++ codes "\n"
refusal_line (r.ReadFault count) =
    codes "modpath: 11 ReadFault count=" ++ decimal count ++ codes "\n"
refusal_line (r.WriteFault count) =
    codes "modpath: 12 WriteFault count=" ++ decimal count ++ codes "\n"
refusal_line r.NoMemory =
    codes "modpath: 13 NoMemory\n"

-- the fault line; nothing for Done
abbrev pub line : Outcome → List ℕ
line Done = []
line (Refused refusal) = refusal_line refusal
