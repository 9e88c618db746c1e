-- What a text declares: its parameters with their values, or what refuses it.
use Rattle.std.specs.Prelude.{◌≡◌, ℕ, pos, List, take, Option, Some, None, Result, Ok, Err}
use Rattle.mp_base.specs.declared.refusal.Refusal.{Refusal}
use Rattle.mp_base.specs.declared.refusal.Refusal.TheVariants as r
use Rattle.mp_base.specs.declared.fraction.Ratio.{Ratio}
use Rattle.mp_base.specs.declared.kinds.DeclKind.TheVariants as k
use Rattle.mp_base.specs.declared.kinds.DataKind.TheVariants as d
use Rattle.mp_fold.specs.Reported.{ratio_told}
use Rattle.mp_tokens.specs.Tokens.{Tok}
use Rattle.mp_statements.specs.Statements.{Statement}
use Rattle.mp_tokens.specs.Literals.{far_literal}
use Rattle.mp_statements.specs.Parts.{items_of}
use Rattle.mp_values.specs.Table.{Table}
use Rattle.mp_values.specs.Limits.{Stuck, Unvalued, Refused, Folded}
use Rattle.mp_values.specs.Values.{values_given}
use Rattle.mp_values.specs.Exponents.{all_exponents}
use Rattle.mp_declared.specs.Declared.{Fault, declared_fault}
use Rattle.mp_decl.specs.declared.fault.DeclFault.{DeclFault}
use Rattle.mp_decl.specs.declared.fault.DeclFault.TheVariants as f

abbrev pub whole_told : ℕ → Ratio
whole_told n = record { n = pos n; d = pos 1 }

-- why there is no value, with the end of the text as the place of a name
abbrev pub stuck_told : ℕ → Stuck → Refusal
stuck_told end (Unvalued name) = r.Declared k.NoValue (take 128 name) end
stuck_told end (Refused kind at first second) =
    r.Data (record { kind = kind; at = at; first = ratio_told first; second = ratio_told second })

-- that refusal
abbrev pub refusal : ℕ → Stuck → Result Table Refusal
refusal end e = Err (stuck_told end e)

-- the first fault in declaring, or what is further on
abbrev pub unless_fault : {A : Type 0} → Option Fault → Result A Refusal → Result A Refusal
unless_fault None rest = rest
unless_fault (Some x) rest = Err (r.Declared x.kind x.name x.at)

-- the place of a number that is out of range, or what is further on
abbrev pub unless_far : {A : Type 0} → Option ℕ → Result A Refusal → Result A Refusal
unless_far None rest = rest
unless_far (Some at) rest = Err (r.Data (record { kind = d.Literal; at = at; first = whole_told 0; second = whole_told 37 }))

-- why there is no value, or what follows it
abbrev pub unless_stuck : {A B : Type 0} → ℕ → Folded A → (A → Result B Refusal) → Result B Refusal
unless_stuck end (Ok x) next = next x
unless_stuck end (Err e) next = Err (stuck_told end e)

-- the parameters with their values, where each exponent of the model is one
abbrev pub values_told : ℕ → List Statement → Result Table Refusal
values_told end file =
    unless_stuck end (values_given file) (λ t. unless_stuck end (all_exponents t (items_of file)) (λ _. Ok t))

-- the parameters of a text of this length with their values, or its first refusal: in declaring, of its numbers, of its values, of its exponents (modpath's own order)
abbrev pub declared_given : ℕ → List Tok → List Statement → Result Table Refusal
declared_given end ts file = unless_fault (declared_fault end file) (unless_far (far_literal ts) (values_told end file))

-- the refusal is this fault, or there was no memory
abbrev pub Tells : {A : Type 0} → DeclFault → Result A Refusal → Type 0
Tells (f.Declared kind name at) given = given ≡ Err (r.Declared kind name at)
Tells (f.Data refused) given = given ≡ Err (r.Data refused)
Tells f.NoMemory given = Unit {0}
