-- What is answered after tests that went well.
use Rattle.std.proofs.Common.{◌≡◌, ℕ, ◌+◌, ◌≤◌, ◌^◌, min, List, Option, Some, None, option_map, Result, Ok, Err, refl, sym, ap, subst, ◌∙◌, arith}
use Rattle.std.specs.Prelude.{IsErrAnd}
use Rattle.mp_fold.specs.Reported.{fraction_of}
use Rattle.mp_statements.specs.declared.kind.NameKind.{NameKind}
use Rattle.mp_statements.specs.declared.kind.NameKind.TheVariants as kind
use Rattle.mp_statements.specs.Statements.{Statement}
use Rattle.mp_statements.specs.Parts as parts
use Rattle.mp_statements.specs.Parts.{items_of}
use Rattle.mp_semantics.specs.Model as m
use Rattle.mp_names.specs.Named.{of_kind}
use Rattle.mp_values.specs.Names.{Names, names_of, is_variable}
use Rattle.mp_values.specs.Limits.{Stuck, Unvalued, Refused, Folded, ◌>>=◌}
use Rattle.mp_values.specs.Table.{Table}
use Rattle.mp_values.specs.Values.{values_given}
use Rattle.mp_values.specs.ModelOf.{parameters_given, equations_given, model_with, model_given}
use Rattle.mp_trees.specs.Parts.{model_at}
use Rattle.mp_values.specs.Shifts.{FarName, far_name, no_locals}
use Rattle.mp_local.specs.declared.fault.LocalFault.{LocalFault}
use Rattle.mp_local.specs.declared.fault.LocalFault.TheVariants as fault
use Rattle.mp_local.specs.Gives.{Fails, Gives}
use Rattle.mp_local.specs.Local.{tested, names_refusal, shift_refused, shifts_refusal, height_refusal, size_refusal, sized, local_by, local_given}
use Rattle.mp_local.specs.declared.far.FarName as code
use Rattle.mp_local.specs.Reaches.{far_of, stopped_far}
use Rattle.mp_local.specs.Written.{AreWritten}
use Rattle.mp_local.proofs.WrittenLaws.{far_near}

-- ---- a part that fails

pub fails_whole : {A B : Type 0} (e : LocalFault) (part : Folded A) (whole : Folded B) → ((s : Stuck) → part ≡ Err s → whole ≡ Err s) → Fails e part → Fails e whole
fails_whole (fault.Unvalued name) part whole h fails = h (Unvalued name) fails
fails_whole (fault.Refused refused) part whole h fails = h (Refused refused.kind refused.at (fraction_of refused.first) (fraction_of refused.second)) fails
fails_whole fault.NoMemory part whole h fails = tt

pub fails_bind : {A B : Type 0} (e : LocalFault) (part : Folded A) (next : A → Folded B) → Fails e part → Fails e (part >>= next)
fails_bind e part next fails = fails_whole e part (part >>= next) (λ s is. ap (λ r. r >>= next) is) fails

pub fails_same : {A : Type 0} (e : LocalFault) (r s : Folded A) → r ≡ s → Fails e s → Fails e r
fails_same e r s is fails = fails_whole e s r (λ x h. is ∙ h) fails

-- ---- the tests of a file, one after the other

module _ (told : FarName → FarName) (file : List Statement) (names : tested (names_refusal file) ≡ Ok tt) (shifts : tested (shifts_refusal told file) ≡ Ok tt) where
  pub passed : local_by told file ≡ (model_given file >>= λ M. sized M)
  passed =
      ap (λ r. r >>= λ _. tested (shifts_refusal told file) >>= λ _. model_given file >>= λ M. sized M) names
      ∙ ap (λ r. r >>= λ _. model_given file >>= λ M. sized M) shifts

  pub valued : (M : m.Model) → model_given file ≡ Ok M → local_by told file ≡ sized M
  valued M is = passed ∙ ap (λ r. r >>= λ N. sized N) is

  pub height_fails : (e : LocalFault) (M : m.Model) → model_given file ≡ Ok M → Fails e (tested (height_refusal M)) → Fails e (local_by told file)
  height_fails e M is fails = fails_same e (local_by told file) (sized M) (valued M is) (fails_bind e (tested (height_refusal M)) (λ _. tested (size_refusal M) >>= λ _. Ok M) fails)

  pub size_fails : (e : LocalFault) (M : m.Model) → model_given file ≡ Ok M → tested (height_refusal M) ≡ Ok tt → Fails e (tested (size_refusal M)) → Fails e (local_by told file)
  size_fails e M is low fails =
      fails_same e (local_by told file) (tested (size_refusal M) >>= λ _. Ok M) (valued M is ∙ ap (λ r. r >>= λ _. tested (size_refusal M) >>= λ _. Ok M) low) (fails_bind e (tested (size_refusal M)) (λ _. Ok M) fails)

-- ---- a far name that is told exactly

stopped_same : (x : FarName) → x.greatest ≤ 10 ^ 37 + 500 → stopped_far x ≡ x
stopped_same x low =
    let e : min x.greatest (2 ^ 124) ≡ x.greatest = omega (arith, low) in
    ap (λ (n : ℕ). record x { greatest = n }) e

told_same : (found : Option FarName) → ((x : FarName) → found ≡ Some x → stopped_far x ≡ x) → option_map (λ x. shift_refused (stopped_far x)) found ≡ option_map (λ x. shift_refused x) found
told_same None same = refl
told_same (Some x) same = ap (λ y. Some (shift_refused y)) (same x refl)

pub exactly : (file : List Statement) → AreWritten (items_of file) → shifts_refusal stopped_far file ≡ shifts_refusal (λ x. x) file
exactly file written =
    told_same (far_name 24 (no_locals (is_variable (names_of file))) (items_of file)) (λ x found. stopped_same x (far_near 24 (no_locals (is_variable (names_of file))) (items_of file) x (omega arith) tt written found))

pub local_exactly : (file : List Statement) → AreWritten (items_of file) → local_by stopped_far file ≡ local_given file
local_exactly file written =
    ap (λ r. tested (names_refusal file) >>= λ _. tested r >>= λ _. model_given file >>= λ M. sized M) (exactly file written)

-- ---- names of a kind

pub kind_same : (k : NameKind) (file : List Statement) → of_kind k (names_of file) ≡ parts.names_of k file
kind_same kind.Endogenous file = refl
kind_same kind.Exogenous file = refl
kind_same kind.Parameter file = refl

-- ---- a fault that is passed on

pub gives_fails : {X Y : Type 0} (view : X → Y) (result : Result X LocalFault) (e : LocalFault) (given : Folded Y) → IsErrAnd result (λ f. f ≡ e) → Fails e given → Gives view result given
gives_fails view (Ok x) e given is fails = absurd is
gives_fails view (Err f) e given is fails = subst (λ (g : LocalFault). Fails g given) (sym is) fails

pub gives_same : {X Y : Type 0} (view : X → Y) (result : Result X LocalFault) (r s : Folded Y) → r ≡ s → Gives view result r → Gives view result s
gives_same {X} {Y} view result r s is given = subst (λ (x : Folded Y). Gives view result x) is given

-- ---- the tests of a text, which fail

pub names_fail : (told : FarName → FarName) (file : List Statement) (e : LocalFault) → Fails e (tested (names_refusal file)) → Fails e (local_by told file)
names_fail told file e fails =
    fails_bind e (tested (names_refusal file)) (λ _. tested (shifts_refusal told file) >>= λ _. model_given file >>= λ M. sized M) fails

pub shifts_fail : (told : FarName → FarName) (file : List Statement) (e : LocalFault) → tested (names_refusal file) ≡ Ok tt → Fails e (tested (shifts_refusal told file)) → Fails e (local_by told file)
shifts_fail told file e names fails =
    fails_same e (local_by told file) (tested (shifts_refusal told file) >>= λ _. model_given file >>= λ M. sized M) (ap (λ r. r >>= λ _. tested (shifts_refusal told file) >>= λ _. model_given file >>= λ M. sized M) names)
    (fails_bind e (tested (shifts_refusal told file)) (λ _. model_given file >>= λ M. sized M) fails)

-- what a search for a far name told
shifts_map : (found : Option FarName) → option_map shift_refused (option_map stopped_far found) ≡ option_map (λ x. shift_refused (stopped_far x)) found
shifts_map None = refl
shifts_map (Some x) = refl

far_map : (far : Option code.FarName) → option_map shift_refused (option_map far_of far) ≡ option_map (λ x. shift_refused (far_of x)) far
far_map None = refl
far_map (Some x) = refl

pub shifts_told : (file : List Statement) (names : Names) (far : Option code.FarName) → option_map far_of far ≡ option_map stopped_far (far_name 24 (no_locals (is_variable names)) (items_of file)) → names ≡ names_of file → shifts_refusal stopped_far file ≡ option_map (λ x. shift_refused (far_of x)) far
shifts_told file names far told same =
    sym (ap (λ ns. option_map (λ x. shift_refused (stopped_far x)) (far_name 24 (no_locals (is_variable ns)) (items_of file))) same)
    ∙ sym (shifts_map (far_name 24 (no_locals (is_variable names)) (items_of file)))
    ∙ sym (ap (option_map shift_refused) told)
    ∙ far_map far

-- a test of shifts that went well found none
pub none_far : (told : FarName → FarName) (file : List Statement) → tested (shifts_refusal told file) ≡ Ok tt → far_name 24 (no_locals (is_variable (names_of file))) (items_of file) ≡ None
none_far told file passed = by (far_name 24 (no_locals (is_variable (names_of file))) (items_of file)) passed
  where
    by : (found : Option FarName) → tested (option_map (λ x. shift_refused (told x)) found) ≡ Ok tt → found ≡ None
    by None is = refl
    by (Some x) is = absurd cc

-- the model of a file whose parameters have these values
pub model_same : (file : List Statement) (t : Table) → values_given file ≡ Ok t → model_given file ≡ model_at file t
model_same file t values =
    ap (λ r. r >>= λ u. parameters_given u >>= λ ps. equations_given file u >>= λ es. Ok (model_with (names_of file) ps es)) values
