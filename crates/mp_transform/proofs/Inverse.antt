-- What came before the last step.
use Rattle.std.proofs.Common.{◌≡◌, ℕ, pos, ◌≤◌, ◌^◌, max, min, cond, List, [], ◌∷◌, map, length, true, false, Bool, Some, None, Result, Ok, Err, refl, sym, ap, ◌∙◌, subst, arith, nat_le, if◌then◌else◌}
use Rattle.std.specs.List.{AllByRecursion}
use Rattle.std.specs.Result.{IfOk}
use Rattle.mp_base.specs.declared.refusal.Refusal.{Refusal}
use Rattle.mp_base.specs.declared.kinds.DataKind.{DataKind}
use Rattle.mp_base.specs.declared.kinds.DataKind.TheVariants as d
use Rattle.mp_rational.specs.Fraction as fraction
use Rattle.mp_tokens.specs.Tokens.{Tok, Fault, BadByte, LongName, OpenComment, OpenText, tokens}
use Rattle.mp_statements.specs.Statements.{Statement}
use Rattle.mp_grammar.specs.Grammar.{ReadsFile, file_read}
use Rattle.mp_semantics.specs.Model.{Model, Equation}
use Rattle.mp_expr.specs.Size.{height_of}
use Rattle.mp_solutions.specs.Transformed.{transformed}
use Rattle.mp_values.specs.Limits.{Folded, ◌>>=◌, Refused}
use Rattle.mp_values.specs.ModelOf.{model_given, model_of}
use Rattle.mp_canonical.specs.Files.{canonical_text}
use Rattle.mp_canonical.specs.Printable.{IsLow, HasFreeNames}
use Rattle.mp_model.specs.Headline.{KeepsSolutions}
use Rattle.mp_derivatives.specs.Records.{records_text}
use Rattle.mp_derivatives.specs.Derivatives.{derivatives, operations, derivations, derivatives_text}
use Rattle.mp_derivatives.specs.Derived.{HaveDerivatives, derived}
use Rattle.mp_derivatives.specs.Listed.{ListsDerivatives}
use Rattle.mp_decl.specs.Given.{declared_given}
use Rattle.mp_local.specs.Local as local
use Rattle.mp_local.specs.Local.{over_limit, names_refusal, shifts_refusal, height_refusal, size_refusal, sized, local_given}
use Rattle.mp_local.specs.Sizes.{sides_of, greatest, greatest_height}
use Rattle.mp_shift.specs.Faults.{name_fault}
use Rattle.mp_transform.specs.Steps.{Step, and_then, Says}
use Rattle.mp_transform.specs.Text.{token_step, file_step, model_step, limited, name_step, named_step, sourced, tested, tokens_give, model_of_text, limit_step, output_of, text_gives, derivatives_give}
use Rattle.mp_transform.specs.declared.output.Output.TheVariants as out
use Rattle.mp_transform.specs.Canonical.{IsCanonical, AreDerivatives, HasNames}

-- a step that gave something came after one that did
pub before : {X Y : Type 0} (r : Step X) (next : X → Step Y) (y : Y) → and_then r next ≡ Ok y → (x : X) × (r ≡ Ok x) × (next x ≡ Ok y)
before (Ok x) next y e = (x, refl, e)
before (Err outcome) next y e = let k : ⊥ = cc in absurd k

pub lexed : (r : Result (List Tok) Fault) (ts : List Tok) → token_step r ≡ Ok ts → r ≡ Ok ts
lexed (Ok us) ts e = let same : us ≡ ts = cc in ap Ok same
lexed (Err (BadByte at)) ts e = let k : ⊥ = cc in absurd k
lexed (Err (LongName at)) ts e = let k : ⊥ = cc in absurd k
lexed (Err (OpenComment at)) ts e = let k : ⊥ = cc in absurd k
lexed (Err (OpenText at)) ts e = let k : ⊥ = cc in absurd k

pub parsed : (end : ℕ) (r : Result (List Statement) (List Tok)) (file : List Statement) → file_step end r ≡ Ok file → r ≡ Ok file
parsed end (Ok f) file e = let same : f ≡ file = cc in ap Ok same
parsed end (Err left) file e = let k : ⊥ = cc in absurd k

-- where the greatest height is low, each side is
each_low : (room : ℕ) (es : List Equation) → greatest (map height_of (sides_of es)) ≤ room → AllByRecursion (IsLow room) es
each_low room [] h = tt
each_low room (e ∷ es) h =
    let l = by (height_of e.left) (height_of e.right) (greatest (map height_of (sides_of es))) h in ((l.0, l.1), each_low room es l.2)
  where
    by : (a b c : ℕ) → max a (max b c) ≤ room → (a ≤ room) × (b ≤ room) × (c ≤ room)
    by a b c h = (omega arith, omega arith, omega arith)

pub meant : (end : ℕ) (r : Folded Model) (M : Model) → model_step end r ≡ Ok M → r ≡ Ok M
meant end (Ok N) M e = let same : N ≡ M = cc in ap Ok same
meant end (Err stuck) M e = let k : ⊥ = cc in absurd k

-- what went on came after what was there
after : {A B : Type 0} (r : Folded A) (next : A → Folded B) (y : B) → (r >>= next) ≡ Ok y → (x : A) × (r ≡ Ok x) × (next x ≡ Ok y)
after (Ok x) next y e = (x, refl, e)
after (Err stuck) next y e = let k : ⊥ = cc in absurd k

-- a test that went well found nothing
not_over : (kind : DataKind) (number limit : ℕ) (u : Unit {0}) → local.tested (over_limit kind number limit) ≡ Ok u → number ≤ limit
not_over kind number limit u e = by (nat_le number limit) refl e
  where
    by : (b : Bool) → nat_le number limit ≡ b → local.tested (if b then None else Some (Refused kind 0 (fraction.whole (pos number)) (fraction.whole (pos limit)))) ≡ Ok u → number ≤ limit
    by true low h = grind (arith, low)
    by false high h = let k : ⊥ = cc in absurd k

same_folded : (M N : Model) → (let r : Folded Model = Ok M in r ≡ Ok N) → M ≡ N
same_folded M N e = cc

-- a model within the limits is the file's, and low
pub record Local (file : List Statement) (M : Model) : Type 0 where
  pub is_model : model_given file ≡ Ok M
  pub are_low : AllByRecursion (IsLow 500) M.equations

local_is : (file : List Statement) (M : Model) → local_given file ≡ Ok M → Local file M
local_is file M e =
    let n = after (local.tested (names_refusal file)) (λ _. local.tested (shifts_refusal (λ x. x) file) >>= λ _. model_given file >>= λ N. sized N) M e in
    let s = after (local.tested (shifts_refusal (λ x. x) file)) (λ _. model_given file >>= λ N. sized N) M n.2 in
    let g = after (model_given file) sized M s.2 in
    let h = after (local.tested (height_refusal g.0)) (λ _. local.tested (size_refusal g.0) >>= λ _. Ok g.0) M g.2 in
    let z = after (local.tested (size_refusal g.0)) (λ _. Ok g.0) M h.2 in
    let same : g.0 ≡ M = same_folded g.0 M z.2 in
    record {
      is_model = g.1 ∙ ap Ok same;
      are_low = subst (λ (N : Model). AllByRecursion (IsLow 500) N.equations) same (each_low 500 g.0.equations (not_over d.TooDeep (greatest_height g.0) 500 h.0 h.1));
    }

-- a text with canonical bytes has tokens, a file and a model
pub record Came (text : List ℕ) (M : Model) : Type 0 where
  pub ts : List Tok
  pub file : List Statement
  pub are_tokens : tokens text ≡ Ok ts
  pub is_file : file_read ts ≡ Ok file
  pub is_local : Local file M

same_ok : (M N : Model) → (let r : Step Model = Ok M in r ≡ Ok N) → M ≡ N
same_ok M N e = cc

pub came : (text : List ℕ) (M : Model) → model_of_text text ≡ Ok M → Came text M
came text M e =
    let end = length text in
    let t = before (token_step (tokens text)) (tokens_give end) M e in
    let f = before (file_step end (file_read t.0)) (tested end t.0) M t.2 in
    let file = f.0 in
    let l = before (sourced end t.0 file) (named_step file) M f.2 in
    let a = before (declared_given end t.0 file) (λ _. limited end file) l.0 l.1 in
    let n = before (name_step (name_fault file l.0)) (λ _. Ok l.0) M l.2 in
    record {
      ts = t.0;
      file = file;
      are_tokens = lexed (tokens text) t.0 t.1;
      is_file = parsed end (file_read t.0) file f.1;
      is_local = local_is file M (meant end (local_given file) l.0 a.2 ∙ ap Ok (same_ok l.0 M n.2));
    }

same_bytes : (x y : List ℕ) → (let r : Step (List ℕ) = Ok x in r ≡ Ok y) → y ≡ x
same_bytes x y e = cc

-- the bytes that a text gives are its canonical text
pub canonical : ((ts : List Tok) (file : List Statement) → file_read ts ≡ Ok file → ReadsFile ts file)
    → ((file : List Statement) (M : Model) → model_given file ≡ Ok M → model_of file ≡ Some M)
    → ((text : List ℕ) (ts : List Tok) (file : List Statement) (M : Model) → tokens text ≡ Ok ts → ReadsFile ts file → model_given file ≡ Ok M → AllByRecursion (IsLow 500) M.equations → HasFreeNames M → KeepsSolutions file (canonical_text (transformed M)))
    → (text written : List ℕ) → HasNames (model_of_text text) → text_gives text ≡ Ok written → IsCanonical text written
canonical found means headline text written names e =
    let m = before (model_of_text text) (λ M. output_of out.Model (transformed M)) written e in
    let c = came text m.0 m.1 in
    let reads = found c.ts c.file c.is_file in
    let b = before (limit_step (derived (transformed m.0))) (λ ds. Ok (canonical_text (transformed m.0))) written m.2 in
    let same = same_bytes (canonical_text (transformed m.0)) written b.2 in
    record {
      ts = c.ts;
      file = c.file;
      model = m.0;
      lexed = c.are_tokens;
      reads = reads;
      means = means c.file m.0 c.is_local.is_model;
      printed = same;
      keeps = subst (λ (w : List ℕ). KeepsSolutions c.file w) (sym same) (headline text c.ts c.file m.0 c.are_tokens reads c.is_local.is_model c.is_local.are_low (subst HasNames m.1 names));
    }

-- a text within the limits is that of all derivatives
listed_all : (M : Model) (written : List ℕ) → output_of out.Derivatives M ≡ Ok written → written ≡ derivatives_text M
listed_all M written e = by (nat_le (operations (derivatives M)) 2000000) e
  where
    by : (b : Bool) → and_then (limit_step (cond b (Ok (derivations M)) (Err (min (operations (derivatives M)) (10 ^ 37))))) (λ ds. Ok (records_text ds)) ≡ Ok written → written ≡ derivatives_text M
    by true h = same_bytes (derivatives_text M) written h
    by false h = absurd cc

-- the bytes that a text gives are the records of its derivatives
pub listed : ((ts : List Tok) (file : List Statement) → file_read ts ≡ Ok file → ReadsFile ts file)
    → ((file : List Statement) (M : Model) → model_given file ≡ Ok M → model_of file ≡ Some M)
    → ((text : List ℕ) (ts : List Tok) (file : List Statement) (M : Model) → tokens text ≡ Ok ts → ReadsFile ts file → model_given file ≡ Ok M → AllByRecursion (IsLow 500) M.equations → HasFreeNames M → ListsDerivatives (transformed M) (derivatives_text (transformed M)))
    → (text written : List ℕ) → HasNames (model_of_text text) → derivatives_give text ≡ Ok written → AreDerivatives text written
listed found means lists text written names e =
    let m = before (model_of_text text) (λ M. output_of out.Derivatives (transformed M)) written e in
    let c = came text m.0 m.1 in
    let reads = found c.ts c.file c.is_file in
    let same = listed_all (transformed m.0) written m.2 in
    record {
      ts = c.ts;
      file = c.file;
      model = m.0;
      lexed = c.are_tokens;
      reads = reads;
      means = means c.file m.0 c.is_local.is_model;
      written_so = same;
      lists = subst (λ (w : List ℕ). ListsDerivatives (transformed m.0) w) (sym same) (lists text c.ts c.file m.0 c.are_tokens reads c.is_local.is_model c.is_local.are_low (subst HasNames m.1 names));
    }

-- the source of a text has derivatives
source_has : ((file : List Statement) (M : Model) → model_given file ≡ Ok M → HaveDerivatives M) → (end : ℕ) (file : List Statement) (M : Model) → limited end file ≡ Ok M → HaveDerivatives M
source_has given end file M e = given file M (local_is file M (meant end (local_given file) M e)).is_model

pub source_have : {X : Type 0} (view : X → Model) → ((file : List Statement) (M : Model) → model_given file ≡ Ok M → HaveDerivatives M) → (end : ℕ) (file : List Statement) (r : Result X Refusal) → Says view (limited end file) r → IfOk r (λ x. HaveDerivatives (view x))
source_have view given end file (Ok x) says = source_has given end file (view x) says
source_have view given end file (Err e) says = tt
