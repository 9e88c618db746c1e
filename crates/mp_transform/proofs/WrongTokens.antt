-- A text whose refusal is of a token has tokens, and this is the first wrong one.
use Rattle.std.proofs.Common.{◌≡◌, ℕ, suc, ℤ, ◌-◌, List, length, drop, Option, Some, None, Result, Ok, Err, refl, sym, ap, ◌∙◌, subst, arith}
use Rattle.std.specs.Result.{MatchResult, IsErrAnd}
use Rattle.mp_base.specs.declared.refusal.Refusal.{Refusal}
use Rattle.mp_base.specs.declared.refusal.Refusal.TheVariants as o
use Rattle.mp_base.specs.declared.kinds.TextKind.TheVariants as t
use Rattle.mp_tokens.specs.Tokens as lex
use Rattle.mp_tokens.specs.Tokens.{Tok, BadByte, LongName, OpenComment, OpenText, tokens}
use Rattle.mp_tokens.specs.Literals.{far_literal}
use Rattle.mp_statements.specs.Statements.{Statement}
use Rattle.mp_statements.specs.Parts.{items_of}
use Rattle.mp_grammar.specs.Grammar.{file_read}
use Rattle.mp_grammar.proofs.Wrong.{wrong_number}
use Rattle.mp_declared.specs.Declared.{Fault, declared_fault}
use Rattle.mp_declared.specs.Declared as declared
use Rattle.mp_solutions.specs.Transformed.{transformed}
use Rattle.mp_local.specs.Local.{local_given}
use Rattle.mp_shift.specs.Faults.{name_fault}
use Rattle.mp_semantics.specs.Model.{Model}
use Rattle.mp_values.specs.Table.{Table}
use Rattle.mp_values.specs.Limits.{Stuck, Unvalued, Refused, Folded}
use Rattle.mp_values.specs.Values.{values_given}
use Rattle.mp_values.specs.Exponents.{all_exponents}
use Rattle.mp_canonical.specs.Files.{canonical_text}
use Rattle.mp_derivatives.specs.Records.{Derivation, records_text}
use Rattle.mp_derivatives.specs.Derived.{derived}
use Rattle.mp_transform.specs.declared.output.Output.{Output}
use Rattle.mp_transform.specs.declared.output.Output.TheVariants as out
use Rattle.mp_decl.specs.Given.{stuck_told, unless_fault, unless_far, unless_stuck, values_told, declared_given}
use Rattle.mp_transform.specs.Steps.{Step, and_then, Refuses}
use Rattle.mp_transform.specs.Text.{token_step, wrong_token, file_step, model_step, limited, name_step, named_step, sourced, tested, tokens_give, limit_step, output_of, output_gives}
use Rattle.mp_transform.specs.Wrong.{ShowsWrongToken, IfWrongToken}

-- it refuses no tokens and no grammar
abbrev IsLater : Refusal → Type 0
IsLater (o.Text kind at token) = ⊥
IsLater _ = Unit {0}

abbrev Later : {X : Type 0} → Step X → Type 0
Later (Ok x) = Unit {0}
Later (Err outcome) = IsLater outcome

stuck_later : (end : ℕ) (s : Stuck) → IsLater (stuck_told end s)
stuck_later end (Unvalued name) = tt
stuck_later end (Refused kind at first second) = tt

fault_later : {A : Type 0} (x : Option Fault) (rest : Step A) → Later rest → Later (unless_fault x rest)
fault_later None rest h = h
fault_later (Some x) rest h = tt

far_later : {A : Type 0} (x : Option ℕ) (rest : Step A) → Later rest → Later (unless_far x rest)
far_later None rest h = h
far_later (Some at) rest h = tt

after_stuck : {A B : Type 0} (end : ℕ) (u : Folded A) (next : A → Step B) → ((x : A) → Later (next x)) → Later (unless_stuck end u next)
after_stuck end (Ok x) next h = h x
after_stuck end (Err s) next h = stuck_later end s

and_later : {X Y : Type 0} (r : Step X) (next : X → Step Y) → Later r → ((x : X) → Later (next x)) → Later (and_then r next)
and_later (Ok x) next h k = k x
and_later (Err outcome) next h k = h

model_later : (end : ℕ) (r : Folded Model) → Later (model_step end r)
model_later end (Ok M) = tt
model_later end (Err s) = stuck_later end s

name_later : (x : Option declared.Fault) → Later (name_step x)
name_later None = tt
name_later (Some x) = tt

named_later : (file : List Statement) (M : Model) → Later (named_step file M)
named_later file M = and_later (name_step (name_fault file M)) (λ _. Ok M) (name_later (name_fault file M)) (λ _. tt)

declared_later : (end : ℕ) (ts : List Tok) (file : List Statement) → Later (declared_given end ts file)
declared_later end ts file =
    let powers : Table → Step Table = λ t. unless_stuck end (all_exponents t (items_of file)) (λ _. Ok t) in
    fault_later (declared_fault end file) (unless_far (far_literal ts) (values_told end file)) (far_later (far_literal ts) (values_told end file) (after_stuck end (values_given file) powers (λ t. by t (all_exponents t (items_of file)))))
  where
    by : (t : Table) (u : Folded (List ℤ)) → Later (let r : Step Table = unless_stuck end u (λ _. Ok t) in r)
    by t (Ok x) = tt
    by t (Err s) = stuck_later end s

tested_later : (end : ℕ) (ts : List Tok) (file : List Statement) → Later (tested end ts file)
tested_later end ts file =
    and_later (sourced end ts file) (named_step file) (and_later (declared_given end ts file) (λ _. limited end file) (declared_later end ts file) (λ _. model_later end (local_given file))) (named_later file)

-- this outcome is a refusal of a token
abbrev IsToken : Refusal → Type 0
IsToken (o.Text t.Token at token) = Unit {0}
IsToken _ = ⊥

err_is : {X : Type 0} (x y : Refusal) → (let u : Step X = Err x in u ≡ Err y) → x ≡ y
err_is x y e = cc

-- no refusal of the tokens is
lexed_never : (fault : lex.Fault) (outcome : Refusal) → token_step (Err fault) ≡ Err outcome → IsToken outcome → ⊥
lexed_never (BadByte at) outcome e is = subst (λ (x : Refusal). IsToken x → ⊥) (err_is _ outcome e) (λ h. h) is
lexed_never (LongName at) outcome e is = subst (λ (x : Refusal). IsToken x → ⊥) (err_is _ outcome e) (λ h. h) is
lexed_never (OpenComment at) outcome e is = subst (λ (x : Refusal). IsToken x → ⊥) (err_is _ outcome e) (λ h. h) is
lexed_never (OpenText at) outcome e is = subst (λ (x : Refusal). IsToken x → ⊥) (err_is _ outcome e) (λ h. h) is

-- nor is a later one
later_never : {X : Type 0} (r : Step X) (outcome : Refusal) → Later r → r ≡ Err outcome → IsToken outcome → ⊥
later_never (Ok x) outcome h e is = absurd cc
later_never (Err (o.Text kind at token)) outcome h e is = h
later_never (Err y) outcome h e is = never y h (subst IsToken (sym (err_is y outcome e)) is)
  where
    never : (y : Refusal) → IsLater y → IsToken y → ⊥
    never (o.Text t.Token at token) h is = h
    never _ h is = is

-- where the reading stops
stops_at : (text : List ℕ) (ts left : List Tok) (outcome : Refusal) → tokens text ≡ Ok ts → file_read ts ≡ Err left → outcome ≡ wrong_token (length text) left → ShowsWrongToken text outcome
stops_at text ts left outcome lexed e told =
    let w = wrong_number ts left e in
    let back : w.0 ≡ suc w.0 - 1 = omega arith in
    record { ts = ts; index = suc w.0; lexed = lexed; first = w.3; told = told ∙ ap (wrong_token (length text)) (w.2 ∙ ap (λ n. drop n ts) back) }

refused : (fault : lex.Fault) (ts : List Tok) → token_step (Err fault) ≡ Ok ts → ⊥
refused (BadByte at) ts e = cc
refused (LongName at) ts e = cc
refused (OpenComment at) ts e = cc
refused (OpenText at) ts e = cc

limit_later : (r : Result (List Derivation) ℕ) → Later (limit_step r)
limit_later (Ok ds) = tt
limit_later (Err count) = tt

output_later : (output : Output) (M : Model) → Later (output_of output M)
output_later out.Model M = and_later (limit_step (derived M)) (λ ds. Ok (canonical_text M)) (limit_later (derived M)) (λ ds. tt)
output_later out.Derivatives M = and_later (limit_step (derived M)) (λ ds. Ok (records_text ds)) (limit_later (derived M)) (λ ds. tt)

shows_wrong : (output : Output) (text : List ℕ) (outcome : Refusal) → output_gives output text ≡ Err outcome → IsToken outcome → ShowsWrongToken text outcome
shows_wrong output text outcome e is = by_tokens (tokens text) refl e
  where
    by_file : (ts : List Tok) → tokens text ≡ Ok ts → (r : Result (List Statement) (List Tok)) → file_read ts ≡ r → and_then (and_then (file_step (length text) r) (tested (length text) ts)) (λ M. output_of output (transformed M)) ≡ Err outcome → ShowsWrongToken text outcome
    by_file ts lexed (Ok file) read e = absurd (later_never (and_then (tested (length text) ts file) (λ M. output_of output (transformed M))) outcome (and_later (tested (length text) ts file) (λ M. output_of output (transformed M)) (tested_later (length text) ts file) (λ M. output_later output (transformed M))) e is)
    by_file ts lexed (Err left) read e = stops_at text ts left outcome lexed read (sym (err_is _ outcome e))

    -- a refusal of the tokens goes through
    stays : (fault : lex.Fault) (r : Step (List Tok)) → token_step (Err fault) ≡ r → and_then (and_then r (tokens_give (length text))) (λ M. output_of output (transformed M)) ≡ Err outcome → token_step (Err fault) ≡ Err outcome
    stays fault (Ok ts) same e = absurd (refused fault ts same)
    stays fault (Err y) same e = same ∙ ap Err (err_is y outcome e)

    by_tokens : (r : Result (List Tok) lex.Fault) → tokens text ≡ r → and_then (and_then (token_step r) (tokens_give (length text))) (λ M. output_of output (transformed M)) ≡ Err outcome → ShowsWrongToken text outcome
    by_tokens (Ok ts) lexed e = by_file ts lexed (file_read ts) refl e
    by_tokens (Err fault) lexed e = absurd (lexed_never fault outcome (stays fault (token_step (Err fault)) refl e) is)

-- a refusal of a token tells the first wrong one
pub wrong_shown : (output : Output) (text : List ℕ) (outcome : Refusal) → output_gives output text ≡ Err outcome → IfWrongToken text outcome
wrong_shown output text (o.Text t.Token at token) e = shows_wrong output text (o.Text t.Token at token) e tt
wrong_shown output text _ e = tt

-- the same of a step of the code that refuses what the definition does
pub refused_shown : (output : Output) (text : List ℕ) (outcome : Refusal) → Refuses (output_gives output text) outcome → IfWrongToken text outcome
refused_shown output text (o.Text t.Token at token) e = wrong_shown output text (o.Text t.Token at token) e
refused_shown output text _ e = tt

-- and so of its result
pub result_shown : {X : Type 0} (output : Output) (r : Result X Refusal) (text : List ℕ) (outcome : Refusal) → IsErrAnd r (λ e. e ≡ outcome) → Refuses (output_gives output text) outcome → MatchResult r (λ x. Unit {0}) (IfWrongToken text)
result_shown output (Ok x) text outcome same e = tt
result_shown output (Err y) text outcome same e =
    subst (IfWrongToken text) (sym same) (refused_shown output text outcome e)
