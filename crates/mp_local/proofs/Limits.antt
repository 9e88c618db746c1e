-- What a model that the limits let through has.
use Rattle.std.proofs.Common.{◌≡◌, ℕ, pos, ◌≤◌, ◌^◌, min, nat_le, Bool, true, false, cond, Option, Some, None, option_map, Ok, Err, List, refl, subst, ap, ◌∙◌, arith}
use Rattle.std.proofs.lemmas.Bool.Decides.{nat_tests}
use Rattle.mp_base.specs.declared.kinds.DataKind.{DataKind}
use Rattle.mp_base.specs.declared.kinds.DataKind.TheVariants as d
use Rattle.mp_rational.specs.Fraction.{whole}
use Rattle.mp_statements.specs.Statements.{Statement}
use Rattle.mp_statements.specs.Parts.{items_of}
use Rattle.mp_declared.specs.Many.{name_beyond}
use Rattle.mp_semantics.specs.Model as m
use Rattle.mp_values.specs.Names.{names_of, is_variable}
use Rattle.mp_values.specs.Limits.{Stuck, Refused, Folded, ◌>>=◌}
use Rattle.mp_values.specs.ModelOf.{model_given}
use Rattle.mp_values.specs.Shifts.{far_name, no_locals}
use Rattle.mp_local.specs.Local.{tested, many_refused, names_refusal, shift_refused, shifts_refusal, over_limit, height_refusal, size_refusal, sized, local_given}
use Rattle.mp_local.specs.Sizes.{greatest_height, operations}

-- what goes on after a test
passed : {A : Type 0} (refusal : Option Stuck) (rest : Folded A) (y : A) → (tested refusal >>= λ _. rest) ≡ Ok y → (refusal ≡ None) × (rest ≡ Ok y)
passed None rest y is = (refl, is)
passed (Some e) rest y is = absurd cc

went : {A B : Type 0} (r : Folded A) (next : A → Folded B) (y : B) → (r >>= next) ≡ Ok y → (x : A) × (r ≡ Ok x) × (next x ≡ Ok y)
went (Ok x) next y is = (x, refl, is)
went (Err e) next y is = absurd cc

nothing : {A B : Type 0} (f : A → B) (o : Option A) → option_map f o ≡ None → o ≡ None
nothing f None is = refl
nothing f (Some x) is = absurd cc

cond-none : (b : Bool) (e : Stuck) → cond b None (Some e) ≡ None → b ≡ true
cond-none true e is = refl
cond-none false e is = absurd cc

below : (kind : DataKind) (number limit : ℕ) → over_limit kind number limit ≡ None → number ≤ limit
below kind number limit is =
    let low : nat_le number limit ≡ true = cond-none (nat_le number limit) (Refused kind 0 (whole (pos number)) (whole (pos limit))) is in
    grind (arith, nat_tests)

pub record IsLocal (file : List Statement) (M : m.Model) : Type 0 where
  pub names : name_beyond file ≡ None
  pub shifts : far_name 24 (no_locals (is_variable (names_of file))) (items_of file) ≡ None
  pub given : model_given file ≡ Ok M
  pub height : greatest_height M ≤ 500
  pub size : operations M ≤ 200000

pub limits : (file : List Statement) (M : m.Model) → local_given file ≡ Ok M → IsLocal file M
limits file M is =
    let a = passed (names_refusal file) (tested (shifts_refusal (λ x. x) file) >>= λ _. model_given file >>= λ N. sized N) M is in
    let b = passed (shifts_refusal (λ x. x) file) (model_given file >>= λ N. sized N) M a.1 in
    let c = went (model_given file) (λ N. sized N) M b.1 in
    let N = c.0 in
    let h = passed (height_refusal N) (tested (size_refusal N) >>= λ _. Ok N) M c.2 in
    let z = passed (size_refusal N) (Ok N) M h.1 in
    let same : N ≡ M = let e : Ok N ≡ Ok M = z.1 in cc in
    let high : greatest_height N ≤ 500 = below d.TooDeep (greatest_height N) 500 h.0 in
    let stopped : min (operations N) (10 ^ 37) ≤ 200000 = below d.TooLarge (min (operations N) (10 ^ 37)) 200000 z.0 in
    let large : operations N ≤ 200000 = omega (arith, stopped) in
    record {
      names = nothing (many_refused file) (name_beyond file) a.0;
      shifts = nothing (λ x. shift_refused x) (far_name 24 (no_locals (is_variable (names_of file))) (items_of file)) b.0;
      given = c.1 ∙ ap Ok same;
      height = subst (λ (L : m.Model). greatest_height L ≤ 500) same high;
      size = subst (λ (L : m.Model). operations L ≤ 200000) same large;
    }
