use Rattle.std.proofs.Common.{rules, ap, ap₂, ◌≡◌, ◌∙◌, codes, true, Option, Some, None}
use Rattle.std.specs.Prelude.{IsSomeAnd}
use Rattle.std.proofs.lemmas.Result.{IfOk-weaker}
use Rattle.clap.specs.Words.{Rule, app_of, rule_of, with_rule, new_rule}
use Rattle.clap.specs.Simple.{app_of_fields, on_top}
use Rattle.mp_words.specs.Command.{bare_app, needed, any_number}
use Rattle.mp_words.proofs.command.command.Goals as goal

some-is : {T : Type 0} (o : Option T) (x : T) → IsSomeAnd o (λ y. y ≡ x) → o ≡ Some x
some-is (Some y) x h = ap Some h
some-is None x h = elim h [ ]

pub returns : goal.returns
returns c =
    let job_is : rule_of c.required-job.result ≡ needed (codes "job") = search rules in
    let file_is : rule_of c.required-file.result ≡ needed (codes "file") = search rules in
    let new_is : rule_of c.new-3.result ≡ new_rule (codes "defines") = search rules in
    let many = c.num_args-defines.ensures in
    let defines_is : rule_of c.num_args-defines.result ≡ any_number (codes "defines") =
    ap rule_of many.0 ∙ ap₂ (λ (r : Rule) range. record r { range = range }) new_is (some-is _ _ many.1) in
    let bare_is : app_of c.disable_help_flag-bare.result ≡ bare_app =
    ap app_of_fields c.disable_help_flag-bare.ensures ∙ ap (λ f. app_of_fields (record f { disable_help_flag = true })) c.no_binary_name.ensures ∙ ap (on_top (λ s. record s { no_binary_name = true; disable_help_flag = true })) c.new-4.ensures.app in
    let one_is : app_of c.in_ok-arg.field-0 ≡ with_rule bare_app (needed (codes "job")) =
    c.in_ok-arg.ensures.shape (search rules) ∙ ap₂ with_rule bare_is job_is in
    let two_is : app_of c.in_ok-arg-2.field-0 ≡ with_rule (with_rule bare_app (needed (codes "job"))) (needed (codes "file")) =
    c.in_ok-arg-2.ensures.shape (search rules) ∙ ap₂ with_rule one_is file_is in
    IfOk-weaker c.arg-3.result _ _ (λ r h. h.shape (search rules) ∙ ap₂ with_rule two_is defines_is) c.arg-3.ensures
