-- The reading functions and the grammar say the same.
use Rattle.std.proofs.Common.{◌≡◌, ℕ, List, [], ◌∷◌, length, Bool, true, false, if◌then◌else◌, Option, Some, None, Result, Ok, Err, refl, sym, ap, ◌∙◌, subst, arith}
use Rattle.mp_base.specs.Answers.{Gives}
use Rattle.mp_base.specs.declared.kinds.MacroKind.TheVariants.{NestDeep, BadExpression}
use Rattle.mp_mvalue.specs.declared.fault.MacroFault.{MacroFault}
use Rattle.mp_mvalue.specs.declared.fault.MacroFault.TheVariants as f
use Rattle.mp_mvalue.specs.declared.sharing.SharedValue.{SharedValue}
use Rattle.mp_mvalue.specs.Environments.{Names}
use Rattle.mp_mvalue.specs.Made.{Valued}
use Rattle.mp_mvalue.specs.Shared.{unshared}
use Rattle.mp_mvalue.specs.Told.{told}
use Rattle.mp_mexpr.specs.Grammar.{whole, is_empty, expr_at, expression_of, value_or_bad, value_by, meaning}
use Rattle.mp_mexpr.specs.Readings as g
use Rattle.mp_mexpr.specs.Readings.{OrReads, Reads, Means, GivesMeant}
use Rattle.mp_mexpr.specs.Syntax.{Expr}
use Rattle.mp_mexpr.specs.Tokens.{Tok, is_deep, tokens}
use Rattle.mp_mexpr.proofs.Depth.{Fits-length, Fits-deep}
use Rattle.mp_mexpr.proofs.Derived.{or_read}
use Rattle.mp_mexpr.proofs.Found.{or_found}

is_empty-nil : (ts : List Tok) → is_empty ts ≡ true → ts ≡ []
is_empty-nil [] e = refl
is_empty-nil (t ∷ ts) e = cc

pub expression_found : (ts : List Tok) (e : Expr) → expression_of ts ≡ Some e → Reads ts e
expression_found ts e h = by_read (expr_at ts) refl h
  where
    by_end : (r : Expr × List Tok) (b : Bool) → is_empty r.1 ≡ b → OrReads ts r.0 r.1 → (if b then Some r.0 else None) ≡ Some e → OrReads ts e []
    by_end r true empty read h =
        let same : r.0 ≡ e = cc in
        let nil : r.1 ≡ [] = is_empty-nil r.1 empty in
        subst (λ x. OrReads ts x []) same (subst (OrReads ts r.0) nil read)
    by_end r false empty read h = cc

    by_read : (r : Option (Expr × List Tok)) → expr_at ts ≡ r → whole r ≡ Some e → OrReads ts e []
    by_read None is h = cc
    by_read (Some r) is h = by_end r (is_empty r.1) refl (or_found 100 ts r is) h

pub expression_only : (ts : List Tok) (e : Expr) → is_deep ts ≡ false → Reads ts e → expression_of ts ≡ Some e
expression_only ts e shallow reads = ap whole (or_read ts e 100 (Fits-deep ts 0 0 100 refl shallow) reads)

pub expression_one : (ts : List Tok) (e f : Expr) → Reads ts e → Reads ts f → e ≡ f
expression_one ts e f a b =
    let fits = Fits-length ts (length ts) (omega arith) in
    let pair : Expr → Option (Expr × List Tok) = λ x. Some (x, []) in
    let same : pair e ≡ pair f = sym (or_read ts e (length ts) fits a) ∙ or_read ts f (length ts) fits b in
    let whole_same : whole (pair e) ≡ whole (pair f) = ap whole same in
    cc

pub means_value : (names : Names) (r : List Tok × Bool) → Means names r (value_by names r)
means_value names r = by_deep (is_deep r.0) refl r.1 refl
  where
    by_expression : (x : Option Expr) → expression_of r.0 ≡ x → is_deep r.0 ≡ false → Means names (r.0, true) (value_or_bad names x)
    by_expression (Some e) is shallow = g.Means.read r.0 e shallow (expression_found r.0 e is)
    by_expression None is shallow =
        g.Means.unread r.0 shallow (λ e reads. let other = sym is ∙ expression_only r.0 e shallow reads in cc)

    by_whole : (w : Bool) → r.1 ≡ w → is_deep r.0 ≡ false → Means names (r.0, w) (if w then value_or_bad names (expression_of r.0) else Err BadExpression)
    by_whole true is shallow = by_expression (expression_of r.0) refl shallow
    by_whole false is shallow = g.Means.cut r.0 shallow

    by_deep : (d : Bool) → is_deep r.0 ≡ d → (w : Bool) → r.1 ≡ w → Means names (r.0, w) (if d then Err NestDeep else if w then value_or_bad names (expression_of r.0) else Err BadExpression)
    by_deep true is w same = g.Means.deep r.0 w is
    by_deep false is w same = by_whole w same is

pub means_one : (names : Names) (r : List Tok × Bool) (value : Valued) → Means names r value → value ≡ value_by names r
means_one names _ _ (g.Means.deep ts w is) =
    ap (λ (d : Bool). if d then Err NestDeep else if w then value_or_bad names (expression_of ts) else Err BadExpression) (sym is)
means_one names _ _ (g.Means.cut ts is) = ap (λ (d : Bool). if d then Err NestDeep else Err BadExpression) (sym is)
means_one names _ _ (g.Means.unread ts is none) =
    ap (value_or_bad names) (sym (unread (expression_of ts) refl))
    ∙ ap (λ (d : Bool). if d then Err NestDeep else value_or_bad names (expression_of ts)) (sym is)
  where
    unread : (x : Option Expr) → expression_of ts ≡ x → expression_of ts ≡ None
    unread None same = same
    unread (Some e) same = absurd (none e (expression_found ts e same))
means_one names _ _ (g.Means.read ts e is reads) =
    ap (value_or_bad names) (sym (expression_only ts e is reads))
    ∙ ap (λ (d : Bool). if d then Err NestDeep else value_or_bad names (expression_of ts)) (sym is)

pub gives_meant : (names : Names) (text : List ℕ) (result : Result SharedValue MacroFault) → Gives unshared told result (meaning names text) → GivesMeant names text result
gives_meant names text (Ok value) same = subst (Means names (tokens text)) same (means_value names (tokens text))
gives_meant names text (Err (f.Refused kind)) same = subst (Means names (tokens text)) same (means_value names (tokens text))
gives_meant names text (Err f.NoMemory) same = tt
