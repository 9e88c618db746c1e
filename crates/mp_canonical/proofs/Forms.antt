-- The file of a model is one that a text may write.
use Rattle.std.proofs.Common.{ℕ, suc, ℤ, pos, negsuc, ◌≤◌, List, [], ◌∷◌, ◌++◌, map, Bool, true, false, cond, ◌==◌, Option, Some, None, codes, refl, arith}
use Rattle.std.specs.List.{AllByRecursion}
use Rattle.mp_rational.specs.Fraction.{Fraction}
use Rattle.mp_rational.specs.Lowest.{numerator, denominator}
use Rattle.mp_syntax.specs.declared.operator.Operator.TheVariants as o
use Rattle.mp_syntax.specs.Syntax as expr
use Rattle.mp_statements.specs.declared.kind.NameKind.{NameKind}
use Rattle.mp_statements.specs.declared.kind.NameKind.TheVariants as kind
use Rattle.mp_semantics.specs.Term.{Term}
use Rattle.mp_semantics.specs.Model as m
use Rattle.mp_format.specs.Pieces.{IsName}
use Rattle.mp_tokens.specs.Terminals.{word_of}
use Rattle.mp_format.specs.Spelling.{FitsAll, FitsOpt}
use Rattle.mp_expressions.specs.InForm.{Deep, InForm}
use Rattle.mp_grammar.specs.Tags.{IsTag}
use Rattle.mp_grammar.specs.Statements.{IsExpression, IsNamed, IsItem, IsStatement, IsFile}
use Rattle.mp_values.specs.Names.{Names}
use Rattle.mp_canonical.specs.Numbers.{decimal_digits}
use Rattle.mp_canonical.specs.Terms.{unplaced, canonical_whole, canonical, canonical_value}
use Rattle.mp_canonical.specs.Printable.{model_names, IsTagName, IsPrintableSide, IsPrintableEquation, IsPrintable}
use Rattle.mp_canonical.specs.Files.{tags_part, names_part, value_part, equation_part, equations_part, canonical_file}
use Rattle.mp_canonical.proofs.Numbers.{text_is_literal}
use Rattle.mp_canonical.proofs.Levels.{Forms, within_height}
use Rattle.mp_canonical.proofs.TagNames.{quoted_text}
use Rattle.mp_canonical.proofs.Writable.{writable}

-- what a text of the grammar may write
unfoldable forms : Forms ⊥ (λ room. Deep (InForm room)) InForm
unfolding InForm
forms = record {
  number = λ room l is. is;
  variable = λ room n s is f. (is, f);
  paren = λ room e is. is;
  call = λ room g a b h k. (h, k);
  choice = λ z. absurd z;
  flat = λ e is. is;
  deeper = λ room e is. is;
}

pub canonical_form : (ns : Names) (room : ℕ) (t : Term) → IsPrintableSide room ns t → room ≤ 500 → IsExpression (canonical ns t)
canonical_form ns room t is low =
    within_height ⊥ (λ room. Deep (InForm room)) InForm forms ns t 500 (writable ⊥ ns t is.0) (omega (arith, is.1, low))

-- ---- statements

all_append : {X : Type 0} (P : X → Type 0) (xs ys : List X) → FitsAll P xs → FitsAll P ys → FitsAll P (xs ++ ys)
all_append P [] ys h g = g
all_append P (x ∷ xs) ys h g = (h.0, all_append P xs ys h.1 g)

all_map : {X Y : Type 0} (P : X → Type 0) (Q : Y → Type 0) (f : X → Y) → ((x : X) → P x → Q (f x)) → (xs : List X) → AllByRecursion P xs → FitsAll Q (map f xs)
all_map P Q f one [] h = tt
all_map P Q f one (x ∷ xs) h = (one x h.0, all_map P Q f one xs h.1)

names_form : (k : NameKind) (ns : List (List ℕ)) → AllByRecursion IsName ns → FitsAll IsStatement (names_part k ns)
names_form k [] is = tt
names_form k (n ∷ ns) is = ((omega arith, all_map IsName IsNamed unplaced (λ n h. h) (n ∷ ns) is), tt)

value_form : (x : Fraction) → IsExpression (canonical_value x)
unfolding InForm
value_form x = by (denominator x == 1) (numerator x)
  where
    by : (is_whole : Bool) (n : ℤ) → IsExpression (cond is_whole (canonical_whole n) (expr.Binary o.Over (canonical_whole n) 0 (expr.Number (decimal_digits (denominator x)) 0)))
    by true (pos n) = text_is_literal n 0
    by true (negsuc n) = text_is_literal (suc n) 0
    by false (pos n) = (text_is_literal n 0, text_is_literal (denominator x) 0)
    by false (negsuc n) = (text_is_literal (suc n) 0, text_is_literal (denominator x) 0)

values_form : (ps : List m.Parameter) → AllByRecursion IsName (map (λ (p : m.Parameter). p.name) ps) → FitsAll IsStatement (map value_part ps)
values_form [] is = tt
values_form (p ∷ ps) is = ((is.0, value_form p.value), values_form ps is.1)

-- `name` is no reserved word
is_name : IsName (codes "name")
unfolding word_of
is_name = ((refl, refl, omega arith), refl)

tags_form : (name : Option (List ℕ)) → FitsOpt IsTagName name → FitsAll IsTag (tags_part name)
tags_form None is = tt
tags_form (Some name) is = ((is_name, quoted_text name is), tt)

module _ (room : ℕ) (low : room ≤ 500) (ns : Names) where
  pub equation_form : (e : m.Equation) → IsPrintableEquation room ns e → IsItem (equation_part ns e)
  equation_form e is =
      (tags_form e.name is.tag_name, canonical_form ns room e.left is.left_side low, canonical_form ns room e.right is.right_side low)

  equations_form : (es : List m.Equation) → AllByRecursion (IsPrintableEquation room ns) es → FitsAll IsStatement (equations_part ns es)
  equations_form [] is = tt
  equations_form (e ∷ es) is = ((tt, all_map (IsPrintableEquation room ns) IsItem (equation_part ns) equation_form (e ∷ es) is), tt)

pub file_form : (room : ℕ) (M : m.Model) → IsPrintable room M → room ≤ 500 → IsFile (canonical_file M)
file_form room M is low =
    let ns = model_names M in
    all_append IsStatement _ _ (names_form kind.Endogenous M.endogenous_names is.endogenous) (all_append IsStatement _ _ (names_form kind.Exogenous M.exogenous_names is.exogenous) (all_append IsStatement _ _ (names_form kind.Parameter ns.parameters is.parameters) (all_append IsStatement _ _ (values_form M.parameters is.parameters) (equations_form room low ns M.equations is.equations))))
