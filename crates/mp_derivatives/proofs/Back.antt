-- The text of a term reads back as an expression that means this term.
use Rattle.std.proofs.Common.{◌≡◌, ℕ, ◌≤◌, List, [], length, Ok, Result, refl, sym, ap, ◌∙◌, subst, append-nil, arith}
use Rattle.mp_tokens.specs.Tokens.{Tok, Fault, tokens}
use Rattle.mp_syntax.specs.Syntax.{Expr}
use Rattle.mp_semantics.specs.Term.{Term}
use Rattle.mp_expr.specs.Size.{height_of}
use Rattle.mp_format.specs.Pieces.{Apart, text_of, placed}
use Rattle.mp_format.specs.Format.{Reads, told}
use Rattle.mp_format.specs.Spelling.{Fits, value, text, spaced}
use Rattle.mp_format.proofs.Laws.{unique}
use Rattle.mp_format.proofs.PieceLaws.{tokens-text_of}
use Rattle.mp_format.proofs.TextLaws.{ReadsBack, back}
use Rattle.mp_expressions.specs.Script.{bare, expr_pieces}
use Rattle.mp_expressions.specs.Productions.{expr}
use Rattle.mp_choices.proofs.InForm.{Chosen, InDerivative}
use Rattle.mp_values.specs.Limits.{answer}
use Rattle.mp_values.specs.Names.{Names, named_term}
use Rattle.mp_canonical.specs.Terms.{canonical}
use Rattle.mp_canonical.proofs.Levels.{within_height}
use Rattle.mp_canonical.proofs.Places.{meaning_bare}
use Rattle.mp_canonical.proofs.Results.{answer_is}
use Rattle.mp_canonical.proofs.Terms.{meaning_back}
use Rattle.mp_canonical.proofs.Texts.{text-spelled}
use Rattle.mp_canonical.proofs.Values.{Ratios}
use Rattle.mp_canonical.proofs.Writable.{IsWritable}
use Rattle.mp_derivatives.specs.Grammar.{derivative, ReadsDerivative}
use Rattle.mp_derivatives.specs.Meant.{meant, term_text, MeansTerm}
use Rattle.mp_derivatives.proofs.Heights.{placed-count, height-tokens}
use Rattle.mp_derivatives.proofs.Levels.{in_form, derivative_bares, choice_forms}
use Rattle.mp_derivatives.proofs.Meanings.{meant_by_parts, choices_meant, choices_alike}

same_tokens : (ts us : List Tok) → (let r : Result (List Tok) Fault = Ok ts in r ≡ Ok us) → ts ≡ us
same_tokens ts us e = cc

-- what is in form with so many "(" open
module _ (room : ℕ) (e : Expr) (is : InDerivative room e) where
  level_back : ReadsBack (expr (derivative room)) e
  unfolding spaced Fits
  level_back = back (expr (derivative room)) e refl (in_form room e is)

  level_tokens : tokens (text_of (expr_pieces e)) ≡ Ok (placed 0 (expr_pieces e))
  level_tokens =
      tokens-text_of (expr_pieces e) 0 (subst Apart (append-nil (expr_pieces e)) ((derivative room).laws.apart e [] (in_form room e is) tt (λ r q. refl)))

  -- where it has so many tokens
  level_reads : length (placed 0 (expr_pieces e)) ≡ room → ReadsDerivative level_back.0 level_back.1
  unfolding text
  level_reads same =
      let placed_so = same_tokens level_back.0 (placed 0 (expr_pieces e)) (sym level_back.2 ∙ level_tokens) in
      subst (λ (n : ℕ). Reads (expr (derivative n)) level_back.0 level_back.1 []) (sym (ap length placed_so ∙ same)) level_back.3

  -- it means what the expression means that reads back
  level_means : (ns : Names) (t : Term) → meant ns e ≡ Ok t → meant ns level_back.1 ≡ Ok t
  unfolding value
  level_means ns t means =
      let bares = meaning_bare (named_term ns) [] (meant ns) (meant_by_parts ns) (choices_alike ns) in
      answer_is (meant ns level_back.1) t (sym (bares level_back.1) ∙ ap (λ x. answer (meant ns x)) (sym (derivative_bares room (bare e) level_back.1 level_back.4)) ∙ bares (bare e) ∙ bares e ∙ ap answer means)

only_one : (ts : List Tok) (e other : Expr) → ReadsDerivative ts e → ReadsDerivative ts other → other ≡ e
unfolding told
only_one ts e other reads again = unique (expr (derivative (length ts))) ts other e refl again reads

pub text_means : Ratios → (ns : Names) (t : Term) → IsWritable (Unit {0}) ns t → MeansTerm ns (term_text ns t) t
unfolding text
text_means laws ns t is =
    let e = canonical ns t in
    let room = length (placed 0 (expr_pieces e)) in
    let low : height_of t ≤ room = omega (arith, height-tokens ns t, placed-count 0 (expr_pieces e)) in
    let form = within_height (Unit {0}) (λ room. Chosen (InDerivative room)) InDerivative choice_forms ns t room is low in
    let b = level_back room e form in
    let reads = level_reads room e form refl in
    record {
      ts = b.0;
      e = b.1;
      lexed = ap tokens (sym (text-spelled e)) ∙ b.2;
      reads = reads;
      only = λ other again. only_one b.0 b.1 other reads again;
      means = level_means room e form ns t (meaning_back laws ns [] (meant ns) (meant_by_parts ns) (Unit {0}) (choices_meant ns) t is);
    }
