use Rattle.std.proofs.Common.{◌∙◌, sym, ap, drop, length}
use Rattle.mp_literal.proofs.Cuts.{Cut, fraction-cut, exponent-cut}
use Rattle.mp_literal.proofs.parts.parts_of.Goals as goal

pub returns-clause-fraction : goal.returns-clause-fraction
returns-clause-fraction c =
    let literal = c.args.literal.now in
    let cut : Cut literal c.split_at.result.1.now (length c.split_at.result.0.now) c.fraction_length.result = record {
      whole = c.split_at.ensures.front_len ∙ c.digits_length.ensures.value;
      after = c.split_at.ensures.back ∙ ap (λ n. drop n literal) (sym c.split_at.ensures.front_len);
      point = c.fraction_length.ensures.value;
    } in
    c.past_first.ensures ∙ ap (drop 1) c.split_at-2.ensures.front ∙ fraction-cut _ _ _ _ cut

pub returns-clause-exponent : goal.returns-clause-exponent
returns-clause-exponent c =
    let literal = c.args.literal.now in
    let cut : Cut literal c.split_at.result.1.now (length c.split_at.result.0.now) c.fraction_length.result = record {
      whole = c.split_at.ensures.front_len ∙ c.digits_length.ensures.value;
      after = c.split_at.ensures.back ∙ ap (λ n. drop n literal) (sym c.split_at.ensures.front_len);
      point = c.fraction_length.ensures.value;
    } in
    c.past_first-2.ensures ∙ ap (drop 1) c.split_at-2.ensures.back ∙ exponent-cut _ _ _ _ cut
