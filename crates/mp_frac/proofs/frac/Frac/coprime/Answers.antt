use Rattle.std.proofs.Common.{ℕ, ◌≤◌, ap, sym, ◌∙◌, subst, inl, inr, Ok}
use Rattle.std.specs.Int.{IsGcd}
use Rattle.std.specs.Int.RustNames.{unsigned_abs}
use Rattle.mp_integer.proofs.Signs.{unsigned_abs-signed}
use Rattle.mp_frac.specs.Limit.{limit}
use Rattle.mp_frac.proofs.Values.{value_by}
use Rattle.mp_frac.proofs.Outcomes.{reduced-within, reduced-past}
use Rattle.mp_frac.proofs.frac.Frac.coprime.Goals as goal
use Rattle.mp_frac.proofs.frac.Frac.coprime.Goals.{then-top-gt-LIMIT-via-then-top-gt-LIMIT, then-top-gt-LIMIT-via-else-top-gt-LIMIT+then-bottom-gt-LIMIT}

pub returns-then-top-gt-LIMIT : goal.returns-then-top-gt-LIMIT
returns-then-top-gt-LIMIT c =
    elim c.then-top-gt-LIMIT.branch [
      | then-top-gt-LIMIT-via-then-top-gt-LIMIT w ↦
          sym (reduced-past c.args.negative c.args.top c.args.bottom c.requires.positive c.requires.coprime (inl w.if-top-gt-LIMIT.true))
      | then-top-gt-LIMIT-via-else-top-gt-LIMIT+then-bottom-gt-LIMIT w ↦
          sym (reduced-past c.args.negative c.args.top c.args.bottom c.requires.positive c.requires.coprime (inr w.if-bottom-gt-LIMIT.true))
    ]

pub from_parts-requires-clause-num_small : goal.from_parts-requires-clause-num_small
from_parts-requires-clause-num_small c =
    subst (λ (n : ℕ). n ≤ limit) (sym (ap unsigned_abs c.signed.ensures ∙ unsigned_abs-signed c.args.negative c.args.top)) c.if-top-gt-LIMIT.false

pub from_parts-requires-clause-coprime : goal.from_parts-requires-clause-coprime
from_parts-requires-clause-coprime c =
    subst (λ (n : ℕ). IsGcd n c.args.bottom 1) (sym (ap unsigned_abs c.signed.ensures ∙ unsigned_abs-signed c.args.negative c.args.top)) c.requires.coprime

pub returns : goal.returns
returns c =
    ap Ok (value_by c.from_parts.result (c.from_parts.ensures.num ∙ c.signed.ensures) c.from_parts.ensures.den)
    ∙ sym (reduced-within c.args.negative c.args.top c.args.bottom c.requires.positive c.requires.coprime c.if-top-gt-LIMIT.false c.if-bottom-gt-LIMIT.false)
