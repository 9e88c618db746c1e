use Rattle.mp_rational.proofs.Choices.{lesser_is_one, lesser_at_most, greater_is_one, greater_at_least, magnitude_within}
use Rattle.mp_rational.proofs.choice_laws.Goals as goal

pub returns : goal.returns
returns c =
    record {
      lesser_is_one = lesser_is_one;
      lesser_at_most = lesser_at_most;
      greater_is_one = greater_is_one;
      greater_at_least = greater_at_least;
      magnitude_within = magnitude_within;
    }
