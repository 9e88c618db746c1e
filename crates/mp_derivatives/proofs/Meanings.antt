-- What an expression of a derivative means goes by its parts.
use Rattle.std.proofs.Common.{[], Ok, refl, ◌∙◌}
use Rattle.mp_semantics.specs.Term.{pick}
use Rattle.mp_values.specs.Names.{Names, named_term}
use Rattle.mp_values.specs.Limits.{◌>>=◌}
use Rattle.mp_canonical.proofs.Meanings.{IsMeaning}
use Rattle.mp_canonical.proofs.Places.{MeansAlikeChoices, next}
use Rattle.mp_canonical.proofs.Results.{then}
use Rattle.mp_canonical.proofs.Terms.{MeansChoices}
use Rattle.mp_derivatives.specs.Meant.{meant}

pub meant_by_parts : (ns : Names) → IsMeaning (named_term ns) [] (meant ns)
meant_by_parts ns = record {
  number = λ literal at. refl;
  variable = λ name shift. refl;
  signed = λ s a. refl;
  operation = λ o a at b. refl;
  power = λ a at s b. refl;
  paren = λ a. refl;
  call = λ f a b. refl;
  diff = λ at a. refl;
}

pub choices_meant : (ns : Names) → MeansChoices (Unit {0}) (meant ns)
choices_meant ns u x y z w a b c d h k l m =
    then (meant ns x) a (λ p. meant ns y >>= λ q. meant ns z >>= λ r. meant ns w >>= λ s. Ok (pick p q r s)) h
    ∙ then (meant ns y) b (λ q. meant ns z >>= λ r. meant ns w >>= λ s. Ok (pick a q r s)) k
    ∙ then (meant ns z) c (λ r. meant ns w >>= λ s. Ok (pick a b r s)) l
    ∙ then (meant ns w) d (λ s. Ok (pick a b c s)) m

-- wherever they stand
pub choices_alike : (ns : Names) → MeansAlikeChoices (meant ns)
choices_alike ns a b c d e f g h x y z w =
    next _ _ _ _ x (λ p. next _ _ _ _ y (λ q. next _ _ _ _ z (λ r. next _ _ _ _ w (λ s. refl))))
