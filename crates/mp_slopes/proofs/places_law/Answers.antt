use Rattle.mp_slopes.proofs.Places.{places_sorted, places_only, places_all, places_unique}
use Rattle.mp_slopes.proofs.places_law.Goals as goal

pub returns : goal.returns
returns c = record {
  rising = places_sorted;
  exact = λ t p. (places_only t p, places_all t p);
  only = λ t ps h e. places_unique t ps h (λ p. (e p).0) (λ p. (e p).1);
}
