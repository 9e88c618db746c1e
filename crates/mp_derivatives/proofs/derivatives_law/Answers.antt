use Rattle.mp_derivatives.proofs.Listing.{Slopes, lists}
use Rattle.mp_derivatives.proofs.derivatives_law.Goals as goal

pub returns : goal.returns
returns c =
    let slopes : Slopes = record {
      slope = c.derivative_law.ensures.slope;
      rising = c.places_law.ensures.rising;
      exact = c.places_law.ensures.exact;
    } in
    lists c.text_law.ensures slopes
