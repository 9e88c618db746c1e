use Rattle.std.proofs.Common.{ℕ, List, length, subst, sym}
use Rattle.mp_pairing.specs.Pairing.{IsWithin, IsMatching}
use Rattle.mp_pairing.specs.Blocks.{IsOrder}
use Rattle.mp_model_data.specs.Shown.{source_data}
use Rattle.mp_blocks.proofs.Paired.{matching_of, blocks_fit}
use Rattle.mp_blocks.proofs.blocks.order.Goals as goal

pub order-requires-clause-within : goal.order-requires-clause-within
order-requires-clause-within c = subst (λ (rows : List (List ℕ)). IsWithin rows) (sym c.deref.ensures.value) c.in_ok-rows.ensures.within

pub order-requires-clause-matching : goal.order-requires-clause-matching
order-requires-clause-matching c =
    let rows = c.in_ok-rows.rows.items in
    let places = c.in_ok-places.places in
    subst (λ (r : List (List ℕ)). IsMatching r (length r) places) (sym c.deref.ensures.value)
    (matching_of (source_data c.args.model.now) rows c.args.variables.now places c.in_ok-rows.ensures.rows c.requires.least c.in_ok-places.ensures)

pub all_counted-requires : goal.all_counted-requires
all_counted-requires c =
    let rows = c.in_ok-rows.rows.items in
    let places = c.in_ok-places.places in
    blocks_fit rows places c.in_ok-blocks.blocks c.in_ok-rows.ensures.small (subst (λ (r : List (List ℕ)). IsOrder r places c.in_ok-blocks.blocks) c.deref.ensures.value c.in_ok-blocks.ensures.order)
