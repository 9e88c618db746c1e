use Rattle.std.proofs.Common.{ℕ, List, subst, sym}
use Rattle.mp_pairing.specs.Pairing.{IsWithin}
use Rattle.mp_match.specs.declared.pairing.Matched.{Matched}
use Rattle.mp_match.specs.Matched.{IsMatched}
use Rattle.mp_blocks.proofs.Paired.{pairs_fit, members_fit, variables_fit}
use Rattle.mp_blocks.proofs.blocks.match_all.Goals as goal

pub match_all-requires-clause-within : goal.match_all-requires-clause-within
match_all-requires-clause-within c = subst (λ (rows : List (List ℕ)). IsWithin rows) (sym c.deref.ensures.value) c.in_ok-rows.ensures.within

pub counted-requires : goal.counted-requires
counted-requires c =
    let rows = c.in_ok-rows.rows.items in
    let matched = subst (λ (r : List (List ℕ)). IsMatched r c.in_ok-variables.field-0) c.deref.ensures.value c.in_ok-variables.ensures in
    pairs_fit rows c.in-Pairs.variables c.in_ok-rows.ensures.small c.in_ok-rows.ensures.within (subst (λ (m : Matched). IsMatched rows m) c.in-Pairs.is matched)

pub counted-requires-in-Short : goal.counted-requires-in-Short
counted-requires-in-Short c =
    let rows = c.in_ok-rows.rows.items in
    let matched = subst (λ (r : List (List ℕ)). IsMatched r c.in_ok-variables.field-0) c.deref.ensures.value c.in_ok-variables.ensures in
    members_fit rows c.in-Short.equations c.in-Short.variables c.in_ok-rows.ensures.small (subst (λ (m : Matched). IsMatched rows m) c.in-Short.is matched)

pub counted-requires-in-Short-2 : goal.counted-requires-in-Short-2
counted-requires-in-Short-2 c =
    let rows = c.in_ok-rows.rows.items in
    let matched = subst (λ (r : List (List ℕ)). IsMatched r c.in_ok-variables.field-0) c.deref.ensures.value c.in_ok-variables.ensures in
    variables_fit rows c.in-Short.equations c.in-Short.variables c.in_ok-rows.ensures.small c.in_ok-rows.ensures.within (subst (λ (m : Matched). IsMatched rows m) c.in-Short.is matched)
