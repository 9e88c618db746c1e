use Rattle.std.proofs.Common.{◌≡◌, ◌+◌, ◌*◌, length}
use Rattle.mp_mexpr.specs.declared.token.Mark.TheVariants as m
use Rattle.mp_mexpr.specs.Tokens.{toks}
use Rattle.mp_mexpr.specs.Shown.{after, all_stepped}
use Rattle.mp_mexpr.specs.Syntax.{Expr, Empty}
use Rattle.mp_mexpr.specs.Grammar.{past, operator_at, most, repeated, applied, indexed, extended, level_at, inside_at}
use Rattle.mp_mexpr.proofs.reader.+reader.Given as goal

abbrev pub decreases-inside_of : goal.decreases-inside_of
decreases-inside_of l = 1000 * l.room

abbrev pub decreases-more_elements : goal.decreases-more_elements
decreases-more_elements l = 1000 * l.room + 1

abbrev pub decreases-place_of : goal.decreases-place_of
decreases-place_of l = 1000 * l.room + 1

abbrev pub decreases-elements_of : goal.decreases-elements_of
decreases-elements_of l = 1000 * l.room + 2

abbrev pub decreases-array_of : goal.decreases-array_of
decreases-array_of l = 1000 * l.room + 3

abbrev pub decreases-paren_of : goal.decreases-paren_of
decreases-paren_of l = 1000 * l.room + 3

abbrev pub decreases-primary_of : goal.decreases-primary_of
decreases-primary_of l = 1000 * l.room + 4

abbrev pub decreases-places_of : goal.decreases-places_of
decreases-places_of l = 1000 * l.room + 4

abbrev pub decreases-add_places : goal.decreases-add_places
decreases-add_places l = 1000 * l.room + 3

abbrev pub decreases-index_of : goal.decreases-index_of
decreases-index_of l = 1000 * l.room + 5

abbrev pub decreases-unary_of : goal.decreases-unary_of
decreases-unary_of l = 1000 * l.room + 6

abbrev pub decreases-level_of : goal.decreases-level_of
decreases-level_of l = 1000 * l.room + 7 + 3 * l.level

abbrev pub decreases-chain_of : goal.decreases-chain_of
decreases-chain_of l = 1000 * l.room + 9 + 3 * l.level

abbrev pub decreases-add_operators : goal.decreases-add_operators
decreases-add_operators l = 1000 * l.room + 8 + 3 * l.level

abbrev pub invariant-more_elements-turns : goal.invariant-more_elements-turns
invariant-more_elements-turns l =
    let step = extended (inside_at l.room) in
    repeated l.left (past m.Comma) step (after Empty l.found) (toks l.rest) ≡ repeated (length (toks l.tokens)) (past m.Comma) step (after Empty l.initial.found) (toks l.tokens)

abbrev pub decreases-more_elements-turns : goal.decreases-more_elements-turns
decreases-more_elements-turns l = l.left

abbrev pub invariant-add_places-turns : goal.invariant-add_places-turns
invariant-add_places-turns l =
    let step = indexed (inside_at l.room) in
    (first : Expr) → repeated l.left (past m.OpenBracket) step (all_stepped first l.steps) (toks l.rest) ≡ repeated (length (toks l.tokens)) (past m.OpenBracket) step (all_stepped first l.fn.steps) (toks l.tokens)

abbrev pub decreases-add_places-turns : goal.decreases-add_places-turns
decreases-add_places-turns l = l.left

abbrev pub invariant-add_operators-turns : goal.invariant-add_operators-turns
invariant-add_operators-turns l =
    let step = applied (level_at (inside_at l.room) l.level) in
    (first : Expr) → repeated l.left (operator_at l.level) step (all_stepped first l.steps) (toks l.rest) ≡ repeated (most l.level (toks l.tokens)) (operator_at l.level) step (all_stepped first l.fn.steps) (toks l.tokens)

abbrev pub decreases-add_operators-turns : goal.decreases-add_operators-turns
decreases-add_operators-turns l = l.left
