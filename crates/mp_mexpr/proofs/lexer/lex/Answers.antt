use Rattle.std.proofs.Common.{◌-◌, ◌∷◌, [], ◌++◌, take, drop, length, sym, ap, ◌∙◌, arith}
use Rattle.std.proofs.lemmas.List.{take_all, length-drop, map_push}
use Rattle.mp_mexpr.specs.Tokens.{tok_of, toks, before, tokens_from}
use Rattle.mp_mexpr.proofs.Lexing.{turn-blank, turn-none, turn-token, turn-end}
use Rattle.mp_mexpr.proofs.lexer.lex.Goals as goal

pub turns-preserved-then-is_blank : goal.turns-preserved-then-is_blank
turns-preserved-then-is_blank c =
    turn-blank (toks c.turns.found) c.turns.rest.now c.in-Some.more.now c.in-Some.first.now _ c.in-Some.ensures.cases.0 (sym c.is_blank.ensures ∙ c.if-is_blank.true) c.turns.invariant

pub returns-in_default-token_at : goal.returns-in_default-token_at
returns-in_default-token_at c =
    turn-none (toks c.turns.found) c.turns.rest.now c.in-Some.more.now c.in-Some.first.now _ c.in-Some.ensures.cases.0 (sym c.is_blank.ensures ∙ c.if-is_blank.false) c.in_default-token_at.ensures.value c.turns.invariant

pub turns-preserved : goal.turns-preserved
turns-preserved c =
    let more = c.in-Some.more.now in
    let k = c.in-Some-token_at.length in
    let t = tok_of c.in-Some-token_at.token in
    let all = take_all (length more - k) (drop k more) (omega (arith, length-drop k more)) in
    let pushed = ap toks c.in_ok-push.ensures.ok ∙ map_push tok_of c.turns.found c.in-Some-token_at.token in
    ap (λ l. before l (tokens_from (take (length more - k) (drop k more)) 0)) pushed
    ∙ ap (λ l. before (toks c.turns.found ++ t ∷ []) (tokens_from l 0)) all
    ∙ turn-token (toks c.turns.found) c.turns.rest.now more c.in-Some.first.now k t _ c.in-Some.ensures.cases.0 (sym c.is_blank.ensures ∙ c.if-is_blank.false) c.in-Some-token_at.ensures.value c.turns.invariant

pub returns : goal.returns
returns c = turn-end (toks c.turns.found) c.turns.rest.now _ c.in_default.ensures.cases c.turns.invariant
