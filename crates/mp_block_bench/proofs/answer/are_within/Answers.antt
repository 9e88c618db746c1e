use Rattle.std.proofs.Common.{◌≡◌, ℕ, List, [], length, subst, sym, inl, inr, get_or, arith}
use Rattle.std.proofs.lemmas.Bool.{cases_lt}
use Rattle.std.proofs.lemmas.List.{get_or_past, get_or_read}
use Rattle.mp_pairing.specs.Lists.{Has}
use Rattle.mp_pairing.specs.Pairing.{Occurs}
use Rattle.mp_block_bench.proofs.answer.are_within.Goals as goal

pub rows-preserved : goal.rows-preserved
rows-preserved c = λ d v l h.
    let rows = c.args.rows.now in
    let at = c.rows.e in
    let row = c.index-rows-e.result in
    let read : row ≡ get_or rows at [] = get_or_read rows at row c.rows-test.true c.index-rows-e.is [] in
    elim (cases_lt d at) [
      | inl m ↦ c.rows.invariant d v m h
      | inr m ↦
          let same : d ≡ at = omega arith in
          c.if-not-are_below.ensures v (subst (λ (r : List ℕ). Has r v) (sym read) (subst (λ (k : ℕ). Occurs rows k v) same h))
    ]

pub returns : goal.returns
returns c = λ d v h.
    let rows = c.args.rows.now in
    elim (cases_lt d c.rows.e) [
      | inl m ↦ c.rows.invariant d v m h
      | inr m ↦
          let none = get_or_past rows d [] (omega arith) in
          let few : Has [] v = subst (λ (r : List ℕ). Has r v) none h in
          absurd (let k = few.1 in omega arith)
    ]
