use Rattle.std.proofs.Common.{◌≡◌, ℕ, ◌+◌, ◌-◌, List, ◌++◌, length, take, drop, Option, Some, None, refl, sym, ap, ◌∙◌, arith, append_assoc}
use Rattle.std.proofs.lemmas.List.{take_all, length-drop}
use Rattle.std.proofs.Math.Seq.{take-add}
use Rattle.mp_outside.specs.Outside.{gained}
use Rattle.mp_outside.proofs.write_whole.Goals as goal

gained-more : (t : Option (List ℕ)) (bs : List ℕ) (at n : ℕ) → gained (gained t (take at bs)) (take n (drop at bs)) ≡ gained t (take (at + n) bs)
gained-more None bs at n = refl
gained-more (Some t) bs at n = ap Some (append_assoc t (take at bs) (take n (drop at bs)) ∙ ap (λ l. t ++ l) (sym (take-add at n bs)))

pub pieces-preserved : goal.pieces-preserved
pieces-preserved g c =
    let bytes = c.args.bytes.now in
    let rest = drop c.pieces.at bytes in
    let whole : take (length bytes - c.pieces.at) rest ≡ rest = take_all (length bytes - c.pieces.at) rest (omega (arith, length-drop c.pieces.at bytes)) in
    let taken = (g.S.Sink.held c.args.sink.now).taken in
    record {
      within = omega (arith, c.in-Took.ensures.says.0, ap length whole, length-drop c.pieces.at bytes);
      taken = c.in-Took.ensures.says.1 ∙ ap (λ l. gained (g.S.Sink.held c.pieces.sink).taken (take c.in-Took.n l)) whole ∙ ap (λ o. gained o (take c.in-Took.n rest)) c.pieces.invariant.taken ∙ gained-more taken bytes c.pieces.at c.in-Took.n;
      later = omega (arith, c.pieces.invariant.later, c.in-Took.ensures.later);
    }
