use Rattle.std.proofs.Common.{[], ◌∷◌, map, refl, sym, ap, ◌∙◌}
use Rattle.std.specs.Prelude.{find}
use Rattle.std.specs.List.{flat_map}
use Rattle.mp_file.specs.Shown.{expr_of, further_of}
use Rattle.mp_file.proofs.Views.{signed_is, chain_is, power_is, paren_is, call_is, diff_is}
use Rattle.mp_declared.specs.Points.{Differs, reads}
use Rattle.mp_decl.specs.Shown.{reader_of, point_of}
use Rattle.mp_decl.specs.Search.{sought_by}
use Rattle.mp_decl.proofs.FindTurns.{pair_found, turn_none, turn_some}
use Rattle.mp_decl.proofs.ReadsLaws.{reads_signed, reads_chain, reads_power, reads_paren, reads_call, reads_diff}
use Rattle.mp_decl.proofs.find.+finder.Goals as goal

pub find_in_further-turns-preserved : goal.find_in_further-turns-preserved
find_in_further-turns-preserved t c =
    turn_none (λ x. reads (reader_of c.args.reader) (expr_of x.operand)) (λ xs. flat_map (λ y. reads (reader_of c.args.reader) y.operand) (map further_of xs)) (λ x xs. refl) (sought_by c.args.search.now) c.args.more.now c.turns.next-index c.next-item.result c.next-item.result _ c.turns-test.true c.next-item.is c.turns.invariant c.in_default.ensures

pub find_in_further-returns-in-Some : goal.find_in_further-returns-in-Some
find_in_further-returns-in-Some t c =
    turn_some (λ x. reads (reader_of c.args.reader) (expr_of x.operand)) (λ xs. flat_map (λ y. reads (reader_of c.args.reader) y.operand) (map further_of xs)) (λ x xs. refl) (sought_by c.args.search.now) c.args.more.now c.turns.next-index c.next-item.result c.next-item.result _ c.turns-test.true c.next-item.is c.turns.invariant (point_of c.in-Some.point) c.in-Some.ensures

pub find_in-returns-in-Signed : goal.find_in-returns-in-Signed
find_in-returns-in-Signed t c =
    let r = reader_of c.args.reader in
    c.find_in.ensures ∙ ap (find (sought_by c.args.search.now)) (sym (ap (reads r) (signed_is c.in-Signed.is c.get-in-Signed.ensures) ∙ reads_signed r c.in-Signed.sign _))

pub find_in-returns-in-Chain : goal.find_in-returns-in-Chain
find_in-returns-in-Chain t c =
    let r = reader_of c.args.reader in
    pair_found (sought_by c.args.search.now) _ _ _ _ _ _ (ap (reads r) (chain_is c.in-Chain.is c.get-in-Chain.ensures c.as_slice.ensures) ∙ reads_chain r _ _) c.find_in-point.ensures c.find_in_further.ensures c.first_of.ensures

pub find_in-returns-in-Power : goal.find_in-returns-in-Power
find_in-returns-in-Power t c =
    let r = reader_of c.args.reader in
    pair_found (sought_by c.args.search.now) _ _ _ _ _ _ (ap (reads r) (power_is c.in-Power.is c.get-in-Power.ensures c.get-in-Power-2.ensures) ∙ reads_power r _ _ _ _) c.find_in-point-in-Power.ensures c.find_in-in-Power.ensures c.first_of-in-Power.ensures

pub find_in-returns-in-Paren : goal.find_in-returns-in-Paren
find_in-returns-in-Paren t c =
    let r = reader_of c.args.reader in
    c.find_in-in-Paren.ensures ∙ ap (find (sought_by c.args.search.now)) (sym (ap (reads r) (paren_is c.in-Paren.is c.get-in-Paren.ensures) ∙ reads_paren r _))

pub find_in-returns-in-Call : goal.find_in-returns-in-Call
find_in-returns-in-Call t c =
    let r = reader_of c.args.reader in
    pair_found (sought_by c.args.search.now) _ _ _ _ _ _ (ap (reads r) (call_is c.in-Call.is c.get-in-Call.ensures c.get-in-Call-2.ensures) ∙ reads_call r c.in-Call.function _ _) c.find_in-point-in-Call.ensures c.find_in-in-Call.ensures c.first_of-in-Call.ensures

pub find_in-returns-in-Diff : goal.find_in-returns-in-Diff
find_in-returns-in-Diff t c =
    let r = reader_of c.args.reader in
    pair_found (sought_by c.args.search.now) _ (Differs r c.in-Diff.at ∷ []) _ _ _ _ (ap (reads r) (diff_is c.in-Diff.is c.get-in-Diff.ensures) ∙ reads_diff r _ _) c.tested-point.ensures c.find_in-in-Diff.ensures c.first_of-in-Diff.ensures
