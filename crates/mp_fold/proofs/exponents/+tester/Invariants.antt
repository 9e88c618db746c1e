use Rattle.std.proofs.Common.{◌≡◌, map, drop}
use Rattle.mp_file.specs.Shown.{further_of}
use Rattle.mp_values.specs.Chained.{chained}
use Rattle.mp_values.specs.Exponents.{exponents_given}
use Rattle.mp_fold.specs.Collected.{appended}
use Rattle.mp_fold.proofs.exponents.+tester.Given as goal

abbrev pub invariant-add_further-turns : goal.invariant-add_further-turns
invariant-add_further-turns l =
    chained (λ e. exponents_given l.table e) appended l.found.items (map further_of (drop l.next-index l.more)) ≡ chained (λ e. exponents_given l.table e) appended l.fn.found.items (map further_of l.more)
