use Rattle.std.proofs.Common.{◌≡◌, ◌-◌}
use Rattle.mp_directive.specs.Lines.{lines}
use Rattle.mp_directive.specs.Tree.{Done, run_before}
use Rattle.mp_macro.specs.Expansion.{Including, after_nodes}
use Rattle.mp_macro.specs.Says.{state_of}
use Rattle.mp_macro.proofs.expansion.expand_run.Given as goal

abbrev pub invariant-lines : goal.invariant-lines
invariant-lines l =
    (including : Including) → after_nodes including l.file (run_before l.line (l.end - l.line) (lines l.rest) Done) (state_of l.state) ≡ after_nodes including l.file (run_before l.first (l.end - l.first) (lines l.text) Done) (state_of l.fn.state)
