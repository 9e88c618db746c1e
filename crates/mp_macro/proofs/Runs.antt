-- Nodes of the code one after the other, and the lines of a run.
use Rattle.std.proofs.Common.{◌≡◌, ℕ, zero, suc, ◌+◌, ◌-◌, ◌<◌, List, [], ◌∷◌, length, Result, Ok, Err, Some, refl, sym, ap, ◌∙◌, arith}
use Rattle.mp_outside.specs.Outside.{Outside, Listing, Later}
use Rattle.mp_mvalue.specs.declared.fault.MacroFault.{MacroFault}
use Rattle.mp_directive.specs.Results.{◌>>=◌}
use Rattle.mp_directive.specs.Directives as d
use Rattle.mp_directive.specs.Lines.{lines}
use Rattle.mp_directive.specs.Tree.{Node, Nodes, Done, Then, joined, line_before, run_before, nodes_weight}
use Rattle.mp_directive.specs.Shown.{node_before, nodes_of}
use Rattle.mp_directive.specs.declared.tree.Node.{Node as Code}
use Rattle.mp_directive.proofs.Trees.{nodes-first}
use Rattle.mp_directive.proofs.Weights.{joined-weight}
use Rattle.mp_macro.specs.States.{State, after_alone}
use Rattle.mp_macro.specs.Expansion.{Macro, Including, Step, at, after_node, after_nodes, include}
use Rattle.mp_base.specs.Answers.{Gives}
use Rattle.mp_mvalue.specs.Told.{told}
use Rattle.mp_macro.specs.Says.{state_of, Placed, Told, Says, SaysHere}
use Rattle.mp_macro.specs.declared.fault.Stop.{Stop}
use Rattle.mp_macro.specs.declared.fault.Stop.TheVariants as s
use Rattle.mp_macro.specs.declared.state.State as c
use Rattle.mp_macro.proofs.Steps.{gives-refused, says-after, stops}

-- a step and then the next, regrouped
regroup : (r : Step) (f g : State → Step) → ((r >>= f) >>= g) ≡ (r >>= λ x. f x >>= g)
regroup (Ok x) f g = refl
regroup (Err e) f g = refl

bind-ok : (r : Step) → (r >>= λ x. Ok x) ≡ r
bind-ok (Ok x) = refl
bind-ok (Err e) = refl

module _ (including : Including) (file : List ℕ) where
  pub nodes-joined : (ns ms : Nodes) (z : State) → after_nodes including file (joined ns ms) z ≡ (after_nodes including file ns z >>= after_nodes including file ms)
  nodes-joined Done ms z = refl
  nodes-joined (Then n ns) ms z =
      ap (λ g. after_node including file n z >>= g) (λ i. λ x. nodes-joined ns ms x i)
      ∙ sym (regroup (after_node including file n z) (after_nodes including file ns) (after_nodes including file ms))

  pub one-node : (n : Node) (z : State) → after_nodes including file (Then n Done) z ≡ after_node including file n z
  one-node n z = bind-ok (after_node including file n z)

  pub nodes-split : (x : Code) (xs : List Code) (z : State) → after_nodes including file (nodes_of (x ∷ xs)) z ≡ (after_nodes including file (node_before x Done) z >>= after_nodes including file (nodes_of xs))
  nodes-split x xs z =
      ap (λ ns. after_nodes including file ns z) (nodes-first x xs) ∙ nodes-joined (node_before x Done) (nodes_of xs) z

  line-first : (line : ℕ) (content : d.Content) (ms : Nodes) (z : State) → after_nodes including file (line_before line content ms) z ≡ (at file line (after_alone content z) >>= after_nodes including file ms)
  line-first line (d.Alone x) ms z = refl
  line-first line (d.Include e) ms z = refl
  line-first line (d.If e) ms z = refl
  line-first line (d.Further e) ms z = refl
  line-first line d.EndIf ms z = refl
  line-first line (d.For name array) ms z = refl
  line-first line d.EndFor ms z = refl
  line-first line d.IllFormed ms z = refl

  -- a run with one line at least
  pub run-first : (line end : ℕ) (rest here more : List ℕ) (z : State) → line < end → lines rest ≡ here ∷ lines more → after_nodes including file (run_before line (end - line) (lines rest) Done) z ≡ (at file line (after_alone (d.content_of here) z) >>= after_nodes including file (run_before (line + 1) (end - (line + 1)) (lines more) Done))
  run-first line end rest here more z lt split =
      let count : end - line ≡ suc (end - (line + 1)) = omega (arith, lt) in
      ap (λ n. after_nodes including file (run_before line n (lines rest) Done) z) count
      ∙ ap (λ ls. after_nodes including file (run_before line (suc (end - (line + 1))) ls Done) z) split
      ∙ line-first line (d.content_of here) (run_before (line + 1) (end - (line + 1)) (lines more) Done) z

-- a line of a run that is carried out
pub run-next : (including : Including) (file : List ℕ) (line end : ℕ) (rest here more : List ℕ) (z z' : State) (all : Step) → line < end → lines rest ≡ here ∷ lines more → after_alone (d.content_of here) z ≡ Ok z' → after_nodes including file (run_before line (end - line) (lines rest) Done) z ≡ all → after_nodes including file (run_before (line + 1) (end - (line + 1)) (lines more) Done) z' ≡ all
run-next including file line end rest here more z z' all lt split made told =
    sym (run-first including file line end rest here more z lt split ∙ ap (λ r. at file line r >>= after_nodes including file (run_before (line + 1) (end - (line + 1)) (lines more) Done)) made) ∙ told

pub run-none : (line n : ℕ) (rest : List ℕ) → length rest ≡ 0 → run_before line n (lines rest) Done ≡ Done
unfolding lines
run-none line zero [] e = refl
run-none line (suc n) [] e = refl
run-none line n (b ∷ bs) e = cc

-- a line of a run that is refused
pub run-stops : (including : Including) (file : List ℕ) (line end : ℕ) (rest here more : List ℕ) (new : c.State) (answer : Result (Unit {0}) MacroFault) (z : State) (all : Step) (e : Stop) → line < end → lines rest ≡ here ∷ lines more → Gives (λ u. state_of new) told answer (after_alone (d.content_of here) z) → Placed answer file line (Err e) → after_nodes including file (run_before line (end - line) (lines rest) Done) z ≡ all → SaysHere {Y = Unit {0}} (λ u. state_of new) (Err e) all
run-stops including file line end rest here more new answer z all (s.Macro kind g m) lt split made placed told =
    let refused : at file line (after_alone (d.content_of here) z) ≡ Err (Macro kind g m) = ap (at file line) (gives-refused (λ u. state_of new) answer (after_alone (d.content_of here) z) made kind placed.0) ∙ ap (λ x. Err (Macro kind x line)) (sym placed.1) ∙ ap (λ x. Err (Macro kind g x)) (sym placed.2) in
    sym told ∙ run-first including file line end rest here more z lt split ∙ ap (λ r. r >>= after_nodes including file (run_before (line + 1) (end - (line + 1)) (lines more) Done)) refused
run-stops including file line end rest here more new answer z all (s.Absent name) lt split made placed told = absurd placed
run-stops including file line end rest here more new answer z all (s.ReadFault count) lt split made placed told = absurd placed
run-stops including file line end rest here more new answer z all s.NoMemory lt split made placed told = tt

-- what was carried out without an include says the same of all files
pub here-says : (new : c.State) (a : Outside) (gives : Listing → Step) (r : Result (Unit {0}) Stop) → ((l : Listing) → SaysHere (λ u. state_of new) r (gives l)) → Says (state_of new) a a gives r
here-says new a gives (Ok u) h = λ l told. h l
here-says new a gives (Err (s.Macro kind file line)) h = λ l told. h l
here-says new a gives (Err (s.Absent name)) h = absurd (h [])
here-says new a gives (Err (s.ReadFault count)) h = absurd (h [])
here-says new a gives (Err s.NoMemory) h = tt

-- the weight of the first node and of further ones
pub first-weight : (x : Code) (xs : List Code) → nodes_weight (nodes_of (x ∷ xs)) ≡ nodes_weight (node_before x Done) + nodes_weight (nodes_of xs)
first-weight x xs = ap nodes_weight (nodes-first x xs) ∙ joined-weight (node_before x Done) (nodes_of xs)

-- one node more, or one that stops
module _ (room : ℕ) (file : List ℕ) (a b : Outside) (x : Code) (more rest nodes : List Code) (z st : State) where
  abbrev Told' : Type 0
  Told' = (k : Listing) → a.listing ≡ Some k → after_nodes (include k room) file (nodes_of rest) st ≡ after_nodes (include k room) file (nodes_of nodes) z

  abbrev first : Listing → Step
  first l = after_nodes (include l room) file (node_before x Done) st

  whole : rest ≡ x ∷ more → Told' → (k : Listing) → a.listing ≡ Some k → after_nodes (include k room) file (nodes_of nodes) z ≡ (first k >>= after_nodes (include k room) file (nodes_of more))
  whole split told k is =
      sym (told k is) ∙ ap (λ xs. after_nodes (include k room) file (nodes_of xs) st) split ∙ nodes-split (include k room) file x more st

  pub nodes-next : (st' : State) → rest ≡ x ∷ more → Later a b → Told' → Told b first (Ok st') → (k : Listing) → a.listing ≡ Some k → after_nodes (include k room) file (nodes_of more) st' ≡ after_nodes (include k room) file (nodes_of nodes) z
  nodes-next st' split later told says k is =
      sym (whole split told k is ∙ ap (λ r. r >>= after_nodes (include k room) file (nodes_of more)) (says k (later.listing ∙ is)))

  pub nodes-stop : (n : State) (d : Outside) (e : Stop) → rest ≡ x ∷ more → Later a b → Told' → Says n b d first (Err e) → Says n a d (λ l. after_nodes (include l room) file (nodes_of nodes) z) (Err e)
  nodes-stop n d e split later told says =
      says-after n a b d (λ l. first l >>= after_nodes (include l room) file (nodes_of more)) (λ l. after_nodes (include l room) file (nodes_of nodes) z) (Err e) later (whole split told) (stops n n b d first (λ l. after_nodes (include l room) file (nodes_of more)) e says)
