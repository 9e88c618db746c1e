-- The reading of one line more.
use Rattle.std.proofs.Common.{◌≡◌, ℕ, suc, ◌+◌, ◌-◌, List, [], ◌∷◌, drop, length, true, arith, Option, Some, None, Result, Ok, Err, sym, ap, ◌∙◌, subst}
use Rattle.mp_base.specs.declared.kinds.MacroKind.{MacroKind}
use Rattle.mp_base.specs.Answers.{Gives, Refuses}
use Rattle.mp_directive.specs.Results.{◌>>=◌}
use Rattle.mp_directive.specs.Lines.{lines}
use Rattle.mp_directive.specs.Directives as d
use Rattle.mp_directive.specs.Groups.{Reading, Fault, AreAlone, after_line, after_lines, at, whole, groups, nothing_read}
use Rattle.mp_directive.specs.Tree.{Nodes, Done, Simple, joined, is_alone, line_before, run_before}
use Rattle.mp_directive.proofs.Joined.{joined-none, joined-last-node, joined-joined, line-joined, run-more}
use Rattle.mp_directive.specs.Shown.{nodes_of}
use Rattle.mp_directive.specs.Gives.{reading_of, told}
use Rattle.mp_directive.specs.declared.groups.Reader.{Reader}
use Rattle.mp_directive.specs.declared.fault.TreeFault.{TreeFault}
use Rattle.mp_directive.specs.declared.tree.Node.{Node}

pub turn-ok : (line : ℕ) (rest first more : List ℕ) (r s : Reading) (t : Result Reading Fault) → lines rest ≡ first ∷ lines more → after_line line (d.content_of first) r ≡ Ok s → after_lines line (lines rest) r ≡ t → after_lines (line + 1) (lines more) s ≡ t
unfolding after_lines
turn-ok line rest first more r s t split step told =
    sym (ap (λ ls. after_lines line ls r) split ∙ ap (λ x. at line x >>= after_lines (line + 1) (lines more)) step) ∙ told

pub turn-end : (line : ℕ) (rest : List ℕ) (r : Reading) (t : Result Reading Fault) → length rest ≡ 0 → after_lines line (lines rest) r ≡ t → t ≡ Ok r
unfolding after_lines lines
turn-end line [] r t e told = sym told
turn-end line (b ∷ bs) r t e told = cc

-- what was read for a line
pub placed-ok : (line : ℕ) (x : Reader) (step : Result Reading MacroKind) → Gives reading_of told (Ok x) (at line step) → step ≡ Ok (reading_of x)
placed-ok line x (Ok r) g = let same : r ≡ reading_of x = cc in ap Ok same
placed-ok line x (Err kind) g = cc

refuses-next : {A B : Type 0} (t : Option Fault) (x : Result A Fault) (next : A → Result B Fault) → Refuses t x → Refuses t (x >>= next)
refuses-next None x next r = tt
refuses-next (Some f) x next r = ap (λ y. y >>= next) r

-- a line that is at fault
pub placed-err : (line : ℕ) (rest first more : List ℕ) (r : Reading) (t : Option Fault) (bytes : List ℕ) → Refuses t (at line (after_line line (d.content_of first) r)) → lines rest ≡ first ∷ lines more → after_lines line (lines rest) r ≡ after_lines 1 (lines bytes) nothing_read → Refuses t (groups bytes)
unfolding after_lines
placed-err line rest first more r t bytes stops split same =
    let further = after_lines (line + 1) (lines more) in
    let refused = refuses-next t (at line (after_line line (d.content_of first) r)) further stops in
    refuses-next t (after_lines 1 (lines bytes) nothing_read) whole
    (subst (Refuses t) (sym (ap (λ ls. after_lines line ls r) split) ∙ same) refused)

pub ends : (line : ℕ) (rest bytes : List ℕ) (r : Reading) (result : Result (List Node) TreeFault) → length rest ≡ 0 → after_lines line (lines rest) r ≡ after_lines 1 (lines bytes) nothing_read → Gives nodes_of told result (whole r) → Gives nodes_of told result (groups bytes)
ends line rest bytes r result e same g =
    subst (Gives nodes_of told result) (sym (ap (λ x. x >>= whole) (turn-end line rest r _ e same))) g

-- a line by itself
alone-step : (line : ℕ) (c : d.Content) (ls : List (List ℕ)) (r : Reading) → is_alone c ≡ true → (at line (after_line line c r) >>= after_lines (line + 1) ls) ≡ after_lines (line + 1) ls (record { groups = r.groups; nodes = joined r.nodes (line_before line c Done) })
alone-step line (d.Alone s) ls r e =
    ap (λ n. after_lines (line + 1) ls (record { groups = r.groups; nodes = n })) (sym (joined-last-node r.nodes (Simple line s)))
alone-step line (d.Include x) ls r e = cc
alone-step line (d.If c) ls r e = cc
alone-step line (d.Further c) ls r e = cc
alone-step line d.EndIf ls r e = cc
alone-step line (d.For name array) ls r e = cc
alone-step line d.EndFor ls r e = cc
alone-step line d.IllFormed ls r e = cc

pub alone-none : (all : List (List ℕ)) → AreAlone all 0 all
alone-none all = λ line r.
    let here : line ≡ line + 0 = omega arith in
    ap (λ n. after_lines line all (record { groups = r.groups; nodes = n })) (sym (joined-none r.nodes))
    ∙ ap (λ k. after_lines k all (record { groups = r.groups; nodes = joined r.nodes Done })) here

pub alone-more : (all rest more : List (List ℕ)) (count : ℕ) (first : List ℕ) → AreAlone all count rest → drop count all ≡ rest → rest ≡ first ∷ more → is_alone (d.content_of first) ≡ true → AreAlone all (count + 1) more
unfolding after_lines
alone-more all rest more count first told there split alone = λ line r.
    let next : line + count + 1 ≡ line + (count + 1) = omega arith in
    let read : Nodes = joined r.nodes (run_before line count all Done) in
    told line r
    ∙ ap (λ ls. after_lines (line + count) ls (record { groups = r.groups; nodes = read })) split
    ∙ alone-step (line + count) (d.content_of first) more (record { groups = r.groups; nodes = read }) alone
    ∙ ap (λ n. after_lines (line + count + 1) more (record { groups = r.groups; nodes = n })) (joined-joined r.nodes (run_before line count all Done) (line_before (line + count) (d.content_of first) Done) ∙ ap (joined r.nodes) (run-more line count all more first (there ∙ split)))
    ∙ ap (λ k. after_lines k more (record { groups = r.groups; nodes = joined r.nodes (run_before line (count + 1) all Done) })) next

pub alone-first : (all rest more : List (List ℕ)) (count : ℕ) (first : List ℕ) → all ≡ first ∷ more → is_alone (d.content_of first) ≡ true → AreAlone more count rest → AreAlone all (suc count) rest
unfolding after_lines
alone-first all rest more count first split alone told = λ line r.
    let next : line + 1 + count ≡ line + suc count = omega arith in
    let one : Nodes = line_before line (d.content_of first) Done in
    let further : Nodes = run_before (line + 1) count more Done in
    ap (λ ls. after_lines line ls r) split
    ∙ alone-step line (d.content_of first) more r alone
    ∙ told (line + 1) (record { groups = r.groups; nodes = joined r.nodes one })
    ∙ ap (λ n. after_lines (line + 1 + count) rest (record { groups = r.groups; nodes = n })) (joined-joined r.nodes one further ∙ ap (joined r.nodes) (line-joined line (d.content_of first) Done further))
    ∙ ap (λ k. after_lines k rest (record { groups = r.groups; nodes = joined r.nodes (run_before line (suc count) (first ∷ more) Done) })) next
    ∙ ap (λ ls. after_lines (line + suc count) rest (record { groups = r.groups; nodes = joined r.nodes (run_before line (suc count) ls Done) })) (sym split)

-- a run was read
pub run-turn : (line end further : ℕ) (rest more after first : List ℕ) (r s : Reading) (t : Result Reading Fault) → lines rest ≡ first ∷ lines more → is_alone (d.content_of first) ≡ true → AreAlone (lines more) further (lines after) → end ≡ line + 1 + further → s ≡ record { groups = r.groups; nodes = joined r.nodes (run_before line (end - line) (lines rest) Done) } → after_lines line (lines rest) r ≡ t → after_lines end (lines after) s ≡ t
run-turn line end further rest more after first r s t split alone told is read before =
    let count : end - line ≡ suc further = omega (arith, is) in
    let there : line + suc further ≡ end = omega (arith, is) in
    let run = alone-first (lines rest) (lines after) (lines more) further first split alone told line r in
    ap (after_lines end (lines after)) read
    ∙ ap (λ n. after_lines end (lines after) (record { groups = r.groups; nodes = joined r.nodes (run_before line n (lines rest) Done) })) count
    ∙ ap (λ n. after_lines n (lines after) (record { groups = r.groups; nodes = joined r.nodes (run_before line (suc further) (lines rest) Done) })) (sym there)
    ∙ sym run
    ∙ before
