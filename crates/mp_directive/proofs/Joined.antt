-- Nodes and branches, one after the other.
use Rattle.std.proofs.Common.{◌≡◌, ℕ, zero, suc, ◌+◌, List, [], ◌∷◌, drop, refl, sym, ap, ◌∙◌, arith}
use native.Mathlib.Numerals.{unary_clauses}
use Rattle.mp_directive.specs.Directives.{Condition, Content, Alone, Include, If, Further, EndIf, For, EndFor, IllFormed, content_of}
use Rattle.mp_directive.specs.Tree.{Node, Nodes, Done, Then, with_node, joined, line_before, run_before, Branches, NoBranch, Branch, with_branch}

pub joined-none : (ns : Nodes) → joined ns Done ≡ ns
joined-none Done = refl
joined-none (Then n ns) = ap (Then n) (joined-none ns)

pub joined-node : (ns : Nodes) (n : Node) (ms : Nodes) → joined (with_node ns n) ms ≡ joined ns (Then n ms)
joined-node Done n ms = refl
joined-node (Then m ns) n ms = ap (Then m) (joined-node ns n ms)

pub joined-last-node : (ns : Nodes) (n : Node) → joined ns (Then n Done) ≡ with_node ns n
joined-last-node Done n = refl
joined-last-node (Then m ns) n = ap (Then m) (joined-last-node ns n)

pub joined-joined : (ns ms ls : Nodes) → joined (joined ns ms) ls ≡ joined ns (joined ms ls)
joined-joined Done ms ls = refl
joined-joined (Then n ns) ms ls = ap (Then n) (joined-joined ns ms ls)

pub line-joined : (line : ℕ) (c : Content) (ns ms : Nodes) → joined (line_before line c ns) ms ≡ line_before line c (joined ns ms)
line-joined line (Alone s) ns ms = refl
line-joined line (Include e) ns ms = refl
line-joined line (If c) ns ms = refl
line-joined line (Further c) ns ms = refl
line-joined line EndIf ns ms = refl
line-joined line (For name array) ns ms = refl
line-joined line EndFor ns ms = refl
line-joined line IllFormed ns ms = refl

pub run-joined : (line n : ℕ) (ls : List (List ℕ)) (ms : Nodes) → joined (run_before line n ls Done) ms ≡ run_before line n ls ms
run-joined line zero ls ms = refl
run-joined line (suc n) [] ms = refl
run-joined line (suc n) (l ∷ ls) ms =
    line-joined line (content_of l) (run_before (line + 1) n ls Done) ms ∙ ap (line_before line (content_of l)) (run-joined (line + 1) n ls ms)

-- one line more of a run
pub run-more : (line k : ℕ) (ls ms : List (List ℕ)) (l : List ℕ) → drop k ls ≡ l ∷ ms → joined (run_before line k ls Done) (line_before (line + k) (content_of l) Done) ≡ run_before line (k + 1) ls Done
run-more line zero [] ms l e = cc
run-more line zero (x ∷ ls) ms l e =
    let same : l ≡ x = cc in
    let here : line + 0 ≡ line = omega arith in
    ap (λ n. line_before n (content_of l) Done) here ∙ ap (λ y. line_before line (content_of y) Done) same
run-more line (suc k) [] ms l e = cc
run-more line (suc k) (x ∷ ls) ms l e =
    let there : line + suc k ≡ line + 1 + k = omega arith in
    let one : suc k + 1 ≡ suc (k + 1) = omega arith in
    line-joined line (content_of x) (run_before (line + 1) k ls Done) (line_before (line + suc k) (content_of l) Done)
    ∙ ap (λ n. line_before line (content_of x) (joined (run_before (line + 1) k ls Done) (line_before n (content_of l) Done))) there
    ∙ ap (line_before line (content_of x)) (run-more (line + 1) k ls ms l e)
    ∙ ap (λ n. run_before line n (x ∷ ls) Done) (sym one)

pub drop-next : (k : ℕ) (ls ms : List (List ℕ)) (l : List ℕ) → drop k ls ≡ l ∷ ms → drop (k + 1) ls ≡ ms
drop-next zero [] ms l e = cc
drop-next zero (x ∷ ls) ms l e = cc
drop-next (suc k) [] ms l e = cc
drop-next (suc k) (x ∷ ls) ms l e = simp unary_clauses (simp unary_clauses at (drop-next k ls ms l e))

-- these branches and then those
abbrev pub joined_branches : Branches → Branches → Branches
joined_branches NoBranch more = more
joined_branches (Branch line c body bs) more = Branch line c body (joined_branches bs more)

pub joined-last : (bs : Branches) (line : ℕ) (c : Condition) (body : Nodes) → joined_branches bs (Branch line c body NoBranch) ≡ with_branch bs line c body
joined-last NoBranch line c body = refl
joined-last (Branch l e b bs) line c body = ap (Branch l e b) (joined-last bs line c body)

pub joined-branch : (bs : Branches) (line : ℕ) (c : Condition) (body : Nodes) (more : Branches) → joined_branches (with_branch bs line c body) more ≡ joined_branches bs (Branch line c body more)
joined-branch NoBranch line c body more = refl
joined-branch (Branch l e b bs) line c body more = ap (Branch l e b) (joined-branch bs line c body more)

pub ruleset lasts = (joined-last-node)
