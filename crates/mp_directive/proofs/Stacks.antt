-- The stack of open groups.
use Rattle.std.proofs.Common.{◌≡◌, ℕ, suc, ◌<◌, ◌≤◌, slice_get, Some, List, [], ◌∷◌, ◌++◌, map, reverse, length, Ok, Err, Result, nat_lt, refl, sym, ap, ◌∙◌, arith, if◌then◌else◌}
use Rattle.std.proofs.lemmas.List.{map_push, reverse-append, length-reverse}
use Rattle.std.proofs.lemmas.Bool.Decides.{nat_tests}
use Rattle.mp_base.specs.declared.kinds.MacroKind.{MacroKind}
use Rattle.mp_base.specs.declared.kinds.MacroKind.TheVariants as k
use Rattle.mp_directive.specs.Tree as t
use Rattle.mp_directive.specs.Groups as g
use Rattle.mp_directive.specs.Shown.{condition_of, nodes_of, branches_of, group_of}
use Rattle.mp_directive.specs.Gives.{stack_of}
use Rattle.mp_directive.specs.declared.groups.Group.{Group}
use Rattle.mp_directive.specs.declared.groups.Group.TheVariants as o
use Rattle.mp_directive.specs.declared.tree.Node.{Node}
use Rattle.mp_directive.specs.declared.tree.Node.TheVariants as n
use Rattle.mp_directive.specs.declared.tree.Branch.{Branch}
use Rattle.mp_directive.specs.declared.tree.Head.{Head}
use Rattle.mp_directive.specs.declared.content.Condition.{Condition}
use Rattle.mp_directive.proofs.Joined.{joined-last-node}
use Rattle.mp_directive.proofs.Trees.{nodes-push, Choice-is, Loop-is}

pub stack-push : (xs : List Group) (x : Group) → stack_of (xs ++ x ∷ []) ≡ group_of x ∷ stack_of xs
stack-push xs x = ap reverse (map_push group_of xs x) ∙ reverse-append (map group_of xs) (group_of x ∷ [])

length-map : (xs : List Group) → length (map group_of xs) ≡ length xs
length-map [] = refl
length-map (x ∷ xs) = ap (λ n. suc n) (length-map xs)

pub stack-length : (xs : List Group) → length (stack_of xs) ≡ length xs
stack-length xs = length-reverse (map group_of xs) ∙ length-map xs

-- a group opens
pub opens : (xs ys : List Group) (x : Group) (h : g.Group) (ns : List Node) → length xs < 100 → ys ≡ xs ++ x ∷ [] → group_of x ≡ h → ns ≡ [] → g.opened h (stack_of xs) ≡ Ok (record { groups = stack_of ys; nodes = nodes_of ns })
opens xs ys x h ns few e is none =
    ap (λ n. if nat_lt n 100 then Ok (record { groups = h ∷ stack_of xs; nodes = t.Done }) else Err k.NestDeep) (stack-length xs)
    ∙ below (length xs) few
    ∙ ap (λ gs. Ok (record { groups = gs; nodes = t.Done })) (ap (λ x. x ∷ stack_of xs) (sym is) ∙ sym (stack-push xs x) ∙ ap stack_of (sym e))
    ∙ ap (λ l. Ok (record { groups = stack_of ys; nodes = nodes_of l })) (sym none)
  where
    below : (n : ℕ) → n < 100 → (let yes : Result g.Reading MacroKind = Ok (record { groups = h ∷ stack_of xs; nodes = t.Done }) in (if nat_lt n 100 then yes else Err k.NestDeep) ≡ yes)
    below n lt = grind (arith, nat_tests)

pub full : (xs : List Group) (h : g.Group) → 100 ≤ length xs → g.opened h (stack_of xs) ≡ Err k.NestDeep
full xs h many = rw (stack-length xs) (grind (arith, nat_tests))

pub loop-ends : (gs more : List Group) (outer body ns : List Node) (head : Head) → gs ≡ more ++ o.Loop outer head ∷ [] → ns ≡ outer ++ n.Loop head body ∷ [] → g.loop_ended (nodes_of body) (stack_of gs) ≡ Ok (record { groups = stack_of more; nodes = nodes_of ns })
loop-ends gs more outer body ns head popped pushed =
    ap (g.loop_ended (nodes_of body)) (ap stack_of popped ∙ stack-push more (o.Loop outer head))
    ∙ ap (λ x. Ok (record { groups = stack_of more; nodes = x })) (sym (ap nodes_of pushed ∙ nodes-push outer (n.Loop head body) ∙ ap (t.joined (nodes_of outer)) (Loop-is head body t.Done) ∙ joined-last-node (nodes_of outer) (t.Loop head.line head.name.now head.array.now (nodes_of body))))

pub choice-ends : (gs more : List Group) (outer body ns : List Node) (opener line : ℕ) (finished branches : List Branch) (c : Condition) → gs ≡ more ++ o.Choice outer opener finished line c ∷ [] → t.with_branch (branches_of finished) line (condition_of c) (nodes_of body) ≡ branches_of branches → ns ≡ outer ++ n.Choice branches ∷ [] → g.choice_ended (nodes_of body) (stack_of gs) ≡ Ok (record { groups = stack_of more; nodes = nodes_of ns })
choice-ends gs more outer body ns opener line finished branches c popped made pushed =
    ap (g.choice_ended (nodes_of body)) (ap stack_of popped ∙ stack-push more (o.Choice outer opener finished line c))
    ∙ ap (λ x. Ok (record { groups = stack_of more; nodes = t.with_node (nodes_of outer) (t.Choice x) })) made
    ∙ ap (λ x. Ok (record { groups = stack_of more; nodes = x })) (sym (ap nodes_of pushed ∙ nodes-push outer (n.Choice branches) ∙ ap (t.joined (nodes_of outer)) (Choice-is branches t.Done) ∙ joined-last-node (nodes_of outer) (t.Choice (branches_of branches))))

outermost-last : (h : g.Group) (zs : List g.Group) (y : g.Group) → g.outermost h (zs ++ y ∷ []) ≡ y
outermost-last h [] y = refl
outermost-last h (z ∷ zs) y = outermost-last z zs y

whole-last : (zs : List g.Group) (y : g.Group) (ns : t.Nodes) → g.whole (record { groups = zs ++ y ∷ []; nodes = ns }) ≡ Err (record { kind = k.Unbalanced; line = g.opener y })
whole-last [] y ns = refl
whole-last (z ∷ zs) y ns = ap (λ h. Err (record { kind = k.Unbalanced; line = g.opener h })) (outermost-last z zs y)

-- the first group is the outermost
pub whole-open : (gs : List Group) (x : Group) (ns : t.Nodes) → Some x ≡ slice_get gs 0 → g.whole (record { groups = stack_of gs; nodes = ns }) ≡ Err (record { kind = k.Unbalanced; line = g.opener (group_of x) })
whole-open [] x ns e = cc
whole-open (y ∷ ys) x ns e =
    let same : x ≡ y = cc in
    ap (λ gs. g.whole (record { groups = gs; nodes = ns })) (reverse-append (group_of y ∷ []) (map group_of ys))
    ∙ whole-last (stack_of ys) (group_of y) ns
    ∙ ap (λ h. Err (record { kind = k.Unbalanced; line = g.opener (group_of h) })) (sym same)

-- what is there, or else the other
abbrev pub from_ok : {X E : Type 0} → X → Result X E → X
from_ok other (Ok x) = x
from_ok other (Err e) = other
