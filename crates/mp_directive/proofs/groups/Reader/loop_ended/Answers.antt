use Rattle.std.proofs.Common.{◌≡◌, ◌++◌, ◌∷◌, [], subst}
use Rattle.mp_directive.specs.declared.tree.Node.TheVariants as n
use Rattle.mp_directive.proofs.Stacks.{loop-ends}
use Rattle.mp_directive.proofs.groups.Reader.loop_ended.Goals as goal

pub returns : goal.returns
returns c =
    let popped = rw c.in-Some-Loop.field-0-is at c.in-Some-Loop.ensures in
    let boxed = subst (λ h. c.push.new.self ≡ c.in-Some-Loop.outer ++ n.Loop h c.nodes.inside.items.items ∷ []) c.in_ok-head.ensures c.in_ok-push.ensures.ok in
    let pushed = subst (λ body. c.push.new.self ≡ c.in-Some-Loop.outer ++ n.Loop c.in-Some-Loop.head body ∷ []) c.nodes.view_is boxed in
    loop-ends c.args.self.groups c.pop.new.self c.in-Some-Loop.outer c.args.self.nodes c.push.new.self c.in-Some-Loop.head popped pushed
