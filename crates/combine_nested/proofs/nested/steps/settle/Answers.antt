use Rattle.std.proofs.Common.{rules, vec_items}
use Rattle.combine_nested.specs.NestedSteps.{TooDeep}
use Rattle.combine_nested.proofs.FrameStack.{settles_close, opens_so, stays_open, settles_too_deep, settles_denial}
use Rattle.combine_nested.proofs.nested.steps.settle.Goals as goal

pub returns-in-Stay : goal.returns-in-Stay
returns-in-Stay g c = c.frames.invariant _ (stays_open c.args.depth g.F.Frame.joins _ _ _ c.in-Stay.is)

pub returns-then-len-depth : goal.returns-then-len-depth
returns-then-len-depth g c = c.frames.invariant TooDeep (settles_too_deep c.args.depth g.F.Frame.joins (vec_items c.frames.outer) _ _ _ c.in-Open.is (let e = c.len.ensures in let l = c.if-len-depth.true in search rules))

pub returns-in-Open : goal.returns-in-Open
returns-in-Open g c = c.frames.invariant _ (opens_so c.args.depth g.F.Frame.joins _ _ _ _ _ c.in-Open.is (let e = c.len.ensures in let l = c.if-len-depth.false in search rules) c.in_ok-push-in-Open.ensures.items)

pub returns-in_default : goal.returns-in_default
returns-in_default g c = c.frames.invariant _ (settles_close c.args.depth g.F.Frame.joins (vec_items c.frames.outer) _ _ c.in-Close.is (search rules))

pub returns-in-Refuse : goal.returns-in-Refuse
returns-in-Refuse g c = c.frames.invariant _ (settles_denial c.args.depth g.F.Frame.joins _ _ _ c.in-Refuse.is)
