use Rattle.std.proofs.Common.{rules, inl, inr, vec_items}
use Rattle.combine_nested.specs.StepCalls.{TakesNothing}
use Rattle.combine_nested.proofs.FrameStack.{none_fewer}
use Rattle.combine_nested.proofs.nested.steps.finish_step.Goals as goal

pub returns-else-len-before : goal.returns-else-len-before
returns-else-len-before g c =
    let stays = none_fewer c.args.took (vec_items c.in-Ok-Open.frames.outer) (vec_items c.args.frames.outer) (search rules) (let a = c.len.ensures in let b = c.len-before.ensures in let l = c.if-len-before.false in search rules) in
    elim c.refusal_saying-error.ensures.told.is [
      | inl e ↦ inr (e, inl (TakesNothing _ _ (rw c.in-Ok-Open.field-0-is at c.in-Ok-Open.ensures) stays c.refusal_saying-error.ensures.says))
      | inr e ↦ inl e.0
    ]
