use Rattle.combine_token.proofs.Lists.ListAnswers.{accepts_as}
use Rattle.combine_token.proofs.token.lists.answers.accepted.Goals as goal

pub returns-in-Ok : goal.returns-in-Ok
returns-in-Ok g c = rw c.accepted_after.ensures (accepts_as g.Input.Error.ParseError.observers.kind (g.V.Clone.is_clone c.args.value.now) (g.V.Clone.is_infallible c.args.value.now) _ _ c.in-Ok.ensures.cases)
