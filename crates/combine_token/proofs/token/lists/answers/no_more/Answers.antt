use Rattle.std.proofs.Common.{refl}
use Rattle.combine_token.proofs.Lists.ListAnswers.{end_refused}
use Rattle.combine_base.proofs.Errors.CallReasons.{reasons_after, reasons_unended}
use Rattle.combine_token.proofs.token.lists.answers.no_more.Goals as goal

pub returns-in-PeekErr-clause-finds : goal.returns-in-PeekErr-clause-finds
returns-in-PeekErr-clause-finds g c = rw c.refused_after.ensures (end_refused _ _ _ _ _ _ c.in-PeekErr.ensures.refuses)

pub returns-in-PeekErr-clause-refuses : goal.returns-in-PeekErr-clause-refuses
returns-in-PeekErr-clause-refuses g c = λ i. rw c.refused_after.ensures (reasons_after _ _ _ _ _ (record { commits = refl; says = c.in-PeekErr.ensures.says.is }))

pub returns-in-CommitErr-clause-refuses : goal.returns-in-CommitErr-clause-refuses
returns-in-CommitErr-clause-refuses g c = reasons_unended _ _ _ _ _ _ c.in-CommitErr.ensures.refuses
