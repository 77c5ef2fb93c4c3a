use Rattle.combine_combinator.proofs.Attempts.{attempt_not_put_back}
use Rattle.combine_combinator.proofs.combinator.types.put_back.Goals as goal

pub returns-in-Err-clause-back : goal.returns-in-Err-clause-back
returns-in-Err-clause-back g c = attempt_not_put_back _ _ _ _ _ _ _ _ _ _ _ _ _ _ c.in-Err.ensures.to c.fault.ensures.error c.fault.ensures.fresh
