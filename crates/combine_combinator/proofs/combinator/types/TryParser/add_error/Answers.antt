use Rattle.combine_combinator.specs.Attempt.{attempted_means_same}
use Rattle.combine_combinator.proofs.combinator.types.TryParser.add_error.Goals as goal

pub returns-clause-same : goal.returns-clause-same
returns-clause-same g c = attempted_means_same _ _ _ c.add_error.ensures.same
