use Rattle.combine_until.specs.Until.{until_means_same}
use Rattle.combine_until.proofs.repeat.types.SkipBlocksUntilParser.add_error.Goals as goal

pub returns-clause-same : goal.returns-clause-same
returns-clause-same g c = until_means_same _ g.Input.Error.ParseError.observers _ _ _ c.add_error.ensures.same
