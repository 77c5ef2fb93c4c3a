use Rattle.combine_until.specs.Until.{until_means_same}
use Rattle.combine_until.proofs.repeat.types.BlocksUntilParser.parse_mode.Goals as goal

pub returns-clause-same : goal.returns-clause-same
returns-clause-same g c = until_means_same _ g.Input.Error.ParseError.observers _ _ _ c.take_blocks.ensures.same

pub returns-clause-refuses : goal.returns-clause-refuses
returns-clause-refuses g c = c.take_blocks.ensures.refuses
