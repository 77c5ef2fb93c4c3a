use Rattle.combine_base.specs.Parser.ValueMap.{mapped_means_same}
use Rattle.combine_range.proofs.range.recognized.RecognizeParser.add_error.Goals as goal

pub returns-clause-same : goal.returns-clause-same
returns-clause-same g c = mapped_means_same _ _ _ c.add_error.ensures.same
