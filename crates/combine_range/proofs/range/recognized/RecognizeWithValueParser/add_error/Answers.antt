use Rattle.combine_range.specs.Range.RecognizedRange.{recognized_means_same}
use Rattle.combine_range.proofs.range.recognized.RecognizeWithValueParser.add_error.Goals as goal

pub returns-clause-same : goal.returns-clause-same
returns-clause-same g c = recognized_means_same g.Input.Error.ParseError.observers _ _ _ _ _ c.add_error.ensures.same
