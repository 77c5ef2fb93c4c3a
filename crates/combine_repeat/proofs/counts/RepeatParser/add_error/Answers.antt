use Rattle.combine_repeat.specs.Repeat.Repeated.{repeated_means_same}
use Rattle.combine_repeat.specs.Repeat.RepeatParsers.{repeat_bounds}
use Rattle.combine_repeat.proofs.counts.RepeatParser.add_error.Goals as goal

pub returns-clause-same : goal.returns-clause-same
returns-clause-same g c = repeated_means_same _ g.Input.Error.ParseError.observers (g.B.TurnBounds.bounds (repeat_bounds c.args.self.now)) _ _ _ c.add_error.ensures.same
