use Rattle.combine_base.proofs.Parsers.SameMeanings.{same_none}
use Rattle.combine_separated.specs.SeparatedParsers.{sep_bounds, sep_separator}
use Rattle.combine_separated.specs.Elements.{joined_means_same}
use Rattle.combine_separated.proofs.sep_by.SepRepeatParser.add_error.Goals as goal

pub returns-clause-same : goal.returns-clause-same
returns-clause-same g c = joined_means_same _ _ (g.B.TurnBounds.bounds (sep_bounds c.args.self.now)) _ _ _ _ _ c.add_error.ensures.same (same_none (g.S.Parser.meaning (sep_separator c.args.self.now)))
