use Rattle.combine_base.proofs.Parsers.SameMeanings.{same_none}
use Rattle.combine_separated.specs.SepEnd.{sep_end_means_same}
use Rattle.combine_separated.specs.SepEndParsers.{sep_end_bounds, ended_by_separator}
use Rattle.combine_separated.proofs.sep_end_by.SepEndRepeatParser.add_error.Goals as goal

pub returns-clause-same : goal.returns-clause-same
returns-clause-same g c = sep_end_means_same _ _ (g.B.TurnBounds.bounds (sep_end_bounds c.args.self.now)) _ _ _ _ _ c.add_error.ensures.same (same_none (g.S.Parser.meaning (ended_by_separator c.args.self.now)))
