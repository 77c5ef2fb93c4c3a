use Rattle.combine_separated.specs.Pair.{pair_means_same}
use Rattle.combine_base.proofs.Parsers.SameMeanings.{same_none}
use Rattle.combine_separated.specs.Separated.{separator_of, then_same}
use Rattle.combine_separated.proofs.separated.SeparatedTurnParser.add_error.Goals as goal

pub returns-clause-same : goal.returns-clause-same
returns-clause-same g c = then_same _ _ _ _ _ _ c.add_error.ensures.same (pair_means_same _ _ (same_none (g.S.Parser.meaning (separator_of c.args.self.now))) c.add_error.ensures.same)
