use Rattle.combine_choice.specs.Choice.Optional.{optional_means_same}
use Rattle.combine_separated.specs.Ended.{closer_of}
use Rattle.combine_separated.specs.Pair.{pair_means_same}
use Rattle.combine_base.proofs.Parsers.SameMeanings.{same_none}
use Rattle.combine_separated.specs.Separated.{then_same}
use Rattle.combine_separated.proofs.ended.EndedTurnParser.add_error.Goals as goal

pub returns-clause-same : goal.returns-clause-same
returns-clause-same g c = then_same _ _ _ _ _ _ c.add_error.ensures.same (pair_means_same _ _ (same_none (g.S.Parser.meaning (closer_of c.args.self.now))) (optional_means_same _ _ c.add_error.ensures.same))
