use Rattle.combine_char.specs.Restart.{whole_pair_means_same}
use Rattle.combine_char.proofs.pair.WholePairParser.add_error.Goals as goal

pub returns-clause-same : goal.returns-clause-same
returns-clause-same g c = whole_pair_means_same _ _ c.add_error.ensures.same
