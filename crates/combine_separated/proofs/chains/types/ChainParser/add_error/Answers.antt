use Rattle.std.proofs.Common.{None}
use Rattle.combine_base.proofs.Parsers.SameMeanings.{same_none}
use Rattle.combine_base.specs.Parser.ValueMap.{mapped_means_same}
use Rattle.combine_separated.specs.ChainParsers.{chained_operator}
use Rattle.combine_separated.specs.Elements.{joined_means_same}
use Rattle.combine_repeat.specs.Turns.Bounds.{gathered}
use Rattle.combine_repeat.specs.declared.bounds.Bounds.TheVariants.{OwnFirst}
use Rattle.combine_separated.proofs.chains.types.ChainParser.add_error.Goals as goal

pub returns-clause-same : goal.returns-clause-same
returns-clause-same g c = mapped_means_same _ _ _ (joined_means_same _ _ (OwnFirst 1 None) (gathered g.D.Gather.held g.D.Gather.none g.D.Gather.more g.D.Gather.heapless) _ _ _ _ c.add_error.ensures.same (same_none (g.S.Parser.meaning (chained_operator c.args.self.now))))
