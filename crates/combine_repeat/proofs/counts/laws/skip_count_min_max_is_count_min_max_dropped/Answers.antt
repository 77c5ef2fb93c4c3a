use Rattle.combine_repeat.proofs.DroppedValues.{repeated_or_skip}
use Rattle.combine_repeat.specs.declared.bounds.Bounds.TheVariants.{Counted}
use Rattle.combine_repeat.proofs.counts.laws.skip_count_min_max_is_count_min_max_dropped.Goals as goal

pub returns : goal.returns
returns g c = repeated_or_skip _ _ _ _ _ (g.P.Parser.meaning c.args.parser.now) (Counted _ _)
