use Rattle.std.specs.Prelude.{None}
use Rattle.combine_repeat.proofs.DroppedValues.{repeated_or_skip}
use Rattle.combine_repeat.specs.declared.bounds.Bounds.TheVariants.{OwnFirst}
use Rattle.combine_repeat.proofs.many.laws.skip_many1_is_many1_dropped.Goals as goal

pub returns : goal.returns
returns g c = repeated_or_skip _ _ _ _ _ (g.P.Parser.meaning c.args.parser.now) (OwnFirst 1 None)
