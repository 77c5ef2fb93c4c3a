use Rattle.combine_repeat.proofs.DroppedValues.{repeated_or_skip}
use Rattle.combine_repeat.specs.declared.bounds.Bounds.TheVariants.{Unbounded}
use Rattle.combine_repeat.proofs.many.laws.skip_many_is_many_dropped.Goals as goal

pub returns : goal.returns
returns g c = repeated_or_skip _ _ _ _ _ (g.P.Parser.meaning c.args.parser.now) Unbounded
