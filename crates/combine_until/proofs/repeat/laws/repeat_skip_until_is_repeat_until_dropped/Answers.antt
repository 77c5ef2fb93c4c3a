use Rattle.combine_until.proofs.DroppedBlocks.{repeat_or_skip}
use Rattle.combine_until.proofs.repeat.laws.repeat_skip_until_is_repeat_until_dropped.Goals as goal

pub returns : goal.returns
returns g c = repeat_or_skip _ g.Input.Error.ParseError.observers _ _ _ _ (g.P.Parser.meaning c.args.parser.now) (g.E.Parser.meaning c.args.end.now)
