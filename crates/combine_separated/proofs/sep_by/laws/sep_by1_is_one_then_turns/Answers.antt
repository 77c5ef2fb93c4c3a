use Rattle.combine_separated.proofs.ElementThenTurns.{sep_by1_is_one_then_turns}
use Rattle.combine_separated.proofs.sep_by.laws.sep_by1_is_one_then_turns.Goals as goal

pub returns : goal.returns
returns g c = sep_by1_is_one_then_turns _ g.Input.Error.ParseError.observers _ (g.P.Parser.meaning c.args.parser.now) (g.S.Parser.meaning c.args.separator.now)
