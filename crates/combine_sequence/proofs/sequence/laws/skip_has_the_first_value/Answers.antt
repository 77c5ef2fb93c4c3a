use Rattle.combine_base.proofs.Parsers.SameMeanings.{same_none}
use Rattle.combine_sequence.specs.Values.{first_value}
use Rattle.combine_sequence.proofs.sequence.laws.skip_has_the_first_value.Goals as goal

pub returns : goal.returns
returns g c = same_none (first_value _ g.Input.Error.ParseError.observers (g.P.Parser.meaning c.args.p.now) (g.Q.Parser.meaning c.args.q.now))
