use Rattle.combine_base.proofs.Parsers.SameMeanings.{same_none}
use Rattle.combine_sequence.specs.Values.{middle_value}
use Rattle.combine_sequence.proofs.sequence.laws.between_has_the_inner_value.Goals as goal

pub returns : goal.returns
returns g c = same_none (middle_value _ g.Input.Error.ParseError.observers (g.L.Parser.meaning c.args.l.now) (g.P.Parser.meaning c.args.p.now) (g.R.Parser.meaning c.args.r.now))
