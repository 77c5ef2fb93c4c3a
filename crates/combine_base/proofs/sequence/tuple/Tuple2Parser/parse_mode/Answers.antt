use Rattle.combine_base.specs.Sequence.Tuples.{tuple_2_is_meaning}
use Rattle.combine_base.proofs.Errors.MeantRefusals.{reasoned_in_mode}
use Rattle.combine_base.proofs.Parsers.CallStarts.{in_mode}
use Rattle.combine_base.proofs.sequence.tuple.Tuple2Parser.parse_mode.Goals as goal

pub returns-clause-answers : goal.returns-clause-answers
returns-clause-answers g c = in_mode _ _ _ (tuple_2_is_meaning _ _ (g.met.A.Parser.laws _ c.requires.lawful.0) (g.met.B.Parser.laws _ c.requires.lawful.1)) _ _ _ _ c.take_state-from.ensures.from _ _ _ _ _ c.parse_2.ensures.called.answers

pub returns-clause-refuses : goal.returns-clause-refuses
returns-clause-refuses g c = reasoned_in_mode (tuple_2_is_meaning _ _ (g.met.A.Parser.laws _ c.requires.lawful.0) (g.met.B.Parser.laws _ c.requires.lawful.1)) g.Input.Error.ParseError.observers c.take_state-from.ensures.from c.parse_2.ensures.called.refuses
