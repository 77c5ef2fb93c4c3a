use Rattle.combine_base.proofs.Parsers.GivenValues.{gives_same}
use Rattle.combine_sequence.specs.Then.{then_asker, then_means_same}
use Rattle.combine_sequence.proofs.ThenAnswers.{by_some}
use Rattle.combine_sequence.proofs.sequence.answered.AnsweredParser.add_error.Goals as goal

pub returns-clause-lawful : goal.returns-clause-lawful
returns-clause-lawful g c = (c.add_error.ensures.lawful, gives_same c.add_error.ensures.same c.requires.1)

pub returns-clause-same : goal.returns-clause-same
returns-clause-same g c = then_means_same _ g.Input.Error.ParseError.observers g.K.NextParser.keeps g.V.Join.joined (g.K.NextParser.answers (then_asker c.args.self.now)) (by_some g.P.Parser g.N.Parser g.K.NextParser.callable g.K.NextParser.answers) g.N.Parser.meaning c.add_error.ensures.same
