-- written by trials/widths: not to be edited by hand
use Rattle.std.proofs.Common.{rules}
use Rattle.combine_base.specs.Parser.Meaning.{MeansSame}
use Rattle.combine_choice.specs.Choice.Alternatives.{both_merged}
use Rattle.combine_choice.specs.Choice.Or.{either_of}
use Rattle.combine_choices.proofs.EqualValues.{carried_4}
use Rattle.combine_choices.proofs.choice.tuples.Tuple4ChoiceParser.parse_mode_choice.Goals as goal

pub returns-clause-valid : goal.returns-clause-valid
returns-clause-valid g c = c.choose.ensures.chose.valid

pub returns-clause-same : goal.returns-clause-same
returns-clause-same g c =
    let k = both_merged g.Input.Error.ParseError.observers g.Input.Position.Ord.cmp in
    carried_4 (λ x0 x1 x2 x3. MeansSame (either_of k (either_of k (g.A.Parser.meaning c.args.self.now.0) (g.B.Parser.meaning c.args.self.now.1)) (either_of k (g.C.Parser.meaning c.args.self.now.2) (g.D.Parser.meaning c.args.self.now.3))) (either_of k (either_of k (g.A.Parser.meaning x0) (g.B.Parser.meaning x1)) (either_of k (g.C.Parser.meaning x2) (g.D.Parser.meaning x3)))) (search rules) (search rules) (search rules) (search rules) c.choose.ensures.chose.same

pub returns-clause-passes : goal.returns-clause-passes
returns-clause-passes g c = c.choose.ensures.chose.passes

pub returns-clause-answers : goal.returns-clause-answers
returns-clause-answers g c = c.choose.ensures.chose.answers

pub returns-clause-refuses : goal.returns-clause-refuses
returns-clause-refuses g c = c.choose.ensures.chose.refuses
