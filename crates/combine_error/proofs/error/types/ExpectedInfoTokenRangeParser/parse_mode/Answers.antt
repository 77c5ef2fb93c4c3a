use Rattle.combine_base.specs.Error.Items.{Expected, shown}
use Rattle.combine_base.proofs.Parsers.SameMeanings.{answers_alike}
use Rattle.combine_error.proofs.ShapedAnswers.{saying_reasons}
use Rattle.combine_error.specs.RewordedErrors.{ReplacesExpected, in_place_same, saying_alike, part_refusals, part_refusals_is_monotone}
use Rattle.combine_error.proofs.error.types.ExpectedInfoTokenRangeParser.parse_mode.Goals as goal

pub returns-clause-same : goal.returns-clause-same
returns-clause-same g c = in_place_same _ _ _ _ part_refusals_is_monotone c.parse_mode.ensures.same

pub returns-clause-answers : goal.returns-clause-answers
returns-clause-answers g c = answers_alike _ _ _ (saying_alike _ _ part_refusals) _ _ c.parse_mode.ensures.answers

pub returns-clause-refuses : goal.returns-clause-refuses
returns-clause-refuses g c =
    let m = g.P.Parser.meaning c.args.self.now.parser in
    saying_reasons m (ReplacesExpected m.adds (Expected (shown c.args.self.now.info))) part_refusals (g.M.ParseMode.first c.args.mode) c.args.state.now (g.Input.StreamOnce.view c.args.input.now) (g.Input.StreamOnce.view c.parse_mode.new.input) c.parse_mode.ensures.refuses
