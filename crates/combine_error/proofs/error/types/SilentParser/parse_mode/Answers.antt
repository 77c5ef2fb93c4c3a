use Rattle.combine_base.specs.Error.Errors.{AddsNothing}
use Rattle.combine_base.specs.Parser.Meaning.{begun_refuses}
use Rattle.combine_error.proofs.ShapedAnswers.{clears_expected_answers, clears_expected_reasons, saying_reasons}
use Rattle.combine_error.specs.RewordedErrors.{RefusesWithoutExpected, saying_means_same, refuses_without_expected_is_monotone}
use Rattle.combine_error.proofs.error.types.SilentParser.parse_mode.Goals as goal

pub returns-clause-same : goal.returns-clause-same
returns-clause-same g c = saying_means_same _ _ AddsNothing AddsNothing _ (refuses_without_expected_is_monotone g.Input.Error.ParseError.observers) c.parse_mode-answer.ensures.same (λ is. (λ i. i, λ i. i))

pub returns-clause-answers : goal.returns-clause-answers
returns-clause-answers g c = clears_expected_answers _ _ _ _ _ _ (RefusesWithoutExpected g.Input.Error.ParseError.observers) _ _ _ c.clear_expected_of_refusal.ensures c.parse_mode-answer.ensures.answers

pub returns-clause-refuses : goal.returns-clause-refuses
returns-clause-refuses g c =
    let observers = g.Input.Error.ParseError.observers in
    let m = g.P.Parser.meaning c.args.self.now.0 in
    let first = g.M.ParseMode.first c.args.mode in
    let state = c.args.state.now in
    let old = g.Input.StreamOnce.view c.args.input.now in
    let new = g.Input.StreamOnce.view c.parse_mode-answer.new.input in
    saying_reasons m AddsNothing (RefusesWithoutExpected observers) first state old new (clears_expected_reasons observers new.is_open (begun_refuses m first state) old new _ _ c.clear_expected_of_refusal.ensures c.parse_mode-answer.ensures.refuses)
