use Rattle.combine_error.specs.SpannedErrors.{spanned_means_same, spanned_part}
use Rattle.combine_error.proofs.SpannedAnswers.{spanned_answers, spanned_reasons}
use Rattle.combine_error.proofs.spanned.types.SpannedParser.parse_mode.Goals as goal

pub returns-clause-answers : goal.returns-clause-answers
returns-clause-answers g c = spanned_answers _ _ _ _ _ _ _ _ _ _ c.at_span.ensures c.parse_mode-answer.ensures.answers

pub returns-clause-refuses : goal.returns-clause-refuses
returns-clause-refuses g c = spanned_reasons _ _ _ _ _ (g.P.Parser.meaning (spanned_part c.args.self.now)) _ _ _ c.position-start.ensures c.position-end.ensures _ _ c.at_span.ensures c.parse_mode-answer.ensures.answers c.parse_mode-answer.ensures.refuses

pub returns-clause-same : goal.returns-clause-same
returns-clause-same g c = spanned_means_same _ _ _ c.parse_mode-answer.ensures.same
