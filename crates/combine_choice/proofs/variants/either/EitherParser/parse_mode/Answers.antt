use Rattle.std.proofs.Common.{refl}
use Rattle.combine_choice.specs.HeldParser.{held_means_same}
use Rattle.combine_choice.specs.Variants2.{pick_left, pick_right}
use Rattle.combine_choice.proofs.HeldAnswers.{held_answers, held_reasons}
use Rattle.combine_choice.proofs.variants.either.EitherParser.parse_mode.Goals as goal

pub returns-in-Left-clause-same : goal.returns-in-Left-clause-same
returns-in-Left-clause-same g c = rw c.in-Left.is (held_means_same pick_left _ _ c.parse_mode-answer.ensures.same)

pub returns-in-Left-clause-answers : goal.returns-in-Left-clause-answers
returns-in-Left-clause-answers g c =
    let l = rw c.in-Left.is at c.requires.lawful in
    rw (c.in-Left.is, c.passed_on.ensures) (held_answers g.Input.StreamOnce.step g.Input.Error.ParseError.observers g.Input.StreamOnce.counts_failures _ pick_left (g.met.L.Parser.laws _ l) _ _ _ c.start_left-kept.ensures _ _ _ _ refl (λ d. d) _ _ refl _ c.parse_mode-answer.ensures.answers)

pub returns-in-Left-clause-refuses : goal.returns-in-Left-clause-refuses
returns-in-Left-clause-refuses g c =
    let l = rw c.in-Left.is at c.requires.lawful in
    rw (c.in-Left.is, c.passed_on.ensures) (held_reasons pick_left (g.met.L.Parser.laws _ l) refl g.Input.Error.ParseError.observers (g.M.ParseMode.first c.args.mode) _ _ c.start_left-kept.ensures _ _ _ c.parse_mode-answer.ensures.refuses)

pub returns-in-Right-clause-same : goal.returns-in-Right-clause-same
returns-in-Right-clause-same g c = rw c.in-Right.is (held_means_same pick_right _ _ c.parse_mode-answer-in-Right.ensures.same)

pub returns-in-Right-clause-answers : goal.returns-in-Right-clause-answers
returns-in-Right-clause-answers g c =
    let l = rw c.in-Right.is at c.requires.lawful in
    rw (c.in-Right.is, c.passed_on-in-Right.ensures) (held_answers g.Input.StreamOnce.step g.Input.Error.ParseError.observers g.Input.StreamOnce.counts_failures _ pick_right (g.met.R.Parser.laws _ l) _ _ _ c.start_right-kept.ensures _ _ _ _ refl (λ d. d) _ _ refl _ c.parse_mode-answer-in-Right.ensures.answers)

pub returns-in-Right-clause-refuses : goal.returns-in-Right-clause-refuses
returns-in-Right-clause-refuses g c =
    let l = rw c.in-Right.is at c.requires.lawful in
    rw (c.in-Right.is, c.passed_on-in-Right.ensures) (held_reasons pick_right (g.met.R.Parser.laws _ l) refl g.Input.Error.ParseError.observers (g.M.ParseMode.first c.args.mode) _ _ c.start_right-kept.ensures _ _ _ c.parse_mode-answer-in-Right.ensures.refuses)
