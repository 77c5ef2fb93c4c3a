use Rattle.std.proofs.Common.{refl}
use Rattle.combine_base.specs.Parser.Answer.{world}
use Rattle.combine_base.proofs.Sequences.SequenceCalls.{last_called, sequence_called}
use Rattle.combine_base.proofs.Errors.MeantRefusals.{reasoned_at_rest}
use Rattle.combine_base.proofs.Parsers.CallStarts.{at_rest}
use Rattle.combine_separated.specs.Pair.{pair_place, put_to}
use Rattle.combine_separated.proofs.Separators.{led_rest, runs_still}
use Rattle.combine_separated.proofs.pair.parse_pair.Goals as goal

pub parse_mode-answer-requires-clause-valid : goal.parse_mode-answer-requires-clause-valid
parse_mode-answer-requires-clause-valid g c = rw c.in-Separator.is at c.requires.valid

pub returns-in-Separator-clause-called : goal.returns-in-Separator-clause-called
returns-in-Separator-clause-called g c =
    let around = world g.Input.StreamOnce.step g.Input.Error.ParseError.observers g.Input.StreamOnce.counts_failures g.S.PartialState.Default.is_default in
    let call = c.parse_mode-answer.ensures in
    let laws = g.met.S.Parser.laws _ c.requires.lawful.0 in
    let answers = at_rest around _ _ laws _ (λ h. rw c.in-Separator.is at c.requires.starts h) _ call.answers in
    sequence_called pair_place put_to c.requires.fresh g.met.S.Parser.default_valid laws (g.met.P.Parser.laws _ c.requires.lawful.1) (rw c.in-Separator.is refl) c.requires.valid call.valid call.same call.passes answers (reasoned_at_rest laws g.Input.Error.ParseError.observers (λ h. rw c.in-Separator.is at c.requires.starts h) call.refuses) c.parse_rest.ensures

pub returns-in-Separator-clause-led : goal.returns-in-Separator-clause-led
returns-in-Separator-clause-led g c =
    let around = world g.Input.StreamOnce.step g.Input.Error.ParseError.observers g.Input.StreamOnce.counts_failures g.S.PartialState.Default.is_default in
    let call = c.parse_mode-answer.ensures in
    let laws = g.met.S.Parser.laws _ c.requires.lawful.0 in
    let answers = at_rest around _ _ laws _ (λ h. rw c.in-Separator.is at c.requires.starts h) _ call.answers in
    rw c.in-Separator.is (led_rest _ _ _ _ _ _ g.S.PartialState.Default.is_default c.requires.fresh _ _ _ _ _ around (g.S.Parser.meaning c.args.separator.now) _ _ _ _ _ _ _ _ answers c.parse_rest.ensures.goes_on)

pub resume_part-requires-clause-ready : goal.resume_part-requires-clause-ready
resume_part-requires-clause-ready g c = record { lawful = c.requires.lawful.1; valid = rw c.in-Part.is at c.requires.valid }

-- a state that stands at the part begins no pair
pub resume_part-requires-clause-starts : goal.resume_part-requires-clause-starts
resume_part-requires-clause-starts g c = λ h. absurd (rw c.in-Part.is at c.requires.starts h)

pub returns-in-Part-clause-called : goal.returns-in-Part-clause-called
returns-in-Part-clause-called g c = last_called pair_place put_to c.requires.fresh (g.S.Parser.meaning c.args.separator.now) g.met.S.Parser.default_valid (rw c.in-Part.is refl) c.resume_part.ensures

pub returns-in-Part-clause-led : goal.returns-in-Part-clause-led
returns-in-Part-clause-led g c = rw c.in-Part.is (record { is = runs_still _ _ _ _ _ _ g.S.PartialState.Default.is_default c.requires.fresh _ _ _ _ _ _ _ _ c.resume_part.ensures.runs })
