use Rattle.std.proofs.Common.{sym, ◌∙◌}
use Rattle.combine_base.specs.Sequence.Places.{begins_valid_1, place_2}
use Rattle.combine_base.specs.Sequence.Tuples.{push_1, tuple_1, tuple_1_is_meaning}
use Rattle.combine_base.proofs.Sequences.SequenceCalls.{last_called, sequence_called}
use Rattle.combine_base.proofs.sequence.tuple.parse_2.Goals as goal

pub parse_1-answer-requires-clause-ready : goal.parse_1-answer-requires-clause-ready
parse_1-answer-requires-clause-ready g c = record { lawful = c.requires.ready.lawful.0; valid = rw (sym c.into_place.ensures ∙ c.in-Before.is) at c.requires.ready.valid }

pub parse_1-answer-requires-clause-starts : goal.parse_1-answer-requires-clause-starts
parse_1-answer-requires-clause-starts g c = λ h. rw (sym c.into_place.ensures ∙ c.in-Before.is) at c.requires.starts h

pub returns-in-Before-clause-called : goal.returns-in-Before-clause-called
returns-in-Before-clause-called g c =
    let first = c.parse_1-answer.ensures.called in
    let all = sequence_called place_2 push_1 c.requires.fresh (begins_valid_1 g.met.A.Parser.default_valid) (tuple_1_is_meaning (g.met.A.Parser.laws _ c.requires.ready.lawful.0)) (g.met.B.Parser.laws _ c.requires.ready.lawful.1) (sym c.into_place.ensures ∙ c.in-Before.is) c.requires.ready.valid first.valid first.same first.passes first.answers first.refuses c.parse_rest.ensures in
    record { lawful = (first.lawful, c.parse_rest.ensures.lawful); valid = all.valid; same = all.same; passes = all.passes; answers = all.answers; refuses = all.refuses }

pub resume_last-requires-clause-ready : goal.resume_last-requires-clause-ready
resume_last-requires-clause-ready g c = record { lawful = c.requires.ready.lawful.1; valid = rw (sym c.into_place.ensures ∙ c.in-Last.is) at c.requires.ready.valid }

-- a state that stands at the last part begins no sequence
pub resume_last-requires-clause-starts : goal.resume_last-requires-clause-starts
resume_last-requires-clause-starts g c = λ h. absurd (rw (sym c.into_place.ensures ∙ c.in-Last.is) at c.requires.starts h)

pub returns-in-Last-clause-called : goal.returns-in-Last-clause-called
returns-in-Last-clause-called g c =
    let all = last_called place_2 push_1 c.requires.fresh (tuple_1 (g.A.Parser.meaning c.args.a.now)) (begins_valid_1 g.met.A.Parser.default_valid) (sym c.into_place.ensures ∙ c.in-Last.is) c.resume_last.ensures in
    record { lawful = (c.requires.ready.lawful.0, c.resume_last.ensures.lawful); valid = all.valid; same = all.same; passes = all.passes; answers = all.answers; refuses = all.refuses }
