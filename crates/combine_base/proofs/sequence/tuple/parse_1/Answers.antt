use Rattle.combine_base.specs.Sequence.Places.{begins_valid_1}
use Rattle.combine_base.specs.Sequence.Tuples.{tuple_1_means_same}
use Rattle.combine_base.proofs.Errors.MeantRefusals.{reasoned_accepted, reasoned_error, reasoned_peeked, reasoned_refusal, reasoned_single}
use Rattle.combine_base.proofs.Sequences.SingleAnswers.{single_commits, single_peeks, single_error, single_refused}
use Rattle.combine_base.proofs.sequence.tuple.parse_1.Goals as goal

pub returns-in-CommitOk-clause-called : goal.returns-in-CommitOk-clause-called
returns-in-CommitOk-clause-called g c =
    let call = c.parse_mode.ensures in
    record { lawful = call.lawful; valid = begins_valid_1 g.met.A.Parser.default_valid c.args.state.now c.requires.fresh; same = tuple_1_means_same call.same; passes = call.passes; answers = single_commits _ _ _ (g.met.A.Parser.laws _ c.requires.ready.lawful) _ _ c.into_only-kept.ensures _ c.requires.starts _ _ _ _ _ _ c.requires.fresh _ c.in-CommitOk.ensures.answers; refuses = reasoned_accepted _ }

pub returns-in-PeekOk-clause-called : goal.returns-in-PeekOk-clause-called
returns-in-PeekOk-clause-called g c =
    let call = c.parse_mode.ensures in
    record { lawful = call.lawful; valid = begins_valid_1 g.met.A.Parser.default_valid c.args.state.now c.requires.fresh; same = tuple_1_means_same call.same; passes = call.passes; answers = single_peeks _ _ _ (g.met.A.Parser.laws _ c.requires.ready.lawful) _ _ c.into_only-kept.ensures _ c.requires.starts _ _ _ _ _ _ c.requires.fresh _ c.in-PeekOk.ensures.answers; refuses = reasoned_peeked _ }

pub returns-in-CommitErr-clause-called : goal.returns-in-CommitErr-clause-called
returns-in-CommitErr-clause-called g c =
    let call = c.parse_mode.ensures in
    record { lawful = call.lawful; valid = call.valid; same = tuple_1_means_same call.same; passes = call.passes; answers = single_error _ _ _ (g.met.A.Parser.laws _ c.requires.ready.lawful) _ _ c.into_only-kept.ensures _ c.requires.starts _ _ _ _ _ _ c.in-CommitErr.ensures.answers; refuses = reasoned_single g.Input.Error.ParseError.observers (g.met.A.Parser.laws _ c.requires.ready.lawful) c.args.from c.into_only-kept.ensures c.requires.starts (reasoned_error c.in-CommitErr.ensures.refuses) }

pub returns-in-PeekErr-clause-called : goal.returns-in-PeekErr-clause-called
returns-in-PeekErr-clause-called g c =
    let call = c.parse_mode.ensures in
    record { lawful = call.lawful; valid = begins_valid_1 g.met.A.Parser.default_valid c.args.state.now c.requires.fresh; same = tuple_1_means_same call.same; passes = call.passes; answers = single_refused _ _ _ (g.met.A.Parser.laws _ c.requires.ready.lawful) _ _ c.into_only-kept.ensures _ c.requires.starts _ _ _ _ _ _ c.requires.fresh _ c.in-PeekErr.ensures.answers; refuses = reasoned_single g.Input.Error.ParseError.observers (g.met.A.Parser.laws _ c.requires.ready.lawful) c.args.from c.into_only-kept.ensures c.requires.starts (reasoned_refusal c.in-PeekErr.ensures.refuses) }
