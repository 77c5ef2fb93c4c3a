use Rattle.std.proofs.Common.{false, refl, subst, sym, true}
use Rattle.combine_base.proofs.Parsers.GivenValues.{gives_same, good_ok, good_peek_ok}
use Rattle.combine_base.proofs.Errors.MeantRefusals.{reasoned_in_mode}
use Rattle.combine_base.proofs.Parsers.CallStarts.{in_mode}
use Rattle.combine_base.specs.Parser.GivenValues.{gives_as}
use Rattle.combine_base.specs.Parser.KeptParsers.{KeptOf}
use Rattle.combine_base.specs.Sequence.Parts.{valid_from}
use Rattle.combine_sequence.specs.Then.{then_asker, answered_starts_valid, then_is_meaning, then_means_same}
use Rattle.combine_sequence.proofs.ThenAnswers.{accepted_kept, first_at_rest, by_some, committed_at, answered_leaves_valid, peeked_at, then_resumes, then_stops, then_refuses, then_commits, then_peeks}
use Rattle.combine_sequence.proofs.ThenErrors.{answered_reasons, first_peeked, then_first_reasons, resumed_reasons}
use Rattle.combine_sequence.proofs.sequence.answered.AnsweredParser.parse_mode.Goals as goal
use Rattle.combine_sequence.proofs.sequence.answered.AnsweredParser.parse_mode.Goals.{in-CommitOk, in-PeekOk}

pub resume_answered-requires-clause-ready : goal.resume_answered-requires-clause-ready
resume_answered-requires-clause-ready g c =
    let kept = KeptOf g.N.Parser.lawful g.N.Parser.meaning (by_some g.P.Parser g.N.Parser g.K.NextParser.callable g.K.NextParser.answers) in
    let v = valid_from (answered_starts_valid kept g.N.Parser.valid g.met.P.Parser.default_valid) c.in-Second.ensures.from c.requires.valid in
    record { lawful = v.0.is_lawful; valid = v.1 }

pub returns-in-Second-clause-valid : goal.returns-in-Second-clause-valid
returns-in-Second-clause-valid g c =
    let some = by_some g.P.Parser g.N.Parser g.K.NextParser.callable g.K.NextParser.answers in
    let v = valid_from (answered_starts_valid (KeptOf g.N.Parser.lawful g.N.Parser.meaning some) g.N.Parser.valid g.met.P.Parser.default_valid) c.in-Second.ensures.from c.requires.valid in
    answered_leaves_valid g.N.Parser g.Input.StreamOnce g.Input.Error.ParseError.observers g.N.PartialState.Default.is_default _ g.P.Parser.valid g.K.NextParser.keeps g.V.Join.joined (g.K.NextParser.answers (then_asker c.args.self.now)) some (g.P.Parser.meaning c.args.self.now.first) g.met.P.Parser.default_valid v.0 c.resume_answered.ensures

pub returns-in-Second-clause-answers : goal.returns-in-Second-clause-answers
returns-in-Second-clause-answers g c =
    let answers = g.K.NextParser.answers (then_asker c.args.self.now) in
    let some = by_some g.P.Parser g.N.Parser g.K.NextParser.callable g.K.NextParser.answers in
    let laws = g.met.P.Parser.laws _ c.requires.lawful.0 in
    let from = c.in-Second.ensures.from in
    let v = valid_from (answered_starts_valid (KeptOf g.N.Parser.lawful g.N.Parser.meaning some) g.N.Parser.valid g.met.P.Parser.default_valid) from c.requires.valid in
    let call = then_resumes _ _ _ _ _ g.P.Parser.valid g.K.NextParser.keeps _ answers some (g.P.Parser.meaning c.args.self.now.first) refl v.0 c.resume_answered.ensures in
    in_mode _ _ _ (then_is_meaning _ g.Input.Error.ParseError.observers g.K.NextParser.keeps g.V.Join.joined answers some g.N.Parser.lawful laws g.met.N.Parser.laws (gives_as (λ a h. h.1) c.requires.lawful.1)) _ _ _ _ from _ _ _ _ _ call

pub returns-in-CommitErr-clause-lawful : goal.returns-in-CommitErr-clause-lawful
returns-in-CommitErr-clause-lawful g c = (c.parse_mode.ensures.lawful, gives_same c.parse_mode.ensures.same c.requires.lawful.1)

pub returns-in-CommitErr-clause-same : goal.returns-in-CommitErr-clause-same
returns-in-CommitErr-clause-same g c = then_means_same _ g.Input.Error.ParseError.observers g.K.NextParser.keeps g.V.Join.joined (g.K.NextParser.answers (then_asker c.args.self.now)) (by_some g.P.Parser g.N.Parser g.K.NextParser.callable g.K.NextParser.answers) g.N.Parser.meaning c.parse_mode.ensures.same

pub returns-in-CommitErr-clause-answers : goal.returns-in-CommitErr-clause-answers
returns-in-CommitErr-clause-answers g c =
    let answers = g.K.NextParser.answers (then_asker c.args.self.now) in
    let some = by_some g.P.Parser g.N.Parser g.K.NextParser.callable g.K.NextParser.answers in
    let laws = g.met.P.Parser.laws _ c.requires.lawful.0 in
    let from = c.in-First.ensures.from in
    let call = then_stops g.N.Parser g.Input.StreamOnce g.Input.Error.ParseError.observers g.N.PartialState.Default.is_default _ g.P.Parser.valid g.K.NextParser.keeps g.V.Join.joined answers some _ laws refl from.afresh refl c.in-CommitErr.ensures.answers in
    in_mode _ _ _ (then_is_meaning _ g.Input.Error.ParseError.observers g.K.NextParser.keeps g.V.Join.joined answers some g.N.Parser.lawful laws g.met.N.Parser.laws (gives_as (λ a h. h.1) c.requires.lawful.1)) _ _ _ _ from _ _ _ _ _ call

pub returns-in-PeekErr-clause-lawful : goal.returns-in-PeekErr-clause-lawful
returns-in-PeekErr-clause-lawful g c = (c.parse_mode.ensures.lawful, gives_same c.parse_mode.ensures.same c.requires.lawful.1)

pub returns-in-PeekErr-clause-same : goal.returns-in-PeekErr-clause-same
returns-in-PeekErr-clause-same g c = then_means_same _ g.Input.Error.ParseError.observers g.K.NextParser.keeps g.V.Join.joined (g.K.NextParser.answers (then_asker c.args.self.now)) (by_some g.P.Parser g.N.Parser g.K.NextParser.callable g.K.NextParser.answers) g.N.Parser.meaning c.parse_mode.ensures.same

pub returns-in-PeekErr-clause-answers : goal.returns-in-PeekErr-clause-answers
returns-in-PeekErr-clause-answers g c =
    let answers = g.K.NextParser.answers (then_asker c.args.self.now) in
    let some = by_some g.P.Parser g.N.Parser g.K.NextParser.callable g.K.NextParser.answers in
    let laws = g.met.P.Parser.laws _ c.requires.lawful.0 in
    let from = c.in-First.ensures.from in
    let call = then_refuses g.N.Parser g.Input.StreamOnce g.Input.Error.ParseError.observers g.N.PartialState.Default.is_default _ g.P.Parser.valid g.K.NextParser.keeps g.V.Join.joined answers some _ laws refl from.afresh c.take_state.ensures.left c.in-PeekErr.ensures.answers in
    in_mode _ _ _ (then_is_meaning _ g.Input.Error.ParseError.observers g.K.NextParser.keeps g.V.Join.joined answers some g.N.Parser.lawful laws g.met.N.Parser.laws (gives_as (λ a h. h.1) c.requires.lawful.1)) _ _ _ _ from _ _ _ _ _ call

pub ask-value-requires : goal.ask-value-requires
ask-value-requires g c =
    let v = valid_from (answered_starts_valid (KeptOf g.N.Parser.lawful g.N.Parser.meaning (by_some g.P.Parser g.N.Parser g.K.NextParser.callable g.K.NextParser.answers)) g.N.Parser.valid g.met.P.Parser.default_valid) c.in-First.ensures.from c.requires.valid in
    elim c.match-parse_mode.branch [
      | in-CommitOk w ↦ subst (λ p. g.K.NextParser.callable (then_asker c.args.self.now) p.0) (sym w.value-is) ((good_ok _ _ _ _ _ _ c.requires.lawful.1 v w.in-CommitOk.ensures.answers).0)
      | in-PeekOk w ↦ subst (λ p. g.K.NextParser.callable (then_asker c.args.self.now) p.0) (sym w.value-is) ((good_peek_ok _ _ _ _ _ _ c.requires.lawful.1 v w.in-PeekOk.ensures.answers).0)
    ]

pub returns-clause-lawful : goal.returns-clause-lawful
returns-clause-lawful g c = (c.parse_mode.ensures.lawful, gives_same c.parse_mode.ensures.same c.requires.lawful.1)

pub returns-clause-same : goal.returns-clause-same
returns-clause-same g c = then_means_same _ g.Input.Error.ParseError.observers g.K.NextParser.keeps g.V.Join.joined (g.K.NextParser.answers (then_asker c.args.self.now)) (by_some g.P.Parser g.N.Parser g.K.NextParser.callable g.K.NextParser.answers) g.N.Parser.meaning c.parse_mode.ensures.same

pub parse_answered-requires-clause-ready : goal.parse_answered-requires-clause-ready
parse_answered-requires-clause-ready g c =
    let v = valid_from (answered_starts_valid (KeptOf g.N.Parser.lawful g.N.Parser.meaning (by_some g.P.Parser g.N.Parser g.K.NextParser.callable g.K.NextParser.answers)) g.N.Parser.valid g.met.P.Parser.default_valid) c.in-First.ensures.from c.requires.valid in
    let lawful : g.N.Parser.lawful c.ask-value.result.1 = elim c.match-parse_mode.branch [
      | in-CommitOk w ↦ (good_ok _ _ _ _ _ _ c.requires.lawful.1 v w.in-CommitOk.ensures.answers).1 _ (rw w.value-is at c.ask-value.ensures.answers)
      | in-PeekOk w ↦ (good_peek_ok _ _ _ _ _ _ c.requires.lawful.1 v w.in-PeekOk.ensures.answers).1 _ (rw w.value-is at c.ask-value.ensures.answers)
    ] in
    record { lawful = lawful; valid = g.met.N.Parser.default_valid _ c.default.ensures }

pub returns-clause-valid : goal.returns-clause-valid
returns-clause-valid g c =
    let kept = KeptOf g.N.Parser.lawful g.N.Parser.meaning (by_some g.P.Parser g.N.Parser g.K.NextParser.callable g.K.NextParser.answers) in
    let answers = g.K.NextParser.answers (then_asker c.args.self.now) in
    let some = by_some g.P.Parser g.N.Parser g.K.NextParser.callable g.K.NextParser.answers in
    let from = c.in-First.ensures.from in
    let laws = g.met.P.Parser.laws _ c.requires.lawful.0 in
    let v = valid_from (answered_starts_valid kept g.N.Parser.valid g.met.P.Parser.default_valid) from c.requires.valid in
    let may_keep = accepted_kept g.P.Parser g.N.Parser g.K.NextParser.callable g.K.NextParser.answers c.args.self.now.first (then_asker c.args.self.now) c.requires.lawful.0 c.requires.lawful.1 _ v (g.Input.StreamOnce.view c.args.input.now) in
    let committed = committed_at g.N.Parser g.Input.StreamOnce g.Input.Error.ParseError.observers g.N.PartialState.Default.is_default _ g.P.Parser.valid g.K.NextParser.keeps g.V.Join.joined answers some _ laws refl from.afresh in
    let peeked = peeked_at g.N.Parser g.Input.StreamOnce g.Input.Error.ParseError.observers g.N.PartialState.Default.is_default _ g.P.Parser.valid g.K.NextParser.keeps g.V.Join.joined answers some _ laws refl from.afresh in
    let leaves = answered_leaves_valid g.N.Parser g.Input.StreamOnce g.Input.Error.ParseError.observers g.N.PartialState.Default.is_default _ g.P.Parser.valid g.K.NextParser.keeps g.V.Join.joined answers some (g.P.Parser.meaning c.args.self.now.first) g.met.P.Parser.default_valid in
    elim c.match-parse_mode.branch [
      | in-CommitOk w ↦ leaves (may_keep _ true (committed _ w.in-CommitOk.ensures.answers) _ (rw w.value-is at c.ask-value.ensures.answers)) c.parse_answered.ensures
      | in-PeekOk w ↦ leaves (may_keep _ false (peeked _ w.in-PeekOk.ensures.answers) _ (rw w.value-is at c.ask-value.ensures.answers)) c.parse_answered.ensures
    ]

pub returns-clause-answers : goal.returns-clause-answers
returns-clause-answers g c =
    let kept = KeptOf g.N.Parser.lawful g.N.Parser.meaning (by_some g.P.Parser g.N.Parser g.K.NextParser.callable g.K.NextParser.answers) in
    let answers = g.K.NextParser.answers (then_asker c.args.self.now) in
    let some = by_some g.P.Parser g.N.Parser g.K.NextParser.callable g.K.NextParser.answers in
    let from = c.in-First.ensures.from in
    let laws = g.met.P.Parser.laws _ c.requires.lawful.0 in
    let v = valid_from (answered_starts_valid kept g.N.Parser.valid g.met.P.Parser.default_valid) from c.requires.valid in
    let may_keep = accepted_kept g.P.Parser g.N.Parser g.K.NextParser.callable g.K.NextParser.answers c.args.self.now.first (then_asker c.args.self.now) c.requires.lawful.0 c.requires.lawful.1 _ v (g.Input.StreamOnce.view c.args.input.now) in
    let committed = committed_at g.N.Parser g.Input.StreamOnce g.Input.Error.ParseError.observers g.N.PartialState.Default.is_default _ g.P.Parser.valid g.K.NextParser.keeps g.V.Join.joined answers some _ laws refl from.afresh in
    let peeked = peeked_at g.N.Parser g.Input.StreamOnce g.Input.Error.ParseError.observers g.N.PartialState.Default.is_default _ g.P.Parser.valid g.K.NextParser.keeps g.V.Join.joined answers some _ laws refl from.afresh in
    let passes = c.parse_mode.ensures.passes in
    let asked = rw c.ask-value.ensures.kept at c.parse_answered.ensures in
    let whole = in_mode _ _ _ (then_is_meaning _ g.Input.Error.ParseError.observers g.K.NextParser.keeps g.V.Join.joined answers some g.N.Parser.lawful laws g.met.N.Parser.laws (gives_as (λ a h. h.1) c.requires.lawful.1)) _ _ _ _ from _ _ _ _ _ in
    elim c.match-parse_mode.branch [
      | in-CommitOk w ↦
          let answered = rw w.value-is at c.ask-value.ensures.answers in
          let kept = may_keep _ true (committed _ w.in-CommitOk.ensures.answers) _ answered in
          whole (then_commits g.N.Parser g.Input.StreamOnce g.Input.Error.ParseError.observers g.N.PartialState.Default.is_default _ g.P.Parser.valid g.K.NextParser.keeps g.V.Join.joined answers some _ laws refl from.afresh v answered kept (g.met.N.Parser.laws _ kept.is_lawful) c.default.ensures passes.reads passes.resets w.in-CommitOk.ensures.answers (rw w.value-is at asked))
      | in-PeekOk w ↦
          let answered = rw w.value-is at c.ask-value.ensures.answers in
          let kept = may_keep _ false (peeked _ w.in-PeekOk.ensures.answers) _ answered in
          whole (then_peeks g.N.Parser g.Input.StreamOnce g.Input.Error.ParseError.observers g.N.PartialState.Default.is_default _ g.P.Parser.valid g.K.NextParser.keeps g.V.Join.joined answers some _ laws refl from.afresh v answered kept (g.met.N.Parser.laws _ kept.is_lawful) c.default.ensures passes.reads passes.resets w.in-PeekOk.ensures.answers (rw w.value-is at asked))
    ]

pub returns-in-Second-clause-refuses : goal.returns-in-Second-clause-refuses
returns-in-Second-clause-refuses g c =
    let answers = g.K.NextParser.answers (then_asker c.args.self.now) in
    let some = by_some g.P.Parser g.N.Parser g.K.NextParser.callable g.K.NextParser.answers in
    let laws = g.met.P.Parser.laws _ c.requires.lawful.0 in
    let from = c.in-Second.ensures.from in
    reasoned_in_mode (then_is_meaning _ g.Input.Error.ParseError.observers g.K.NextParser.keeps g.V.Join.joined answers some g.N.Parser.lawful laws g.met.N.Parser.laws (gives_as (λ a h. h.1) c.requires.lawful.1)) g.Input.Error.ParseError.observers from (resumed_reasons g.N.Parser g.Input.StreamOnce g.Input.Error.ParseError.observers g.N.PartialState.Default.is_default _ g.K.NextParser.keeps g.V.Join.joined answers some (g.P.Parser.meaning c.args.self.now.first) c.resume_answered.ensures)

pub returns-in-CommitErr-clause-refuses : goal.returns-in-CommitErr-clause-refuses
returns-in-CommitErr-clause-refuses g c =
    let answers = g.K.NextParser.answers (then_asker c.args.self.now) in
    let some = by_some g.P.Parser g.N.Parser g.K.NextParser.callable g.K.NextParser.answers in
    let laws = g.met.P.Parser.laws _ c.requires.lawful.0 in
    let from = c.in-First.ensures.from in
    reasoned_in_mode (then_is_meaning _ g.Input.Error.ParseError.observers g.K.NextParser.keeps g.V.Join.joined answers some g.N.Parser.lawful laws g.met.N.Parser.laws (gives_as (λ a h. h.1) c.requires.lawful.1)) g.Input.Error.ParseError.observers from (then_first_reasons g.N.Parser g.Input.StreamOnce g.Input.Error.ParseError.observers g.N.PartialState.Default.is_default _ g.K.NextParser.keeps g.V.Join.joined answers some (g.P.Parser.meaning c.args.self.now.first) laws from.afresh (first_at_rest g.N.Parser g.Input.StreamOnce g.Input.Error.ParseError.observers g.N.PartialState.Default.is_default _ g.P.Parser.valid g.K.NextParser.keeps g.V.Join.joined answers some _ laws refl from.afresh c.in-CommitErr.ensures.answers) c.in-CommitErr.ensures.refuses)

pub returns-in-PeekErr-clause-refuses : goal.returns-in-PeekErr-clause-refuses
returns-in-PeekErr-clause-refuses g c =
    let answers = g.K.NextParser.answers (then_asker c.args.self.now) in
    let some = by_some g.P.Parser g.N.Parser g.K.NextParser.callable g.K.NextParser.answers in
    let laws = g.met.P.Parser.laws _ c.requires.lawful.0 in
    let from = c.in-First.ensures.from in
    reasoned_in_mode (then_is_meaning _ g.Input.Error.ParseError.observers g.K.NextParser.keeps g.V.Join.joined answers some g.N.Parser.lawful laws g.met.N.Parser.laws (gives_as (λ a h. h.1) c.requires.lawful.1)) g.Input.Error.ParseError.observers from (first_peeked g.N.Parser g.Input.StreamOnce g.Input.Error.ParseError.observers g.N.PartialState.Default.is_default _ g.K.NextParser.keeps g.V.Join.joined answers some (g.P.Parser.meaning c.args.self.now.first) laws from.afresh (first_at_rest g.N.Parser g.Input.StreamOnce g.Input.Error.ParseError.observers g.N.PartialState.Default.is_default _ g.P.Parser.valid g.K.NextParser.keeps g.V.Join.joined answers some _ laws refl from.afresh c.in-PeekErr.ensures.answers) c.in-PeekErr.ensures.refuses)

pub returns-clause-refuses : goal.returns-clause-refuses
returns-clause-refuses g c =
    let answers = g.K.NextParser.answers (then_asker c.args.self.now) in
    let some = by_some g.P.Parser g.N.Parser g.K.NextParser.callable g.K.NextParser.answers in
    let laws = g.met.P.Parser.laws _ c.requires.lawful.0 in
    let from = c.in-First.ensures.from in
    let kept = KeptOf g.N.Parser.lawful g.N.Parser.meaning some in
    let v = valid_from (answered_starts_valid kept g.N.Parser.valid g.met.P.Parser.default_valid) from c.requires.valid in
    let may_keep = accepted_kept g.P.Parser g.N.Parser g.K.NextParser.callable g.K.NextParser.answers c.args.self.now.first (then_asker c.args.self.now) c.requires.lawful.0 c.requires.lawful.1 _ v (g.Input.StreamOnce.view c.args.input.now) in
    let asked = rw c.ask-value.ensures.kept at c.parse_answered.ensures in
    let whole = reasoned_in_mode (then_is_meaning _ g.Input.Error.ParseError.observers g.K.NextParser.keeps g.V.Join.joined answers some g.N.Parser.lawful laws g.met.N.Parser.laws (gives_as (λ a h. h.1) c.requires.lawful.1)) g.Input.Error.ParseError.observers from in
    elim c.match-parse_mode.branch [
      | in-CommitOk w ↦
          let accepted = (first_at_rest g.N.Parser g.Input.StreamOnce g.Input.Error.ParseError.observers g.N.PartialState.Default.is_default _ g.P.Parser.valid g.K.NextParser.keeps g.V.Join.joined answers some _ laws refl from.afresh w.in-CommitOk.ensures.answers).is in
          let answered = rw w.value-is at c.ask-value.ensures.answers in
          let kept = may_keep _ true (accepted.count, accepted.meant) _ answered in
          whole (answered_reasons g.N.Parser g.Input.StreamOnce g.Input.Error.ParseError.observers g.N.PartialState.Default.is_default _ g.K.NextParser.keeps g.V.Join.joined answers some (g.P.Parser.meaning c.args.self.now.first) accepted answered (g.met.N.Parser.laws _ kept.is_lawful) c.default.ensures (rw w.value-is at asked))
      | in-PeekOk w ↦
          let accepted = (first_at_rest g.N.Parser g.Input.StreamOnce g.Input.Error.ParseError.observers g.N.PartialState.Default.is_default _ g.P.Parser.valid g.K.NextParser.keeps g.V.Join.joined answers some _ laws refl from.afresh w.in-PeekOk.ensures.answers).is in
          let answered = rw w.value-is at c.ask-value.ensures.answers in
          let kept = may_keep _ false (accepted.count, accepted.meant) _ answered in
          whole (answered_reasons g.N.Parser g.Input.StreamOnce g.Input.Error.ParseError.observers g.N.PartialState.Default.is_default _ g.K.NextParser.keeps g.V.Join.joined answers some (g.P.Parser.meaning c.args.self.now.first) accepted answered (g.met.N.Parser.laws _ kept.is_lawful) c.default.ensures (rw w.value-is at asked))
    ]
