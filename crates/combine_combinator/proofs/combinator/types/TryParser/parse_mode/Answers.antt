use Rattle.std.proofs.Common.{◌≡◌, ap, refl, sym, ◌∙◌}
use Rattle.std.proofs.lemmas.Bool.{false≢true}
use Rattle.combine_base.proofs.Parsers.SameMeanings.{passes_more, same_none}
use Rattle.combine_combinator.specs.Attempt.{attempted, attempted_means_same, refusing}
use Rattle.combine_base.specs.Parser.Answer.{world}
use Rattle.combine_base.specs.Parser.Meaning.{begun_refuses}
use Rattle.combine_combinator.proofs.Attempts.{reaches_tried_part, try_commit_ok, try_peek_ok, try_peeks_back, try_refuses_back, try_faults, try_lost, try_keeps_distance}
use Rattle.combine_base.proofs.Errors.CallReasons.{reasons_accepted}
use Rattle.combine_combinator.proofs.AttemptReasons.{attempt_fails, from_committed, from_peeked, kept_fails, reasons_put_back}
use Rattle.combine_combinator.proofs.combinator.types.TryParser.parse_mode.Goals as goal

pub returns-in-Err-clause-same : goal.returns-in-Err-clause-same
returns-in-Err-clause-same g c = same_none _

pub returns-in-CommitOk-clause-same : goal.returns-in-CommitOk-clause-same
returns-in-CommitOk-clause-same g c = attempted_means_same _ _ _ c.parse_mode.ensures.same

pub returns-in-PeekOk-clause-same : goal.returns-in-PeekOk-clause-same
returns-in-PeekOk-clause-same g c = attempted_means_same _ _ _ c.parse_mode.ensures.same

pub returns-in-PeekErr-clause-same : goal.returns-in-PeekErr-clause-same
returns-in-PeekErr-clause-same g c = attempted_means_same _ _ _ c.parse_mode.ensures.same

pub returns-then-needs_more-clause-same : goal.returns-then-needs_more-clause-same
returns-then-needs_more-clause-same g c = attempted_means_same _ _ _ c.parse_mode.ensures.same

pub returns-then-not-refuses-clause-same : goal.returns-then-not-refuses-clause-same
returns-then-not-refuses-clause-same g c = attempted_means_same _ _ _ c.parse_mode.ensures.same

pub returns-else-not-refuses-clause-same : goal.returns-else-not-refuses-clause-same
returns-else-not-refuses-clause-same g c = attempted_means_same _ _ _ c.parse_mode.ensures.same

pub returns-in-Err-clause-answers : goal.returns-in-Err-clause-answers
returns-in-Err-clause-answers g c =
    let b = c.begin-distance.ensures in
    try_lost _ (g.P.Parser.meaning c.args.self.now.0) _ _ (rw c.is_first.ensures at b.begun) _ _ _ c.lost.ensures c.fault.ensures.error c.in-Err.ensures.over (ap (λ s. s.distance) b.left, c.fault.ensures.fresh)

pub returns-in-CommitOk-clause-answers : goal.returns-in-CommitOk-clause-answers
returns-in-CommitOk-clause-answers g c =
    let z = reaches_tried_part _ _ c.is_first.ensures c.begin-distance.ensures.begun c.begin-distance.ensures.left c.in_default.ensures.over c.in_default.ensures.passes in
    try_commit_ok _ _ _ _ _ _ refl z _ refl refl refl c.in-CommitOk.ensures.answers

pub returns-in-PeekOk-clause-answers : goal.returns-in-PeekOk-clause-answers
returns-in-PeekOk-clause-answers g c =
    let z = reaches_tried_part _ _ c.is_first.ensures c.begin-distance.ensures.begun c.begin-distance.ensures.left c.in_default.ensures.over c.in_default.ensures.passes in
    try_peek_ok _ _ _ _ _ _ refl z _ _ c.accepted_after.ensures refl refl refl c.in-PeekOk.ensures.answers

pub returns-in-PeekErr-clause-answers : goal.returns-in-PeekErr-clause-answers
returns-in-PeekErr-clause-answers g c =
    let z = reaches_tried_part _ _ c.is_first.ensures c.begin-distance.ensures.begun c.begin-distance.ensures.left c.in_default.ensures.over c.in_default.ensures.passes in
    let stands = g.met.Input.ResetStream.lasts _ _ _ _ c.parse_mode.ensures.passes.marks (g.met.Input.ResetStream.lasts _ _ _ _ c.advance_by.ensures.passes.marks c.checkpoint-start.ensures.stands) in
    let p = c.in-PeekErr.ensures in
    try_peeks_back _ _ _ _ _ (record { first = g.M.ParseMode.first c.args.mode; state = c.args.state.now; left = record { distance = c.begin-distance.new.self.distance; part = c.put_back.new.state }; old = g.Input.StreamOnce.view c.args.input.now; new = g.Input.StreamOnce.view c.put_back.new.input; before = g.Input.StreamOnce.failures c.args.input.now; after = g.Input.StreamOnce.failures c.put_back.new.input }) refl z (g.Input.ResetStream.stands c.parse_mode.new.input c.checkpoint-start.result) _ _ p.answers stands c.put_back.ensures.back p.passes.resets refl

pub returns-then-needs_more-clause-answers : goal.returns-then-needs_more-clause-answers
returns-then-needs_more-clause-answers g c =
    let z = reaches_tried_part _ _ c.is_first.ensures c.begin-distance.ensures.begun c.begin-distance.ensures.left c.in_default.ensures.over c.in_default.ensures.passes in
    let stands = g.met.Input.ResetStream.lasts _ _ _ _ c.parse_mode.ensures.passes.marks (g.met.Input.ResetStream.lasts _ _ _ _ c.advance_by.ensures.passes.marks c.checkpoint-start.ensures.stands) in
    let p = c.in-CommitErr.ensures in
    try_keeps_distance _ _ _ _ _ (record { first = g.M.ParseMode.first c.args.mode; state = c.args.state.now; left = c.keep_distance.new.state; old = g.Input.StreamOnce.view c.args.input.now; new = g.Input.StreamOnce.view c.keep_distance.new.input; before = g.Input.StreamOnce.failures c.args.input.now; after = g.Input.StreamOnce.failures c.keep_distance.new.input }) refl z (g.Input.ResetStream.stands c.parse_mode.new.input c.checkpoint-start.result) _ _ (c.needs_more.ensures.0 c.if-needs_more.true) p.answers stands c.keep_distance.ensures.keeps p.passes.resets

pub returns-then-not-refuses-clause-answers : goal.returns-then-not-refuses-clause-answers
returns-then-not-refuses-clause-answers g c =
    let z = reaches_tried_part _ _ c.is_first.ensures c.begin-distance.ensures.begun c.begin-distance.ensures.left c.in_default.ensures.over c.in_default.ensures.passes in
    let k = sym (c.refuses.ensures ∙ ap refusing c.kind.ensures) ∙ c.if-not-refuses.true in
    try_faults _ _ _ _ _ _ refl z _ k c.in-CommitErr.ensures.answers refl refl refl

pub returns-else-not-refuses-clause-answers : goal.returns-else-not-refuses-clause-answers
returns-else-not-refuses-clause-answers g c =
    let z = reaches_tried_part _ _ c.is_first.ensures c.begin-distance.ensures.begun c.begin-distance.ensures.left c.in_default.ensures.over c.in_default.ensures.passes in
    let stands = g.met.Input.ResetStream.lasts _ _ _ _ c.parse_mode.ensures.passes.marks (g.met.Input.ResetStream.lasts _ _ _ _ c.advance_by.ensures.passes.marks c.checkpoint-start.ensures.stands) in
    let p = c.in-CommitErr.ensures in
    let k = sym (c.refuses.ensures ∙ ap refusing c.kind.ensures) ∙ c.if-not-refuses.false in
    let e : c.from-refusal.result.error ≡ c.in-CommitErr.error = rw c.from-refusal.ensures refl in
    try_refuses_back _ _ _ _ _ (record { first = g.M.ParseMode.first c.args.mode; state = c.args.state.now; left = record { distance = c.begin-distance.new.self.distance; part = c.put_back-in-CommitErr.new.state }; old = g.Input.StreamOnce.view c.args.input.now; new = g.Input.StreamOnce.view c.put_back-in-CommitErr.new.input; before = g.Input.StreamOnce.failures c.args.input.now; after = g.Input.StreamOnce.failures c.put_back-in-CommitErr.new.input }) refl z (g.Input.ResetStream.stands c.parse_mode.new.input c.checkpoint-start.result) _ _ _ e k (λ i. false≢true (sym c.if-needs_more.false ∙ c.needs_more.ensures.1 i)) p.answers stands c.put_back-in-CommitErr.ensures.back p.passes.resets refl

pub returns-in-PeekErr-clause-refuses : goal.returns-in-PeekErr-clause-refuses
returns-in-PeekErr-clause-refuses g c =
    let b = c.begin-distance.ensures in
    let m = g.P.Parser.meaning c.args.self.now.0 in
    let first = g.M.ParseMode.first c.args.mode in
    let old = g.Input.StreamOnce.view c.args.input.now in
    let new = g.Input.StreamOnce.view c.put_back.new.input in
    let stands = g.met.Input.ResetStream.lasts _ _ _ _ c.parse_mode.ensures.passes.marks (g.met.Input.ResetStream.lasts _ _ _ _ c.advance_by.ensures.passes.marks c.checkpoint-start.ensures.stands) in
    reasons_put_back _ _ (g.Input.ResetStream.stands c.parse_mode.new.input c.checkpoint-start.result) _ new _ (g.Input.StreamOnce.failures c.put_back.new.input) _ _ _ c.put_back.new.state _ new.is_open (begun_refuses (attempted g.Input.StreamOnce.step m) first c.args.state.now old new) _ c.put_back.ensures.back old stands (from_peeked _ m _ first c.args.state.now _ old _ (g.Input.StreamOnce.view c.parse_mode.new.input) new (rw c.is_first.ensures at b.begun) (ap (λ s. s.part) b.left) c.in_default.ensures.over.is.0 (world g.Input.StreamOnce.step g.Input.Error.ParseError.observers g.Input.StreamOnce.counts_failures g.P.PartialState.Default.is_default) _ _ _ _ c.in-PeekErr.ensures.answers c.in-PeekErr.ensures.refuses)

pub returns-then-needs_more-clause-refuses : goal.returns-then-needs_more-clause-refuses
returns-then-needs_more-clause-refuses g c =
    attempt_fails _ (g.P.Parser.meaning c.args.self.now.0) _ _ _ (kept_fails _ _ _ _ _ _ _ _ _ _ _ _ _ c.keep_distance.ensures.keeps) (returns-then-needs_more-clause-answers g c)

pub returns-else-not-refuses-clause-refuses : goal.returns-else-not-refuses-clause-refuses
returns-else-not-refuses-clause-refuses g c =
    let b = c.begin-distance.ensures in
    let k = sym (c.refuses.ensures ∙ ap refusing c.kind.ensures) ∙ c.if-not-refuses.false in
    let e : c.from-refusal.result.error ≡ c.in-CommitErr.error = rw c.from-refusal.ensures refl in
    let m = g.P.Parser.meaning c.args.self.now.0 in
    let first = g.M.ParseMode.first c.args.mode in
    let old = g.Input.StreamOnce.view c.args.input.now in
    let new = g.Input.StreamOnce.view c.put_back-in-CommitErr.new.input in
    let stands = g.met.Input.ResetStream.lasts _ _ _ _ c.parse_mode.ensures.passes.marks (g.met.Input.ResetStream.lasts _ _ _ _ c.advance_by.ensures.passes.marks c.checkpoint-start.ensures.stands) in
    reasons_put_back _ _ (g.Input.ResetStream.stands c.parse_mode.new.input c.checkpoint-start.result) _ new _ (g.Input.StreamOnce.failures c.put_back-in-CommitErr.new.input) _ _ _ c.put_back-in-CommitErr.new.state _ new.is_open (begun_refuses (attempted g.Input.StreamOnce.step m) first c.args.state.now old new) _ c.put_back-in-CommitErr.ensures.back old stands (from_committed _ m _ first c.args.state.now _ old _ (g.Input.StreamOnce.view c.parse_mode.new.input) new (rw c.is_first.ensures at b.begun) (ap (λ s. s.part) b.left) c.in_default.ensures.over.is.0 (world g.Input.StreamOnce.step g.Input.Error.ParseError.observers g.Input.StreamOnce.counts_failures g.P.PartialState.Default.is_default) _ _ _ _ c.from-refusal.result e k (λ i. false≢true (sym c.if-needs_more.false ∙ c.needs_more.ensures.1 i)) c.in-CommitErr.ensures.answers c.in-CommitErr.ensures.refuses)

pub returns-in-Err-clause-refuses : goal.returns-in-Err-clause-refuses
returns-in-Err-clause-refuses g c =
    let e = c.fault.ensures.error in
    attempt_fails _ (g.P.Parser.meaning c.args.self.now.0) (record { first = g.M.ParseMode.first c.args.mode; state = c.args.state.now; left = record { distance = c.begin-distance.new.self.distance; part = c.fault.new.state }; old = g.Input.StreamOnce.view c.args.input.now; new = g.Input.StreamOnce.view c.advance_by.new.self; before = g.Input.StreamOnce.failures c.args.input.now; after = g.Input.StreamOnce.failures c.advance_by.new.self }) _ _ (e.0, e.1) (returns-in-Err-clause-answers g c)

pub returns-in-CommitOk-clause-refuses : goal.returns-in-CommitOk-clause-refuses
returns-in-CommitOk-clause-refuses g c = λ committed e h. absurd h.is

pub returns-in-PeekOk-clause-refuses : goal.returns-in-PeekOk-clause-refuses
returns-in-PeekOk-clause-refuses g c = reasons_accepted _ _ _ _ _ _ c.accepted_after.ensures

pub returns-then-not-refuses-clause-refuses : goal.returns-then-not-refuses-clause-refuses
returns-then-not-refuses-clause-refuses g c =
    attempt_fails _ (g.P.Parser.meaning c.args.self.now.0) (record { first = g.M.ParseMode.first c.args.mode; state = c.args.state.now; left = record { distance = c.begin-distance.new.self.distance; part = c.parse_mode.new.state }; old = g.Input.StreamOnce.view c.args.input.now; new = g.Input.StreamOnce.view c.parse_mode.new.input; before = g.Input.StreamOnce.failures c.args.input.now; after = g.Input.StreamOnce.failures c.parse_mode.new.input }) _ _ (c.in-CommitErr.error, refl) (returns-then-not-refuses-clause-answers g c)

pub returns-in-CommitOk-clause-passes : goal.returns-in-CommitOk-clause-passes
returns-in-CommitOk-clause-passes g c = passes_more c.advance_by.ensures.passes c.parse_mode.ensures.passes

pub returns-in-PeekOk-clause-passes : goal.returns-in-PeekOk-clause-passes
returns-in-PeekOk-clause-passes g c = passes_more c.advance_by.ensures.passes c.parse_mode.ensures.passes

pub returns-then-not-refuses-clause-passes : goal.returns-then-not-refuses-clause-passes
returns-then-not-refuses-clause-passes g c = passes_more c.advance_by.ensures.passes c.parse_mode.ensures.passes

pub returns-in-PeekErr-clause-passes : goal.returns-in-PeekErr-clause-passes
returns-in-PeekErr-clause-passes g c = passes_more (passes_more c.advance_by.ensures.passes c.parse_mode.ensures.passes) c.put_back.ensures.passes

pub returns-then-needs_more-clause-passes : goal.returns-then-needs_more-clause-passes
returns-then-needs_more-clause-passes g c = passes_more (passes_more c.advance_by.ensures.passes c.parse_mode.ensures.passes) c.keep_distance.ensures.passes

pub returns-else-not-refuses-clause-passes : goal.returns-else-not-refuses-clause-passes
returns-else-not-refuses-clause-passes g c = passes_more (passes_more c.advance_by.ensures.passes c.parse_mode.ensures.passes) c.put_back-in-CommitErr.ensures.passes
