use Rattle.std.proofs.Common.{true, false, refl, sym, ◌∙◌, ◌+◌, ap}
use Rattle.std.proofs.lemmas.Bool.{false≢true}
use Rattle.combine_base.specs.Stream.View.{View}
use Rattle.combine_base.proofs.Errors.CallErrors.{same_mark}
use Rattle.combine_base.proofs.Parsers.Progress.{takes_more, takes_open}
use Rattle.combine_base.proofs.Errors.Explanations.{reason_peeked}
use Rattle.combine_base.proofs.Errors.CallReasons.{reasons_fault, reasons_hand_on, reasons_need, reasons_peeked}
use Rattle.combine_base.specs.declared.stream.Kind.TheVariants as kinds
use Rattle.combine_range.proofs.RangeReasons.{part_behind, part_inside, reasons_beside, reasons_unpassed}
use Rattle.combine_range.proofs.CheckpointRanges.{ahead}
use Rattle.combine_range.proofs.RecognizedCalls.{reaches_recognized_part, slice_hands, slice_refuses, slice_settles, slice_unreset, slice_asks, slice_unpassed}
use Rattle.combine_range.specs.Range.RecognizedRange.{recognized_means_same}
use Rattle.combine_range.specs.declared.range.recognized.RecognizeState.{RecognizeState}
use Rattle.combine_range.proofs.range.recognized.RecognizeWithValueParser.parse_mode.Goals as goal

pub returns-in-Err-clause-answers : goal.returns-in-Err-clause-answers
returns-in-Err-clause-answers g c =
    slice_unpassed _ _ _ g.Input.Error.ParseError.observers (g.P.Parser.meaning c.args.self.now.0) _ _ (rw c.is_first.ensures at c.begin-distance.ensures.begun) _ _ _ c.in-Err.ensures.over c.not_passed.ensures.answers (ap (λ (s : RecognizeState _). s.distance) c.begin-distance.ensures.left) c.default.ensures

pub returns-in-CommitOk-clause-answers : goal.returns-in-CommitOk-clause-answers
returns-in-CommitOk-clause-answers g c =
    let z = reaches_recognized_part _ _ g.met.Input.RangeStream.filled g.Input.RangeStream.spells g.Input.Error.ParseError.observers (g.P.Parser.meaning c.args.self.now.0) c.is_first.ensures c.begin-distance.ensures.begun c.begin-distance.ensures.left c.in_default.ensures.over c.in_default.ensures.passes in
    let stands = g.met.Input.ResetStream.lasts _ _ _ _ c.parse_mode.ensures.passes.marks (g.met.Input.ResetStream.lasts _ _ _ _ c.pass_items.ensures.passes.marks c.checkpoint-start.ensures.stands) in
    let p = c.in-CommitOk.ensures.answers.is in
    let q = c.parse_mode.ensures.passes in
    rw c.with_value.ensures (slice_hands _ _ g.met.Input.RangeStream.filled _ g.Input.Error.ParseError.observers (g.P.Parser.meaning c.args.self.now.0) _ _ _ _ refl z _ _ p refl _ (c.hand_out.ensures.hands _ (z.count + p.count) stands (takes_more _ _ _ _ _ _ z.taken p.taken)) q.reads q.resets)

pub returns-in-PeekOk-clause-answers : goal.returns-in-PeekOk-clause-answers
returns-in-PeekOk-clause-answers g c =
    let z = reaches_recognized_part _ _ g.met.Input.RangeStream.filled g.Input.RangeStream.spells g.Input.Error.ParseError.observers (g.P.Parser.meaning c.args.self.now.0) c.is_first.ensures c.begin-distance.ensures.begun c.begin-distance.ensures.left c.in_default.ensures.over c.in_default.ensures.passes in
    let stands = g.met.Input.ResetStream.lasts _ _ _ _ c.parse_mode.ensures.passes.marks (g.met.Input.ResetStream.lasts _ _ _ _ c.pass_items.ensures.passes.marks c.checkpoint-start.ensures.stands) in
    let p = c.in-PeekOk.ensures.answers.is in
    let q = c.parse_mode.ensures.passes in
    rw c.with_value-in-PeekOk.ensures (slice_hands _ _ g.met.Input.RangeStream.filled _ g.Input.Error.ParseError.observers (g.P.Parser.meaning c.args.self.now.0) _ _ _ _ refl z _ _ p refl _ (c.hand_out-in-PeekOk.ensures.hands _ (z.count + p.count) stands (takes_more _ _ _ _ _ _ z.taken p.taken)) q.reads q.resets)

pub returns-in-PeekErr-clause-answers : goal.returns-in-PeekErr-clause-answers
returns-in-PeekErr-clause-answers g c =
    let z = reaches_recognized_part _ _ g.met.Input.RangeStream.filled g.Input.RangeStream.spells g.Input.Error.ParseError.observers (g.P.Parser.meaning c.args.self.now.0) c.is_first.ensures c.begin-distance.ensures.begun c.begin-distance.ensures.left c.in_default.ensures.over c.in_default.ensures.passes in
    slice_refuses _ _ g.met.Input.RangeStream.filled _ g.Input.Error.ParseError.observers (g.P.Parser.meaning c.args.self.now.0) _ _ _ _ refl z _ c.in-PeekErr.ensures.answers refl refl refl

pub returns-in-Err-reset-clause-answers : goal.returns-in-Err-reset-clause-answers
returns-in-Err-reset-clause-answers g c =
    let z = reaches_recognized_part _ _ g.met.Input.RangeStream.filled g.Input.RangeStream.spells g.Input.Error.ParseError.observers (g.P.Parser.meaning c.args.self.now.0) c.is_first.ensures c.begin-distance.ensures.begun c.begin-distance.ensures.left c.in_default.ensures.over c.in_default.ensures.passes in
    let q = c.parse_mode.ensures.passes in
    slice_unreset _ _ g.met.Input.RangeStream.filled _ g.Input.Error.ParseError.observers (g.P.Parser.meaning c.args.self.now.0) _ _ _ _ refl z _ (c.needs_more.ensures.0 c.if-needs_more.true) c.in-CommitErr.ensures.answers _ _ c.new_error.ensures.kind c.in-Err-reset.ensures.to.is q.reads q.resets refl c.default-in-Err-reset.ensures

pub returns-then-needs_more-clause-answers : goal.returns-then-needs_more-clause-answers
returns-then-needs_more-clause-answers g c =
    let z = reaches_recognized_part _ _ g.met.Input.RangeStream.filled g.Input.RangeStream.spells g.Input.Error.ParseError.observers (g.P.Parser.meaning c.args.self.now.0) c.is_first.ensures c.begin-distance.ensures.begun c.begin-distance.ensures.left c.in_default.ensures.over c.in_default.ensures.passes in
    let stands = g.met.Input.ResetStream.lasts _ _ _ _ c.parse_mode.ensures.passes.marks (g.met.Input.ResetStream.lasts _ _ _ _ c.pass_items.ensures.passes.marks c.checkpoint-start.ensures.stands) in
    let n = c.in_default-reset.ensures.to.is in
    slice_asks _ _ g.met.Input.RangeStream.filled _ g.Input.Error.ParseError.observers (g.P.Parser.meaning c.args.self.now.0) _ _ _ _ refl z _ (c.needs_more.ensures.0 c.if-needs_more.true) c.in-CommitErr.ensures.answers (n.0 _ stands) n.1 _ (λ k t. c.distance-read.ensures _ k stands (ahead _ _ _ _ t)) refl

pub returns-else-needs_more-clause-answers : goal.returns-else-needs_more-clause-answers
returns-else-needs_more-clause-answers g c =
    let z = reaches_recognized_part _ _ g.met.Input.RangeStream.filled g.Input.RangeStream.spells g.Input.Error.ParseError.observers (g.P.Parser.meaning c.args.self.now.0) c.is_first.ensures c.begin-distance.ensures.begun c.begin-distance.ensures.left c.in_default.ensures.over c.in_default.ensures.passes in
    slice_settles _ _ g.met.Input.RangeStream.filled _ g.Input.Error.ParseError.observers (g.P.Parser.meaning c.args.self.now.0) _ _ _ _ refl z _ (λ i. false≢true (sym c.if-needs_more.false ∙ c.needs_more.ensures.1 i)) c.in-CommitErr.ensures.answers refl refl refl

pub returns-in-Err-reset-clause-same : goal.returns-in-Err-reset-clause-same
returns-in-Err-reset-clause-same g c = recognized_means_same g.Input.Error.ParseError.observers _ _ _ _ _ c.parse_mode.ensures.same

pub returns-then-needs_more-clause-same : goal.returns-then-needs_more-clause-same
returns-then-needs_more-clause-same g c = recognized_means_same g.Input.Error.ParseError.observers _ _ _ _ _ c.parse_mode.ensures.same

pub returns-in-CommitOk-clause-same : goal.returns-in-CommitOk-clause-same
returns-in-CommitOk-clause-same g c = recognized_means_same g.Input.Error.ParseError.observers _ _ _ _ _ c.parse_mode.ensures.same

pub returns-in-PeekOk-clause-same : goal.returns-in-PeekOk-clause-same
returns-in-PeekOk-clause-same g c = recognized_means_same g.Input.Error.ParseError.observers _ _ _ _ _ c.parse_mode.ensures.same

pub returns-in-PeekErr-clause-same : goal.returns-in-PeekErr-clause-same
returns-in-PeekErr-clause-same g c = recognized_means_same g.Input.Error.ParseError.observers _ _ _ _ _ c.parse_mode.ensures.same

pub returns-else-needs_more-clause-same : goal.returns-else-needs_more-clause-same
returns-else-needs_more-clause-same g c = recognized_means_same g.Input.Error.ParseError.observers _ _ _ _ _ c.parse_mode.ensures.same

pub returns-in-CommitOk-clause-refuses : goal.returns-in-CommitOk-clause-refuses
returns-in-CommitOk-clause-refuses g c =
    let o = c.in_default.ensures.over.is in
    let stands = g.met.Input.ResetStream.lasts _ _ _ _ c.parse_mode.ensures.passes.marks (g.met.Input.ResetStream.lasts _ _ _ _ c.pass_items.ensures.passes.marks c.checkpoint-start.ensures.stands) in
    let p = c.in-CommitOk.ensures.answers.is in
    rw c.with_value.ensures (reasons_beside _ _ _ (c.hand_out.ensures.hands _ (o.0 + p.count) stands (takes_more _ _ _ _ _ _ o.2.taken p.taken)))

pub returns-in-PeekOk-clause-refuses : goal.returns-in-PeekOk-clause-refuses
returns-in-PeekOk-clause-refuses g c =
    let o = c.in_default.ensures.over.is in
    let stands = g.met.Input.ResetStream.lasts _ _ _ _ c.parse_mode.ensures.passes.marks (g.met.Input.ResetStream.lasts _ _ _ _ c.pass_items.ensures.passes.marks c.checkpoint-start.ensures.stands) in
    let p = c.in-PeekOk.ensures.answers.is in
    rw c.with_value-in-PeekOk.ensures (reasons_beside _ _ _ (c.hand_out-in-PeekOk.ensures.hands _ (o.0 + p.count) stands (takes_more _ _ _ _ _ _ o.2.taken p.taken)))

pub returns-in-Err-clause-refuses : goal.returns-in-Err-clause-refuses
returns-in-Err-clause-refuses g c =
    let s = g.Input.Error.ParseError.observers in
    reasons_unpassed s _ _ _ _ _ _ _ _ _ _ _ (part_inside s g.Input.RangeStream.size g.Input.RangeStream.spells g.Input.StreamOnce.step (g.P.Parser.meaning c.args.self.now.0) _ (g.M.ParseMode.first c.args.mode) c.args.state.now (rw c.is_first.ensures at c.begin-distance.ensures.begun) (g.Input.StreamOnce.view c.args.input.now) _) _ _ c.in-Err.ensures.over c.not_passed.ensures.answers (rw c.position-position.ensures at c.not_passed.ensures.says)

pub returns-in-PeekErr-clause-refuses : goal.returns-in-PeekErr-clause-refuses
returns-in-PeekErr-clause-refuses g c =
    let o = c.in_default.ensures.over.is in
    let s = g.Input.Error.ParseError.observers in
    reasons_peeked _ _ _ _ (part_behind s g.Input.RangeStream.size g.Input.RangeStream.spells g.Input.StreamOnce.step (g.P.Parser.meaning c.args.self.now.0) _ (g.M.ParseMode.first c.args.mode) c.args.state.now (rw c.is_first.ensures at c.begin-distance.ensures.begun) (g.Input.StreamOnce.view c.args.input.now) (g.Input.StreamOnce.view c.parse_mode.new.input) g.met.Input.RangeStream.filled _ (ap (λ (s : RecognizeState _). s.part) c.begin-distance.ensures.left) _ o.0 o.1 o.2.taken.rest false _ (reason_peeked _ _ _ _ c.in-PeekErr.ensures.refuses))

pub returns-else-needs_more-clause-refuses : goal.returns-else-needs_more-clause-refuses
returns-else-needs_more-clause-refuses g c =
    let o = c.in_default.ensures.over.is in
    let s = g.Input.Error.ParseError.observers in
    reasons_hand_on _ _ _ _ _ (λ x p. part_behind s g.Input.RangeStream.size g.Input.RangeStream.spells g.Input.StreamOnce.step (g.P.Parser.meaning c.args.self.now.0) _ (g.M.ParseMode.first c.args.mode) c.args.state.now (rw c.is_first.ensures at c.begin-distance.ensures.begun) (g.Input.StreamOnce.view c.args.input.now) (g.Input.StreamOnce.view c.parse_mode.new.input) g.met.Input.RangeStream.filled _ (ap (λ (s : RecognizeState _). s.part) c.begin-distance.ensures.left) _ o.0 o.1 o.2.taken.rest true x p) c.in-CommitErr.ensures.refuses

pub returns-in-Err-reset-clause-refuses : goal.returns-in-Err-reset-clause-refuses
returns-in-Err-reset-clause-refuses g c = reasons_fault _ _ _ _ kinds.Reset (c.new_error.ensures.kind ∙ c.in-Err-reset.ensures.to.is.0) tt

pub returns-then-needs_more-clause-refuses : goal.returns-then-needs_more-clause-refuses
returns-then-needs_more-clause-refuses g c =
    let o = c.in_default.ensures.over.is in
    let stands = g.met.Input.ResetStream.lasts _ _ _ _ c.parse_mode.ensures.passes.marks (g.met.Input.ResetStream.lasts _ _ _ _ c.pass_items.ensures.passes.marks c.checkpoint-start.ensures.stands) in
    let q = c.needs_more.ensures.0 c.if-needs_more.true in
    let still = sym (takes_open _ o.0 _ _ o.2.taken) ∙ sym (same_mark _ _ _ _ c.in-CommitErr.ensures.answers) ∙ q.1 in
    reasons_need _ _ _ _ q.0 (ap (λ (v : View _ _). v.is_open) (c.in_default-reset.ensures.to.is.0 _ stands) ∙ still)
