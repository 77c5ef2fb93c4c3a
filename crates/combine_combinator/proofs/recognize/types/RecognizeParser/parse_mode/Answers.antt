use Rattle.std.proofs.Common.{refl}
use Rattle.combine_base.specs.Parser.Answer.{world}
use Rattle.combine_base.proofs.Parsers.CallStarts.{at_rest, in_mode}
use Rattle.combine_combinator.specs.RecognizedTokens.{recognized_collecting_is_meaning}
use Rattle.combine_combinator.proofs.RecognizedAnswers.{error_reasons, part_valid, recognize_asks, recognize_peeks, refusal_reasons}
use Rattle.combine_combinator.proofs.recognize.types.RecognizeParser.parse_mode.Goals as goal

pub returns-in-PeekOk-clause-answers : goal.returns-in-PeekOk-clause-answers
returns-in-PeekOk-clause-answers g c =
    let w = world g.Input.StreamOnce.step g.Input.Error.ParseError.observers g.Input.StreamOnce.counts_failures g.P.PartialState.Default.is_default in
    let m = g.P.Parser.meaning c.args.self.now.parser in
    let laws = g.met.P.Parser.laws _ c.requires.lawful in
    let from = c.take_state-collected.ensures.from in
    let s = c.take_state-collected.result in
    let a = at_rest w _ m laws _ (λ e. (from.afresh e).1) _ c.in-PeekOk.ensures.answers in
    in_mode _ _ _ (recognized_collecting_is_meaning g.F.Append.held g.F.Append.none g.F.Append.more g.F.Append.heapless laws) _ _ _ _ from _ _ _ _ _ (recognize_peeks w g.F.Append.held g.F.Append.none g.F.Append.more g.F.Append.heapless m s c.take_state-collected.new.state _ _ _ _ _ c.take_state-collected.ensures.left c.or_empty-in-PeekOk.result c.or_empty-in-PeekOk.ensures (laws.rest s.part (part_valid g.met.P.Parser.default_valid from c.requires.valid)) _ a)

pub returns-in-Ok-collect_since-clause-answers : goal.returns-in-Ok-collect_since-clause-answers
returns-in-Ok-collect_since-clause-answers g c =
    let w = world g.Input.StreamOnce.step g.Input.Error.ParseError.observers g.Input.StreamOnce.counts_failures g.P.PartialState.Default.is_default in
    let m = g.P.Parser.meaning c.args.self.now.parser in
    let laws = g.met.P.Parser.laws _ c.requires.lawful in
    let from = c.take_state-collected.ensures.from in
    let s = c.take_state-collected.result in
    let a = at_rest w _ m laws _ (λ e. (from.afresh e).1) _ c.in-CommitErr.ensures.answers in
    let stands = g.met.Input.ResetStream.lasts _ _ _ _ c.parse_mode.ensures.passes.marks c.checkpoint-start.ensures.stands in
    let need = c.needs_more.ensures.0 c.if-needs_more.true in
    in_mode _ _ _ (recognized_collecting_is_meaning g.F.Append.held g.F.Append.none g.F.Append.more g.F.Append.heapless laws) _ _ _ _ from _ _ _ _ _ (recognize_asks w g.F.Append.held g.F.Append.none g.F.Append.more g.F.Append.heapless m s _ c.parse_mode.new.state _ _ _ _ c.or_empty-then-needs_more.result c.or_empty-then-needs_more.ensures _ _ c.in-Ok-collect_since.tokens refl _ need a (λ x. c.in-Ok-collect_since.ensures.collects x.count _ stands x.taken))

pub returns-in-CommitErr-clause-refuses : goal.returns-in-CommitErr-clause-refuses
returns-in-CommitErr-clause-refuses g c = error_reasons g.Input.Error.ParseError.observers g.F.Append.held g.F.Append.none g.F.Append.more g.F.Append.heapless (g.met.P.Parser.laws _ c.requires.lawful) c.take_state-collected.ensures.from (g.Input.StreamOnce.view c.args.input.now) (g.Input.StreamOnce.view c.parse_mode.new.input) c.in-CommitErr.ensures.refuses

pub returns-clause-refuses : goal.returns-clause-refuses
returns-clause-refuses g c = refusal_reasons g.Input.Error.ParseError.observers g.F.Append.held g.F.Append.none g.F.Append.more g.F.Append.heapless (g.met.P.Parser.laws _ c.requires.lawful) c.take_state-collected.ensures.from (g.Input.StreamOnce.view c.args.input.now) (g.Input.StreamOnce.view c.parse_mode.new.input) c.in-PeekErr.ensures.refuses
