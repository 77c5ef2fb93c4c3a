use Rattle.std.proofs.Common.{sym, ◌∙◌}
use Rattle.std.proofs.lemmas.Bool.{false≢true}
use Rattle.combine_base.specs.Parser.Answer.{world}
use Rattle.combine_base.proofs.Errors.CallReasons.{reasons_need}
use Rattle.combine_char.proofs.RestartCalls.{begins_accepted, begins_peeked, begins_refused, begins_failed, begins_open, begins_put_back, begins_unreset}
use Rattle.combine_char.proofs.pair.begin_again.Goals as goal

pub returns-in-CommitOk-clause-answers : goal.returns-in-CommitOk-clause-answers
returns-in-CommitOk-clause-answers g c =
    let w = world g.Input.StreamOnce.step g.Input.Error.ParseError.observers g.Input.StreamOnce.counts_failures g.P.PartialState.Default.is_default in
    begins_accepted w _ (g.P.Parser.meaning c.args.part.now) _ _ _ _ _ c.in-CommitOk.ensures.answers

pub returns-in-PeekOk-clause-answers : goal.returns-in-PeekOk-clause-answers
returns-in-PeekOk-clause-answers g c =
    let w = world g.Input.StreamOnce.step g.Input.Error.ParseError.observers g.Input.StreamOnce.counts_failures g.P.PartialState.Default.is_default in
    begins_peeked w _ (g.P.Parser.meaning c.args.part.now) _ _ _ _ _ c.in-PeekOk.ensures.answers

pub returns-in-PeekErr-clause-answers : goal.returns-in-PeekErr-clause-answers
returns-in-PeekErr-clause-answers g c =
    let w = world g.Input.StreamOnce.step g.Input.Error.ParseError.observers g.Input.StreamOnce.counts_failures g.P.PartialState.Default.is_default in
    begins_refused w _ (g.P.Parser.meaning c.args.part.now) _ _ _ _ _ c.in-PeekErr.ensures.answers

pub returns-else-needs_more-clause-answers : goal.returns-else-needs_more-clause-answers
returns-else-needs_more-clause-answers g c =
    let w = world g.Input.StreamOnce.step g.Input.Error.ParseError.observers g.Input.StreamOnce.counts_failures g.P.PartialState.Default.is_default in
    begins_failed w _ (g.P.Parser.meaning c.args.part.now) _ _ _ _ _ (λ i. false≢true (sym c.if-needs_more.false ∙ c.needs_more.ensures.1 i)) c.in-CommitErr.ensures.answers

pub returns-in-Ok-clause-answers : goal.returns-in-Ok-clause-answers
returns-in-Ok-clause-answers g c =
    let w = world g.Input.StreamOnce.step g.Input.Error.ParseError.observers g.Input.StreamOnce.counts_failures g.P.PartialState.Default.is_default in
    let stands = g.met.Input.ResetStream.lasts _ _ _ _ c.parse_lazy.ensures.passes.marks c.checkpoint-start.ensures.stands in
    begins_put_back w _ (g.P.Parser.meaning c.args.part.now) _ _ _ _ _ (c.needs_more.ensures.0 c.if-needs_more.true) c.in-CommitErr.ensures.answers _ stands _ _ c.in-Ok.ensures.to

pub returns-in-Ok-clause-refuses : goal.returns-in-Ok-clause-refuses
returns-in-Ok-clause-refuses g c =
    let w = world g.Input.StreamOnce.step g.Input.Error.ParseError.observers g.Input.StreamOnce.counts_failures g.P.PartialState.Default.is_default in
    let stands = g.met.Input.ResetStream.lasts _ _ _ _ c.parse_lazy.ensures.passes.marks c.checkpoint-start.ensures.stands in
    let needs = c.needs_more.ensures.0 c.if-needs_more.true in
    reasons_need _ _ _ _ needs.0 (begins_open w (g.P.PartialState.Default.is_default) (g.P.Parser.meaning c.args.part.now) _ _ _ _ _ needs c.in-CommitErr.ensures.answers _ stands _ _ c.in-Ok.ensures.to)

pub returns-in-Err-clause-answers : goal.returns-in-Err-clause-answers
returns-in-Err-clause-answers g c =
    let w = world g.Input.StreamOnce.step g.Input.Error.ParseError.observers g.Input.StreamOnce.counts_failures g.P.PartialState.Default.is_default in
    let stands = g.met.Input.ResetStream.lasts _ _ _ _ c.parse_lazy.ensures.passes.marks c.checkpoint-start.ensures.stands in
    begins_unreset w _ (g.P.Parser.meaning c.args.part.now) _ _ _ _ _ (c.needs_more.ensures.0 c.if-needs_more.true) c.in-CommitErr.ensures.answers _ stands _ _ _ c.in-Err.ensures.to c.parse_lazy.ensures.passes.resets _ c.new_error.ensures.kind
