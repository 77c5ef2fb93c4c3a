use Rattle.std.proofs.Common.{sym, true, ◌∙◌}
use Rattle.std.proofs.lemmas.Bool.{false≢true}
use Rattle.combine_base.specs.declared.stream.Kind.TheVariants as kinds
use Rattle.combine_base.proofs.Errors.CallReasons.{reasons_fault, reasons_need}
use Rattle.combine_function.specs.Functions.{NeedsNoMemory, call_of}
use Rattle.combine_function.proofs.FunctionCalls.{back_open, called_back, called_err, called_ok, called_peek_err, called_peek_ok, called_says, called_says_peeked, called_stuck}
use Rattle.combine_function.proofs.function.types.CalledParser.parse_mode.Goals as goal

pub returns-in-CommitOk-clause-answers : goal.returns-in-CommitOk-clause-answers
returns-in-CommitOk-clause-answers g c =
    let met = rw c.in-CommitOk.is at c.in-Ok.ensures.answers in
    called_ok _ g.Input.Error.ParseError.observers _ _ g.Input.StreamOnce.view (g.C.Call.answers (call_of c.args.self.now)) g.Input.StreamOnce.marks g.Input.StreamOnce.failures (g.C.Call.infallible (call_of c.args.self.now)) c.args.input.now _ _ _ tt c.call.new.input _ met (c.requires.lawful.1.each _ _ _ met)

pub returns-in-PeekOk-clause-answers : goal.returns-in-PeekOk-clause-answers
returns-in-PeekOk-clause-answers g c =
    let met = rw c.in-PeekOk.is at c.in-Ok.ensures.answers in
    called_peek_ok _ g.Input.Error.ParseError.observers _ _ g.Input.StreamOnce.view (g.C.Call.answers (call_of c.args.self.now)) g.Input.StreamOnce.marks g.Input.StreamOnce.failures (g.C.Call.infallible (call_of c.args.self.now)) c.args.input.now _ _ _ tt c.call.new.input _ met (c.requires.lawful.1.each _ _ _ met)

pub returns-in-PeekErr-clause-answers : goal.returns-in-PeekErr-clause-answers
returns-in-PeekErr-clause-answers g c =
    let met = rw c.in-PeekErr.is at c.in-Ok.ensures.answers in
    called_peek_err _ g.Input.Error.ParseError.observers _ _ g.Input.StreamOnce.view (g.C.Call.answers (call_of c.args.self.now)) g.Input.StreamOnce.marks g.Input.StreamOnce.failures (g.C.Call.infallible (call_of c.args.self.now)) c.args.input.now _ _ _ tt c.call.new.input _ met (c.requires.lawful.1.each _ _ _ met)

pub returns-in-PeekErr-clause-refuses : goal.returns-in-PeekErr-clause-refuses
returns-in-PeekErr-clause-refuses g c =
    let met = rw c.in-PeekErr.is at c.in-Ok.ensures.answers in
    called_says_peeked g.Input.StreamOnce.step g.Input.Error.ParseError.observers g.Input.StreamOnce.view (g.C.Call.answers (call_of c.args.self.now)) (g.C.Call.infallible (call_of c.args.self.now) × NeedsNoMemory g.Input.StreamOnce.step g.Input.Error.ParseError.observers.kind g.Input.StreamOnce.view (g.C.Call.answers (call_of c.args.self.now))) _ _ c.args.input.now c.call.new.input _ met

pub returns-else-needs_more-clause-answers : goal.returns-else-needs_more-clause-answers
returns-else-needs_more-clause-answers g c =
    let met = rw c.in-CommitErr.is at c.in-Ok.ensures.answers in
    called_err _ g.Input.Error.ParseError.observers _ _ g.Input.StreamOnce.view (g.C.Call.answers (call_of c.args.self.now)) g.Input.StreamOnce.marks g.Input.StreamOnce.failures (g.C.Call.infallible (call_of c.args.self.now)) c.args.input.now _ _ _ tt c.call.new.input _ met (c.requires.lawful.1.each _ _ _ met) (λ i. false≢true (sym c.if-needs_more.false ∙ c.needs_more.ensures.1 i))

pub returns-else-needs_more-clause-refuses : goal.returns-else-needs_more-clause-refuses
returns-else-needs_more-clause-refuses g c =
    let met = rw c.in-CommitErr.is at c.in-Ok.ensures.answers in
    called_says g.Input.StreamOnce.step g.Input.Error.ParseError.observers g.Input.StreamOnce.view (g.C.Call.answers (call_of c.args.self.now)) (g.C.Call.infallible (call_of c.args.self.now) × NeedsNoMemory g.Input.StreamOnce.step g.Input.Error.ParseError.observers.kind g.Input.StreamOnce.view (g.C.Call.answers (call_of c.args.self.now))) _ _ c.args.input.now c.call.new.input _ met

pub returns-in-Ok-reset-clause-answers : goal.returns-in-Ok-reset-clause-answers
returns-in-Ok-reset-clause-answers g c =
    let met = rw c.in-CommitErr.is at c.in-Ok.ensures.answers in
    let k = c.requires.lawful.1.each _ _ _ met in
    let stands = g.met.Input.ResetStream.lasts _ _ _ _ k.passes.marks c.checkpoint-start.ensures.stands in
    called_back _ g.Input.Error.ParseError.observers _ _ g.Input.StreamOnce.view (g.C.Call.answers (call_of c.args.self.now)) g.Input.StreamOnce.marks g.Input.StreamOnce.failures (g.C.Call.infallible (call_of c.args.self.now)) c.args.input.now _ _ _ tt c.call.new.input _ met k (c.needs_more.ensures.0 c.if-needs_more.true) _ stands _ _ c.in-Ok-reset.ensures.to

pub returns-in-Ok-reset-clause-refuses : goal.returns-in-Ok-reset-clause-refuses
returns-in-Ok-reset-clause-refuses g c =
    let met = rw c.in-CommitErr.is at c.in-Ok.ensures.answers in
    let k = c.requires.lawful.1.each _ _ _ met in
    let stands = g.met.Input.ResetStream.lasts _ _ _ _ k.passes.marks c.checkpoint-start.ensures.stands in
    reasons_need _ _ _ _ (c.needs_more.ensures.0 c.if-needs_more.true).0 (back_open {S = Unit {0}} _ g.Input.Error.ParseError.observers _ (λ x. Unit {0}) g.Input.StreamOnce.view (g.C.Call.answers (call_of c.args.self.now)) g.Input.StreamOnce.marks g.Input.StreamOnce.failures (g.C.Call.infallible (call_of c.args.self.now)) c.args.input.now true tt tt tt c.call.new.input _ met k (c.needs_more.ensures.0 c.if-needs_more.true) _ stands _ _ c.in-Ok-reset.ensures.to)

pub returns-in-Err-clause-answers : goal.returns-in-Err-clause-answers
returns-in-Err-clause-answers g c =
    let met = rw c.in-CommitErr.is at c.in-Ok.ensures.answers in
    let k = c.requires.lawful.1.each _ _ _ met in
    let stands = g.met.Input.ResetStream.lasts _ _ _ _ k.passes.marks c.checkpoint-start.ensures.stands in
    called_stuck _ g.Input.Error.ParseError.observers _ _ g.Input.StreamOnce.view (g.C.Call.answers (call_of c.args.self.now)) g.Input.StreamOnce.marks g.Input.StreamOnce.failures (g.C.Call.infallible (call_of c.args.self.now)) c.args.input.now _ _ _ tt c.call.new.input _ met k (c.needs_more.ensures.0 c.if-needs_more.true) _ stands _ _ _ c.in-Err.ensures.to k.passes.resets _ c.new_error-in-Err.ensures.kind

pub returns-in-Err-clause-refuses : goal.returns-in-Err-clause-refuses
returns-in-Err-clause-refuses g c =
    reasons_fault _ _ _ _ kinds.Reset (c.new_error-in-Err.ensures.kind ∙ c.in-Err.ensures.to.is.0) tt
