use Rattle.std.proofs.Common.{sym, ◌∙◌}
use Rattle.std.proofs.lemmas.Bool.{false≢true}
use Rattle.combine_base.specs.Error.Errors.{AddsNothing}
use Rattle.combine_base.specs.Parser.Meaning.{any_error}
use Rattle.combine_token.proofs.Tokens.Stateless.{stateless_reasons}
use Rattle.example_callers.specs.Nests.{nest}
use Rattle.combine_function.proofs.Again.{again_back, again_err, again_ok, again_peek_err, again_peek_ok, again_stuck}
use Rattle.example_callers.proofs.nest.NestParser.parse_mode.Goals as goal

pub returns-in-CommitOk-clause-answers : goal.returns-in-CommitOk-clause-answers
returns-in-CommitOk-clause-answers g c = again_ok g.Input.StreamOnce.step g.Input.Error.ParseError.observers g.Input.StreamOnce.counts_failures g.Input.StreamOnce.view g.Input.StreamOnce.marks g.Input.StreamOnce.failures _ (nest g.Input.StreamOnce.step c.args.self.now.0) any_error _ _ _ tt c.args.input.now c.brackets.new.input _ c.in-CommitOk.ensures

pub returns-in-PeekOk-clause-answers : goal.returns-in-PeekOk-clause-answers
returns-in-PeekOk-clause-answers g c = again_peek_ok g.Input.StreamOnce.step g.Input.Error.ParseError.observers g.Input.StreamOnce.counts_failures g.Input.StreamOnce.view g.Input.StreamOnce.marks g.Input.StreamOnce.failures _ (nest g.Input.StreamOnce.step c.args.self.now.0) any_error _ _ _ tt c.args.input.now c.brackets.new.input _ c.in-PeekOk.ensures

pub returns-in-PeekErr-clause-answers : goal.returns-in-PeekErr-clause-answers
returns-in-PeekErr-clause-answers g c = again_peek_err g.Input.StreamOnce.step g.Input.Error.ParseError.observers g.Input.StreamOnce.counts_failures g.Input.StreamOnce.view g.Input.StreamOnce.marks g.Input.StreamOnce.failures _ (nest g.Input.StreamOnce.step c.args.self.now.0) any_error _ _ _ tt c.args.input.now c.brackets.new.input _ c.in-PeekErr.ensures

pub returns-else-needs_more-clause-answers : goal.returns-else-needs_more-clause-answers
returns-else-needs_more-clause-answers g c = again_err g.Input.StreamOnce.step g.Input.Error.ParseError.observers g.Input.StreamOnce.counts_failures g.Input.StreamOnce.view g.Input.StreamOnce.marks g.Input.StreamOnce.failures _ (nest g.Input.StreamOnce.step c.args.self.now.0) any_error _ _ _ tt c.args.input.now c.brackets.new.input _ c.in-CommitErr.ensures (λ i. false≢true (sym c.if-needs_more.false ∙ c.needs_more.ensures.1 i))

pub returns-in-Ok-clause-answers : goal.returns-in-Ok-clause-answers
returns-in-Ok-clause-answers g c =
    let stands = g.met.Input.ResetStream.lasts _ _ _ _ c.brackets.ensures.passes.marks c.checkpoint-start.ensures.stands in
    again_back g.Input.StreamOnce.step g.Input.Error.ParseError.observers g.Input.StreamOnce.counts_failures g.Input.StreamOnce.view g.Input.StreamOnce.marks g.Input.StreamOnce.failures _ (nest g.Input.StreamOnce.step c.args.self.now.0) any_error _ _ _ tt c.args.input.now c.brackets.new.input _ c.in-CommitErr.ensures (c.needs_more.ensures.0 c.if-needs_more.true) _ stands _ _ c.in-Ok.ensures.to

pub returns-in-Err-clause-answers : goal.returns-in-Err-clause-answers
returns-in-Err-clause-answers g c =
    let stands = g.met.Input.ResetStream.lasts _ _ _ _ c.brackets.ensures.passes.marks c.checkpoint-start.ensures.stands in
    again_stuck g.Input.StreamOnce.step g.Input.Error.ParseError.observers g.Input.StreamOnce.counts_failures g.Input.StreamOnce.view g.Input.StreamOnce.marks g.Input.StreamOnce.failures _ (nest g.Input.StreamOnce.step c.args.self.now.0) any_error _ _ _ tt c.args.input.now c.brackets.new.input _ c.in-CommitErr.ensures (c.needs_more.ensures.0 c.if-needs_more.true) _ stands _ _ _ c.in-Err.ensures.to _ c.new_error.ensures.kind

pub returns-in-CommitOk-clause-refuses : goal.returns-in-CommitOk-clause-refuses
returns-in-CommitOk-clause-refuses g c = stateless_reasons g.Input.Error.ParseError.observers (nest g.Input.StreamOnce.step c.args.self.now.0) ⊥ (Unit {0}) AddsNothing any_error (g.M.ParseMode.first c.args.mode) c.args.state.now _ _ _ (λ k e x. tt)

pub returns-in-PeekOk-clause-refuses : goal.returns-in-PeekOk-clause-refuses
returns-in-PeekOk-clause-refuses g c = stateless_reasons g.Input.Error.ParseError.observers (nest g.Input.StreamOnce.step c.args.self.now.0) ⊥ (Unit {0}) AddsNothing any_error (g.M.ParseMode.first c.args.mode) c.args.state.now _ _ _ (λ k e x. tt)

pub returns-in-PeekErr-clause-refuses : goal.returns-in-PeekErr-clause-refuses
returns-in-PeekErr-clause-refuses g c = stateless_reasons g.Input.Error.ParseError.observers (nest g.Input.StreamOnce.step c.args.self.now.0) ⊥ (Unit {0}) AddsNothing any_error (g.M.ParseMode.first c.args.mode) c.args.state.now _ _ _ (λ k e x. tt)

pub returns-else-needs_more-clause-refuses : goal.returns-else-needs_more-clause-refuses
returns-else-needs_more-clause-refuses g c = stateless_reasons g.Input.Error.ParseError.observers (nest g.Input.StreamOnce.step c.args.self.now.0) ⊥ (Unit {0}) AddsNothing any_error (g.M.ParseMode.first c.args.mode) c.args.state.now _ _ _ (λ k e x. tt)

pub returns-in-Ok-clause-refuses : goal.returns-in-Ok-clause-refuses
returns-in-Ok-clause-refuses g c = stateless_reasons g.Input.Error.ParseError.observers (nest g.Input.StreamOnce.step c.args.self.now.0) ⊥ (Unit {0}) AddsNothing any_error (g.M.ParseMode.first c.args.mode) c.args.state.now _ _ _ (λ k e x. tt)

pub returns-in-Err-clause-refuses : goal.returns-in-Err-clause-refuses
returns-in-Err-clause-refuses g c = stateless_reasons g.Input.Error.ParseError.observers (nest g.Input.StreamOnce.step c.args.self.now.0) ⊥ (Unit {0}) AddsNothing any_error (g.M.ParseMode.first c.args.mode) c.args.state.now _ _ _ (λ k e x. tt)
