use Rattle.std.proofs.Common.{refl, sym, ap, ◌∙◌, true, false}
use Rattle.std.proofs.lemmas.Bool.{false≢true}
use Rattle.combine_base.specs.Parser.Answer.{world}
use Rattle.combine_base.specs.Error.Errors.{AddsNothing}
use Rattle.combine_base.proofs.Errors.CallErrors.{peeked_refusal}
use Rattle.combine_base.proofs.Errors.CallReasons.{reasons_peek_ok, reasons_peeked}
use Rattle.combine_combinator.specs.ResetAnswers.{RefusesFollowed}
use Rattle.combine_combinator.specs.Tables.{is_not}
use Rattle.combine_combinator.specs.Attempt.{refusing}
use Rattle.combine_combinator.proofs.TableAnswers.{asks_reasons, back_reasons, committed_refusal, table_answers, table_asks_back, table_denies, table_faults, table_permits, table_reasons}
use Rattle.combine_combinator.proofs.combinator.look.NotFollowedByParser.parse_mode.Goals as goal

pub returns-in-CommitOk-clause-answers : goal.returns-in-CommitOk-clause-answers
returns-in-CommitOk-clause-answers g c =
    let w = world g.Input.StreamOnce.step g.Input.Error.ParseError.observers g.Input.StreamOnce.counts_failures g.P.PartialState.Default.is_default in
    let m = g.P.Parser.meaning c.args.self.now.0 in
    let stands = g.met.Input.ResetStream.lasts _ _ _ _ c.parse_lazy.ensures.passes.marks c.checkpoint-start.ensures.stands in
    let a = c.in-CommitOk.ensures.answers in
    table_answers w _ m is_not AddsNothing (RefusesFollowed g.Input.Error.ParseError.observers) a.state a.left _ _ _ tt _ _ _ _ _ _ _ a.answers.is.taken c.parse_lazy.ensures.passes.resets _ stands _ _ c.put_back.ensures.back (table_denies w _ m is_not AddsNothing (RefusesFollowed g.Input.Error.ParseError.observers) a.state a.left _ _ _ tt _ _ _ _ _ _ _ true _ (λ n. refl) (rw c.from.ensures c.new_error-error.ensures.kind) a.answers.is)

pub returns-in-PeekOk-clause-answers : goal.returns-in-PeekOk-clause-answers
returns-in-PeekOk-clause-answers g c =
    let w = world g.Input.StreamOnce.step g.Input.Error.ParseError.observers g.Input.StreamOnce.counts_failures g.P.PartialState.Default.is_default in
    let m = g.P.Parser.meaning c.args.self.now.0 in
    let stands = g.met.Input.ResetStream.lasts _ _ _ _ c.parse_lazy.ensures.passes.marks c.checkpoint-start.ensures.stands in
    let a = c.in-PeekOk.ensures.answers in
    table_answers w _ m is_not AddsNothing (RefusesFollowed g.Input.Error.ParseError.observers) a.state a.left _ _ _ tt _ _ _ _ _ _ _ a.answers.is.taken c.parse_lazy.ensures.passes.resets _ stands _ _ c.put_back-in-PeekOk.ensures.back (table_denies w _ m is_not AddsNothing (RefusesFollowed g.Input.Error.ParseError.observers) a.state a.left _ _ _ tt _ _ _ _ _ _ _ false _ (λ n. refl) (rw c.from-in-PeekOk.ensures c.new_error-error-in-PeekOk.ensures.kind) a.answers.is)

pub returns-then-needs_more-clause-answers : goal.returns-then-needs_more-clause-answers
returns-then-needs_more-clause-answers g c =
    let w = world g.Input.StreamOnce.step g.Input.Error.ParseError.observers g.Input.StreamOnce.counts_failures g.P.PartialState.Default.is_default in
    let m = g.P.Parser.meaning c.args.self.now.0 in
    let stands = g.met.Input.ResetStream.lasts _ _ _ _ c.parse_lazy.ensures.passes.marks c.checkpoint-start.ensures.stands in
    let a = c.in-CommitErr.ensures.answers in
    table_asks_back w _ m is_not AddsNothing (RefusesFollowed g.Input.Error.ParseError.observers) a.state a.left _ _ _ tt _ _ _ _ _ _ _ refl (c.needs_more.ensures.0 c.if-needs_more.true) a.answers c.parse_lazy.ensures.passes.resets _ stands _ c.put_back-then-needs_more.ensures.back

pub returns-else-not-refuses-clause-answers : goal.returns-else-not-refuses-clause-answers
returns-else-not-refuses-clause-answers g c =
    let w = world g.Input.StreamOnce.step g.Input.Error.ParseError.observers g.Input.StreamOnce.counts_failures g.P.PartialState.Default.is_default in
    let m = g.P.Parser.meaning c.args.self.now.0 in
    let stands = g.met.Input.ResetStream.lasts _ _ _ _ c.parse_lazy.ensures.passes.marks c.checkpoint-start.ensures.stands in
    let a = c.in-CommitErr.ensures.answers in
    let y = committed_refusal w m _ _ (λ i. false≢true (sym c.if-needs_more.false ∙ c.needs_more.ensures.1 i)) (sym (c.refuses.ensures ∙ ap refusing c.kind.ensures) ∙ c.if-not-refuses.false) a.answers in
    table_answers w _ m is_not AddsNothing (RefusesFollowed g.Input.Error.ParseError.observers) a.state a.left _ _ _ tt _ _ _ _ _ _ _ y.leaves.taken c.parse_lazy.ensures.passes.resets _ stands _ _ c.put_back-in-CommitErr.ensures.back (table_permits w _ m is_not AddsNothing (RefusesFollowed g.Input.Error.ParseError.observers) a.state a.left _ _ _ tt _ _ _ _ _ _ true tt refl y)

pub returns-in-PeekErr-clause-answers : goal.returns-in-PeekErr-clause-answers
returns-in-PeekErr-clause-answers g c =
    let w = world g.Input.StreamOnce.step g.Input.Error.ParseError.observers g.Input.StreamOnce.counts_failures g.P.PartialState.Default.is_default in
    let m = g.P.Parser.meaning c.args.self.now.0 in
    let stands = g.met.Input.ResetStream.lasts _ _ _ _ c.parse_lazy.ensures.passes.marks c.checkpoint-start.ensures.stands in
    let a = c.in-PeekErr.ensures.answers in
    let y = peeked_refusal w m _ _ a.answers.is in
    table_answers w _ m is_not AddsNothing (RefusesFollowed g.Input.Error.ParseError.observers) a.state a.left _ _ _ tt _ _ _ _ _ _ _ y.leaves.taken c.parse_lazy.ensures.passes.resets _ stands _ _ c.put_back-in-PeekErr.ensures.back (table_permits w _ m is_not AddsNothing (RefusesFollowed g.Input.Error.ParseError.observers) a.state a.left _ _ _ tt _ _ _ _ _ _ false tt refl y)

pub returns-then-not-refuses-clause-answers : goal.returns-then-not-refuses-clause-answers
returns-then-not-refuses-clause-answers g c =
    let w = world g.Input.StreamOnce.step g.Input.Error.ParseError.observers g.Input.StreamOnce.counts_failures g.P.PartialState.Default.is_default in
    let m = g.P.Parser.meaning c.args.self.now.0 in
    let a = c.in-CommitErr.ensures.answers in
    table_faults w _ m is_not AddsNothing (RefusesFollowed g.Input.Error.ParseError.observers) a.state a.left _ _ _ tt _ _ _ _ _ (sym (c.refuses.ensures ∙ ap refusing c.kind.ensures) ∙ c.if-not-refuses.true) a.answers

pub returns-in-CommitOk-clause-refuses : goal.returns-in-CommitOk-clause-refuses
returns-in-CommitOk-clause-refuses g c =
    let m = g.P.Parser.meaning c.args.self.now.0 in
    let first = g.M.ParseMode.first c.args.mode in
    let old = g.Input.StreamOnce.view c.args.input.now in
    let new = g.Input.StreamOnce.view c.put_back.new.input in
    let stands = g.met.Input.ResetStream.lasts _ _ _ _ c.parse_lazy.ensures.passes.marks c.checkpoint-start.ensures.stands in
    table_reasons m is_not AddsNothing (RefusesFollowed g.Input.Error.ParseError.observers) first tt old new (back_reasons (RefusesFollowed g.Input.Error.ParseError.observers old new) _ stands c.put_back.ensures.back (λ i. reasons_peeked _ _ (RefusesFollowed g.Input.Error.ParseError.observers old new) _ (record { peeked = refl; back = i; new = rw (c.from.ensures, sym c.position-position.ensures) c.new_error-error.ensures })))

pub returns-in-PeekOk-clause-refuses : goal.returns-in-PeekOk-clause-refuses
returns-in-PeekOk-clause-refuses g c =
    let m = g.P.Parser.meaning c.args.self.now.0 in
    let first = g.M.ParseMode.first c.args.mode in
    let old = g.Input.StreamOnce.view c.args.input.now in
    let new = g.Input.StreamOnce.view c.put_back-in-PeekOk.new.input in
    let stands = g.met.Input.ResetStream.lasts _ _ _ _ c.parse_lazy.ensures.passes.marks c.checkpoint-start.ensures.stands in
    table_reasons m is_not AddsNothing (RefusesFollowed g.Input.Error.ParseError.observers) first tt old new (back_reasons (RefusesFollowed g.Input.Error.ParseError.observers old new) _ stands c.put_back-in-PeekOk.ensures.back (λ i. reasons_peeked _ _ (RefusesFollowed g.Input.Error.ParseError.observers old new) _ (record { peeked = refl; back = i; new = rw (c.from-in-PeekOk.ensures, sym c.position-position.ensures) c.new_error-error-in-PeekOk.ensures })))

pub returns-then-needs_more-clause-refuses : goal.returns-then-needs_more-clause-refuses
returns-then-needs_more-clause-refuses g c =
    let w = world g.Input.StreamOnce.step g.Input.Error.ParseError.observers g.Input.StreamOnce.counts_failures g.P.PartialState.Default.is_default in
    let m = g.P.Parser.meaning c.args.self.now.0 in
    let first = g.M.ParseMode.first c.args.mode in
    let old = g.Input.StreamOnce.view c.args.input.now in
    let new = g.Input.StreamOnce.view c.put_back-then-needs_more.new.input in
    let stands = g.met.Input.ResetStream.lasts _ _ _ _ c.parse_lazy.ensures.passes.marks c.checkpoint-start.ensures.stands in
    let a = c.in-CommitErr.ensures.answers in
    table_reasons m is_not AddsNothing (RefusesFollowed g.Input.Error.ParseError.observers) first tt old new (asks_reasons {w = w} {m = m} (RefusesFollowed g.Input.Error.ParseError.observers old new) (c.needs_more.ensures.0 c.if-needs_more.true) a.answers stands c.put_back-then-needs_more.ensures.back)

pub returns-else-not-refuses-clause-refuses : goal.returns-else-not-refuses-clause-refuses
returns-else-not-refuses-clause-refuses g c =
    let m = g.P.Parser.meaning c.args.self.now.0 in
    let first = g.M.ParseMode.first c.args.mode in
    let old = g.Input.StreamOnce.view c.args.input.now in
    let new = g.Input.StreamOnce.view c.put_back-in-CommitErr.new.input in
    let stands = g.met.Input.ResetStream.lasts _ _ _ _ c.parse_lazy.ensures.passes.marks c.checkpoint-start.ensures.stands in
    table_reasons m is_not AddsNothing (RefusesFollowed g.Input.Error.ParseError.observers) first tt old new (back_reasons (RefusesFollowed g.Input.Error.ParseError.observers old new) _ stands c.put_back-in-CommitErr.ensures.back (λ i. reasons_peek_ok _ _ (RefusesFollowed g.Input.Error.ParseError.observers old new) _))

pub returns-in-PeekErr-clause-refuses : goal.returns-in-PeekErr-clause-refuses
returns-in-PeekErr-clause-refuses g c =
    let m = g.P.Parser.meaning c.args.self.now.0 in
    let first = g.M.ParseMode.first c.args.mode in
    let old = g.Input.StreamOnce.view c.args.input.now in
    let new = g.Input.StreamOnce.view c.put_back-in-PeekErr.new.input in
    let stands = g.met.Input.ResetStream.lasts _ _ _ _ c.parse_lazy.ensures.passes.marks c.checkpoint-start.ensures.stands in
    table_reasons m is_not AddsNothing (RefusesFollowed g.Input.Error.ParseError.observers) first tt old new (back_reasons (RefusesFollowed g.Input.Error.ParseError.observers old new) _ stands c.put_back-in-PeekErr.ensures.back (λ i. reasons_peek_ok _ _ (RefusesFollowed g.Input.Error.ParseError.observers old new) _))
