use Rattle.std.proofs.Common.{refl, sym, ◌∙◌, true, false}
use Rattle.std.proofs.lemmas.Bool.{false≢true}
use Rattle.combine_base.specs.Parser.Answer.{world}
use Rattle.combine_base.proofs.Errors.CallReasons.{reasons_peek_ok}
use Rattle.combine_combinator.specs.Tables.{looks}
use Rattle.combine_combinator.proofs.TableAnswers.{asks_reasons, back_reasons, table_accepts, table_answers, table_asks_back, table_fails, table_reasons, table_refuses}
use Rattle.combine_combinator.proofs.combinator.look.LookAheadParser.parse_mode.Goals as goal

pub returns-in-CommitOk-clause-answers : goal.returns-in-CommitOk-clause-answers
returns-in-CommitOk-clause-answers g c =
    let w = world g.Input.StreamOnce.step g.Input.Error.ParseError.observers g.Input.StreamOnce.counts_failures g.P.PartialState.Default.is_default in
    let m = g.P.Parser.meaning c.args.self.now.0 in
    let stands = g.met.Input.ResetStream.lasts _ _ _ _ c.parse_lazy.ensures.passes.marks c.checkpoint-start.ensures.stands in
    let a = c.in-CommitOk.ensures.answers in
    table_answers w _ m looks m.adds m.refuses a.state a.left _ _ _ tt _ _ _ _ _ _ _ a.answers.is.taken c.parse_lazy.ensures.passes.resets _ stands _ _ c.put_back.ensures.back (table_accepts w _ m looks m.adds m.refuses a.state a.left _ _ _ tt _ _ _ _ _ _ _ true _ (λ n. refl) a.answers.is)

pub returns-in-PeekOk-clause-answers : goal.returns-in-PeekOk-clause-answers
returns-in-PeekOk-clause-answers g c =
    let w = world g.Input.StreamOnce.step g.Input.Error.ParseError.observers g.Input.StreamOnce.counts_failures g.P.PartialState.Default.is_default in
    let m = g.P.Parser.meaning c.args.self.now.0 in
    let stands = g.met.Input.ResetStream.lasts _ _ _ _ c.parse_lazy.ensures.passes.marks c.checkpoint-start.ensures.stands in
    let a = c.in-PeekOk.ensures.answers in
    table_answers w _ m looks m.adds m.refuses a.state a.left _ _ _ tt _ _ _ _ _ _ _ a.answers.is.taken c.parse_lazy.ensures.passes.resets _ stands _ _ c.put_back-in-PeekOk.ensures.back (table_accepts w _ m looks m.adds m.refuses a.state a.left _ _ _ tt _ _ _ _ _ _ _ false _ (λ n. refl) a.answers.is)

pub returns-then-needs_more-clause-answers : goal.returns-then-needs_more-clause-answers
returns-then-needs_more-clause-answers g c =
    let w = world g.Input.StreamOnce.step g.Input.Error.ParseError.observers g.Input.StreamOnce.counts_failures g.P.PartialState.Default.is_default in
    let m = g.P.Parser.meaning c.args.self.now.0 in
    let stands = g.met.Input.ResetStream.lasts _ _ _ _ c.parse_lazy.ensures.passes.marks c.checkpoint-start.ensures.stands in
    let a = c.in-CommitErr.ensures.answers in
    table_asks_back w _ m looks m.adds m.refuses a.state a.left _ _ _ tt _ _ _ _ _ _ _ refl (c.needs_more.ensures.0 c.if-needs_more.true) a.answers c.parse_lazy.ensures.passes.resets _ stands _ c.put_back-then-needs_more.ensures.back

pub returns-else-needs_more-clause-answers : goal.returns-else-needs_more-clause-answers
returns-else-needs_more-clause-answers g c =
    let w = world g.Input.StreamOnce.step g.Input.Error.ParseError.observers g.Input.StreamOnce.counts_failures g.P.PartialState.Default.is_default in
    let m = g.P.Parser.meaning c.args.self.now.0 in
    let stands = g.met.Input.ResetStream.lasts _ _ _ _ c.parse_lazy.ensures.passes.marks c.checkpoint-start.ensures.stands in
    let a = c.in-CommitErr.ensures.answers in
    table_fails w _ m looks m.adds m.refuses a.state a.left _ _ _ tt _ _ _ _ _ refl (λ i. false≢true (sym c.if-needs_more.false ∙ c.needs_more.ensures.1 i)) a.answers

pub returns-in-PeekErr-clause-answers : goal.returns-in-PeekErr-clause-answers
returns-in-PeekErr-clause-answers g c =
    let w = world g.Input.StreamOnce.step g.Input.Error.ParseError.observers g.Input.StreamOnce.counts_failures g.P.PartialState.Default.is_default in
    let m = g.P.Parser.meaning c.args.self.now.0 in
    let stands = g.met.Input.ResetStream.lasts _ _ _ _ c.parse_lazy.ensures.passes.marks c.checkpoint-start.ensures.stands in
    let a = c.in-PeekErr.ensures.answers in
    table_refuses w _ m looks m.adds m.refuses a.state a.left _ _ _ tt _ _ _ _ _ refl a.answers

pub returns-in-CommitOk-clause-refuses : goal.returns-in-CommitOk-clause-refuses
returns-in-CommitOk-clause-refuses g c =
    let m = g.P.Parser.meaning c.args.self.now.0 in
    let first = g.M.ParseMode.first c.args.mode in
    let old = g.Input.StreamOnce.view c.args.input.now in
    let new = g.Input.StreamOnce.view c.put_back.new.input in
    let stands = g.met.Input.ResetStream.lasts _ _ _ _ c.parse_lazy.ensures.passes.marks c.checkpoint-start.ensures.stands in
    table_reasons m looks m.adds m.refuses first tt old new (back_reasons (m.refuses old new) _ stands c.put_back.ensures.back (λ i. reasons_peek_ok _ _ (m.refuses old new) _))

pub returns-in-PeekOk-clause-refuses : goal.returns-in-PeekOk-clause-refuses
returns-in-PeekOk-clause-refuses g c =
    let m = g.P.Parser.meaning c.args.self.now.0 in
    let first = g.M.ParseMode.first c.args.mode in
    let old = g.Input.StreamOnce.view c.args.input.now in
    let new = g.Input.StreamOnce.view c.put_back-in-PeekOk.new.input in
    let stands = g.met.Input.ResetStream.lasts _ _ _ _ c.parse_lazy.ensures.passes.marks c.checkpoint-start.ensures.stands in
    table_reasons m looks m.adds m.refuses first tt old new (back_reasons (m.refuses old new) _ stands c.put_back-in-PeekOk.ensures.back (λ i. reasons_peek_ok _ _ (m.refuses old new) _))

pub returns-then-needs_more-clause-refuses : goal.returns-then-needs_more-clause-refuses
returns-then-needs_more-clause-refuses g c =
    let w = world g.Input.StreamOnce.step g.Input.Error.ParseError.observers g.Input.StreamOnce.counts_failures g.P.PartialState.Default.is_default in
    let m = g.P.Parser.meaning c.args.self.now.0 in
    let first = g.M.ParseMode.first c.args.mode in
    let old = g.Input.StreamOnce.view c.args.input.now in
    let new = g.Input.StreamOnce.view c.put_back-then-needs_more.new.input in
    let stands = g.met.Input.ResetStream.lasts _ _ _ _ c.parse_lazy.ensures.passes.marks c.checkpoint-start.ensures.stands in
    let a = c.in-CommitErr.ensures.answers in
    table_reasons m looks m.adds m.refuses first tt old new (asks_reasons {w = w} {m = m} (m.refuses old new) (c.needs_more.ensures.0 c.if-needs_more.true) a.answers stands c.put_back-then-needs_more.ensures.back)

pub returns-else-needs_more-clause-refuses : goal.returns-else-needs_more-clause-refuses
returns-else-needs_more-clause-refuses g c =
    let m = g.P.Parser.meaning c.args.self.now.0 in
    let first = g.M.ParseMode.first c.args.mode in
    let old = g.Input.StreamOnce.view c.args.input.now in
    table_reasons m looks m.adds m.refuses first tt old (g.Input.StreamOnce.view c.parse_lazy.new.input) c.in-CommitErr.ensures.refuses

pub returns-in-PeekErr-clause-refuses : goal.returns-in-PeekErr-clause-refuses
returns-in-PeekErr-clause-refuses g c =
    let m = g.P.Parser.meaning c.args.self.now.0 in
    let first = g.M.ParseMode.first c.args.mode in
    let old = g.Input.StreamOnce.view c.args.input.now in
    table_reasons m looks m.adds m.refuses first tt old (g.Input.StreamOnce.view c.parse_lazy.new.input) c.in-PeekErr.ensures.refuses
