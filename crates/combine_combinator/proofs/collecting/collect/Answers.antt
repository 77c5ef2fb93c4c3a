use Rattle.std.proofs.Common.{◌≡◌, ◌∙◌, ap, arith, refl, sym}
use Rattle.std.proofs.lemmas.Result.{err_from_is_err_and}
use Rattle.combine_base.specs.Stream.View.{View}
use Rattle.combine_base.proofs.Streams.Distances.{takes_one_token}
use Rattle.combine_base.proofs.Parsers.Progress.{takes_more, takes_none}
use Rattle.combine_base.proofs.Parsers.SameMeanings.{passes_more, passes_none}
use Rattle.combine_combinator.proofs.TokenCollection.{collect_starved, collect_stopped, one_more_collected}
use Rattle.combine_combinator.proofs.collecting.collect.Goals as goal

pub tokens-init : goal.tokens-init
tokens-init g c = record { passes = passes_none _ _; taken = takes_none _ _; held = refl; failures = λ s. refl }

pub returns-in_err-token-clause-passes : goal.returns-in_err-token-clause-passes
returns-in_err-token-clause-passes g c = passes_more c.tokens.invariant.passes c.uncons.ensures.passes

pub returns-in_err-token-clause-collects : goal.returns-in_err-token-clause-collects
returns-in_err-token-clause-collects g c h =
    let i = c.tokens.invariant in
    let p = err_from_is_err_and c.from_residual.result c.from_residual.ensures.1 in
    rw (p.1, p.2) (collect_stopped _ _ _ _ _ _ _ _ (g.Input.StreamOnce.view c.uncons.new.self) _ _ (g.Input.StreamOnce.failures c.uncons.new.self) _ i.taken i.passes.reads _ c.tokens-test.true h _ c.in_err-token.ensures.read.is)

pub returns-in-Err-clause-passes : goal.returns-in-Err-clause-passes
returns-in-Err-clause-passes g c = passes_more c.tokens.invariant.passes c.uncons.ensures.passes

pub returns-in-Err-clause-collects : goal.returns-in-Err-clause-collects
returns-in-Err-clause-collects g c h =
    let i = c.tokens.invariant in
    let u = c.in_ok-token.ensures.read.is in
    collect_starved _ _ _ _ _ _ _ _ (g.Input.StreamOnce.view c.uncons.new.self) _ _ _ c.args.count i.taken (record { count = 1; taken = takes_one_token _ _ _ _ _ _ _ u }) c.in-Err.ensures.0

pub tokens-preserved : goal.tokens-preserved
tokens-preserved g c =
    let i = c.tokens.invariant in
    let u = c.in_ok-token.ensures.read.is in
    record {
      passes = passes_more i.passes c.uncons.ensures.passes;
      taken = takes_more _ _ _ _ _ _ i.taken (takes_one_token _ _ _ _ _ _ _ u);
      held = c.in_default.ensures ∙ ap (λ h. g.F.Append.more h c.in_ok-token.token) i.held ∙ one_more_collected g.F.Append.more (g.F.Append.held c.args.into) c.tokens.taken (g.Input.StreamOnce.view c.args.input.now).unread (g.Input.StreamOnce.view c.uncons.new.self).unread c.in_ok-token.token (sym (ap (λ (v : View _ _). v.unread) i.taken.rest) ∙ u.unread);
      failures = λ s. u.failures s ∙ i.failures s;
    }

pub returns-clause-passes : goal.returns-clause-passes
returns-clause-passes g c = c.tokens.invariant.passes

pub returns-clause-collects : goal.returns-clause-collects
returns-clause-collects g c h =
    let i = c.tokens.invariant in
    let e : c.tokens.taken ≡ c.args.count = omega arith in
    record { is = (rw (← e) i.held, rw (← e) i.taken, i.failures) }
