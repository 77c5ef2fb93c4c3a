use Rattle.std.proofs.Common.{◌∙◌}
use Rattle.std.proofs.lemmas.Result.{err_from_is_err_and}
use Rattle.combine_base.proofs.Streams.Distances.{takes_one_token, over_stopped}
use Rattle.combine_base.proofs.Parsers.Progress.{takes_more}
use Rattle.combine_base.proofs.Parsers.SameMeanings.{passes_more}
use Rattle.combine_base.proofs.stream.StreamOnce.advance_by.Goals as goal

pub returns-in_err-uncons-clause-over : goal.returns-in_err-uncons-clause-over
returns-in_err-uncons-clause-over g c =
    let p = err_from_is_err_and c.from_residual.result c.from_residual.ensures.1 in
    rw (p.1, p.2) (over_stopped g.Self.StreamOnce.step g.Self.StreamOnce.counts_failures (g.Self.StreamOnce.view c.args.self.now) (g.Self.StreamOnce.view c.tokens.self) (g.Self.StreamOnce.view c.uncons.new.self) (g.Self.StreamOnce.failures c.args.self.now) (g.Self.StreamOnce.failures c.tokens.self) (g.Self.StreamOnce.failures c.uncons.new.self) c.tokens.passed c.tokens.invariant.taken c.tokens.invariant.passes.reads _ c.tokens-test.true _ c.in_err-uncons.ensures.read.is)

pub tokens-preserved : goal.tokens-preserved
tokens-preserved g c =
    let t = c.in_ok-uncons.ensures.read.is in
    record {
      passes = passes_more c.tokens.invariant.passes c.uncons.ensures.passes;
      taken = takes_more _ _ _ _ _ _ c.tokens.invariant.taken (takes_one_token _ _ _ _ _ _ _ t);
      failures = λ s. t.failures s ∙ c.tokens.invariant.failures s;
    }
