use Rattle.std.proofs.Common.{◌≡◌, drop}
use Rattle.combine_stream.proofs.TokenWalks.{PassesTest}
use Rattle.combine_stream.proofs.range.slices.count_each.Given as goal

abbrev pub invariant-loop-token : goal.invariant-loop-token
invariant-loop-token g l = record {
  count : l.n ≡ l.token-index;
  passed : PassesTest (λ t. 1) (g.F.Function.returns l.fn.f) l.fn.tokens (drop l.token-index l.fn.tokens) l.n;
}
