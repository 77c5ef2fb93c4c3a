use Rattle.std.proofs.Common.{length}
use Rattle.combine_stream.proofs.TokenWalks.{PassesTest}
use Rattle.combine_stream.proofs.range.slices.count_while.Given as goal

abbrev pub invariant-walk : goal.invariant-walk
invariant-walk g l = PassesTest (λ t. 1) (g.F.Function.returns l.fn.f) l.fn.tokens l.rest l.n

abbrev pub decreases-walk : goal.decreases-walk
decreases-walk g l = length l.rest
