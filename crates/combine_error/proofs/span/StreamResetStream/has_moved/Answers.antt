use Rattle.std.proofs.Common.{◌≡◌, nat_lt}
use Rattle.combine_error.proofs.SpanStreams.{span_since}
use Rattle.combine_error.proofs.span.StreamResetStream.has_moved.Goals as goal

pub returns : goal.returns
returns g c = span_since _ _ _ (λ n. c.has_moved.result ≡ nat_lt 0 n) c.has_moved.ensures
