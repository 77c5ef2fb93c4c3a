use Rattle.std.proofs.Common.{◌≡◌}
use Rattle.combine_error.proofs.SpanStreams.{span_since}
use Rattle.combine_error.proofs.span.StreamResetStream.count_since.Goals as goal

pub returns : goal.returns
returns g c = span_since _ _ _ (λ n. c.count_since.result ≡ n) c.count_since.ensures
