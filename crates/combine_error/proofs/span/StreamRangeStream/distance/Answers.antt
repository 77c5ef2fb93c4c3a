use Rattle.combine_error.proofs.SpanStreams.{span_distance}
use Rattle.combine_error.proofs.span.StreamRangeStream.distance.Goals as goal

pub returns : goal.returns
returns g c = span_distance _ _ _ _ _ c.distance.ensures
