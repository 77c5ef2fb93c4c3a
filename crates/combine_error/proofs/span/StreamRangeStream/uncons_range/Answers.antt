use Rattle.combine_error.proofs.SpanStreams.{span_passes, span_uncons_range}
use Rattle.combine_error.proofs.span.StreamRangeStream.uncons_range.Goals as goal

pub returns-clause-read : goal.returns-clause-read
returns-clause-read g c = span_uncons_range _ _ _ _ _ _ _ _ _ _ c.uncons_range.ensures.read

pub returns-clause-passes : goal.returns-clause-passes
returns-clause-passes g c = span_passes g.S.StreamOnce.step _ _ _ _ c.uncons_range.ensures.passes
