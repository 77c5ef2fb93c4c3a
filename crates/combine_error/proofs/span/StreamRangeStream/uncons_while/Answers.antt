use Rattle.combine_error.proofs.SpanStreams.{span_passes, span_uncons_while}
use Rattle.combine_error.proofs.span.StreamRangeStream.uncons_while.Goals as goal

pub returns-clause-read : goal.returns-clause-read
returns-clause-read g c = span_uncons_while _ _ _ _ _ _ _ _ _ _ c.uncons_while.ensures.read

pub returns-clause-passes : goal.returns-clause-passes
returns-clause-passes g c = span_passes g.S.StreamOnce.step _ _ _ _ c.uncons_while.ensures.passes
