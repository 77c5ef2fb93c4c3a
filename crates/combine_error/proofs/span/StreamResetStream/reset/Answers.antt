use Rattle.combine_error.proofs.SpanStreams.{span_passes, span_reset}
use Rattle.combine_error.proofs.span.StreamResetStream.reset.Goals as goal

pub returns-clause-to : goal.returns-clause-to
returns-clause-to g c = span_reset _ _ _ _ _ _ _ _ c.reset.ensures.to

pub returns-clause-passes : goal.returns-clause-passes
returns-clause-passes g c = span_passes g.S.StreamOnce.step _ _ _ _ c.reset.ensures.passes
