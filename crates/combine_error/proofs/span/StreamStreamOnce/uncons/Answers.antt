use Rattle.combine_error.proofs.SpanStreams.{span_passes, span_uncons}
use Rattle.combine_error.proofs.span.StreamStreamOnce.uncons.Goals as goal

pub returns-clause-read : goal.returns-clause-read
returns-clause-read g c = span_uncons _ _ _ _ _ _ _ c.uncons.ensures.read

pub returns-clause-passes : goal.returns-clause-passes
returns-clause-passes g c = span_passes g.S.StreamOnce.step _ _ _ _ c.uncons.ensures.passes
