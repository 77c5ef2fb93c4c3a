use Rattle.std.proofs.Common.{refl}
use Rattle.combine_base.proofs.Streams.Distances.{over_as}
use Rattle.combine_error.proofs.SpanStreams.{span_passes, span_takes}
use Rattle.combine_error.proofs.span.StreamStreamOnce.advance_by.Goals as goal

pub returns-clause-over : goal.returns-clause-over
returns-clause-over g c = over_as _ g.S.StreamOnce.step _ _ _ _ _ _ _ refl (λ n t. span_takes g.S.StreamOnce.step n _ _ t) _ _ c.advance_by.ensures.over

pub returns-clause-passes : goal.returns-clause-passes
returns-clause-passes g c = span_passes g.S.StreamOnce.step _ _ _ _ c.advance_by.ensures.passes
