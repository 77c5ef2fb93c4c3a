use Rattle.std.proofs.Common.{refl}
use Rattle.combine_base.proofs.Streams.Distances.{over_as}
use Rattle.combine_stream.proofs.MarkedStreams.{marked_passes, marked_takes}
use Rattle.combine_stream.proofs.partial.MaybePartialStreamStreamOnce.advance_by.Goals as goal

pub returns-clause-over : goal.returns-clause-over
returns-clause-over g c = over_as _ _ _ _ _ _ _ _ _ refl (λ n t. marked_takes _ _ n _ _ t) _ _ c.advance_by.ensures.over

pub returns-clause-passes : goal.returns-clause-passes
returns-clause-passes g c = marked_passes _ _ _ _ _ c.advance_by.ensures.passes
