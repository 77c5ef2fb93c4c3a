use Rattle.combine_range.proofs.CheckpointRanges.{ahead, kept_back, not_kept}
use Rattle.combine_range.proofs.kept_distance.keep_distance.Goals as goal

pub returns-in-Ok-clause-keeps : goal.returns-in-Ok-clause-keeps
returns-in-Ok-clause-keeps g c old n m t =
    let b = c.in-Ok.ensures.to.is in
    kept_back _ _ _ _ _ _ _ n _ _ _ _ c.new_error.ensures.kind (b.0 old m, b.1) (c.distance-read.ensures old n m (ahead _ n _ _ t))

pub returns-in-Err-clause-keeps : goal.returns-in-Err-clause-keeps
returns-in-Err-clause-keeps g c old n m t = not_kept _ _ _ _ _ _ _ n _ _ _ _ _ c.new_error-in-Err.ensures.kind t c.in-Err.ensures.to.is
