use Rattle.combine_range.proofs.CheckpointRanges.{ahead, read_again, not_back}
use Rattle.combine_range.proofs.kept_distance.range_since.Goals as goal

pub returns-in-Err-clause-hands : goal.returns-in-Err-clause-hands
returns-in-Err-clause-hands g c old n m t = not_back _ _ _ _ _ _ _ _ _ _ t c.in-Err.ensures.to.is

pub returns-clause-hands : goal.returns-clause-hands
returns-clause-hands g c old n m t =
    let b = c.in_default.ensures.to.is in
    read_again _ _ _ g.met.Input.RangeStream.filled _ old _ _ _ _ _ n _ _ t.enough (c.distance-n.ensures old n m (ahead _ n _ _ t)) (b.0 old m) b.1 c.reset.ensures.passes.reads c.reset.ensures.passes.resets c.uncons_range.ensures.read
