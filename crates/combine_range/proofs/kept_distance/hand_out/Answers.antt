use Rattle.std.proofs.Common.{arith}
use Rattle.combine_range.proofs.CheckpointRanges.{handed_some, handed_none, not_handed}
use Rattle.combine_range.proofs.kept_distance.hand_out.Goals as goal

pub returns-then-len-gt0-clause-hands : goal.returns-then-len-gt0-clause-hands
returns-then-len-gt0-clause-hands g c old n m t =
    handed_some _ _ _ g.met.Input.RangeStream.filled _ _ g.met.Input.RangeStream.measured _ _ _ _ n _ _ (c.in-Ok.ensures.hands old n m t) (let a = c.len.ensures in omega arith)

pub returns-else-len-gt0-clause-hands : goal.returns-else-len-gt0-clause-hands
returns-else-len-gt0-clause-hands g c old n m t =
    handed_none _ _ _ g.met.Input.RangeStream.filled _ _ g.met.Input.RangeStream.measured _ _ _ _ n _ _ (c.in-Ok.ensures.hands old n m t) (let a = c.len.ensures in omega arith)

pub returns-in-Err-clause-hands : goal.returns-in-Err-clause-hands
returns-in-Err-clause-hands g c old n m t = not_handed _ _ _ _ _ _ _ n _ _ _ c.new_error.ensures.kind (c.in-Err.ensures.hands old n m t)
