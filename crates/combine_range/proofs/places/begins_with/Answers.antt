use Rattle.combine_range.proofs.RangePlaces.{tested_here, tested_stuck}
use Rattle.combine_range.proofs.places.begins_with.Goals as goal

pub returns-in-Ok-reset-clause-tells : goal.returns-in-Ok-reset-clause-tells
returns-in-Ok-reset-clause-tells g c =
    let stands = g.met.Input.ResetStream.lasts _ _ _ _ c.uncons_range.ensures.passes.marks c.checkpoint-here.ensures.stands in
    let n = c.in-Ok-reset.ensures.to.is in
    tested_here _ _ _ _ _ _ _ _ _ _ _ _ c.len.ensures _ _ c.in-Ok.ensures.read c.eq-found.ensures (n.0 _ stands) n.1

pub returns-in-Err-clause-tells : goal.returns-in-Err-clause-tells
returns-in-Err-clause-tells g c =
    tested_stuck _ _ _ _ _ _ _ _ _ _ _ _ c.len.ensures _ _ c.in-Ok.ensures.read c.in-Err.ensures.to.is c.uncons_range.ensures.passes.resets
