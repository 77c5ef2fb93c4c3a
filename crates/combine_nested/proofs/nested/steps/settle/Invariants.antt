use Rattle.std.proofs.Common.{reverse, vec_items, vec_len}
use Rattle.combine_nested.specs.NestedSteps.{FramesChange, settles_frames}
use Rattle.combine_nested.proofs.nested.steps.settle.Given as goal

abbrev pub invariant-frames : goal.invariant-frames
invariant-frames g l = (r : FramesChange g.row.F.Denot g.row.F-Value.Denot) → settles_frames l.depth g.F.Frame.joins (reverse (vec_items l.outer)) l.next r → settles_frames l.fn.depth g.F.Frame.joins (reverse (vec_items l.fn.outer)) l.fn.next r

abbrev pub decreases-frames : goal.decreases-frames
decreases-frames g l = vec_len l.outer
