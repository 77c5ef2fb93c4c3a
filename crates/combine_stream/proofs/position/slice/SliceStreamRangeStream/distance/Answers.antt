use Rattle.std.proofs.Common.{◌∙◌}
use Rattle.combine_stream.proofs.IndexedSlices.{index_apart}
use Rattle.combine_stream.proofs.position.slice.SliceStreamRangeStream.distance.Goals as goal

pub returns : goal.returns
returns g c v k e t = c.saturating_sub.ensures ∙ index_apart c.args.since.now c.args.self.now v k e t
