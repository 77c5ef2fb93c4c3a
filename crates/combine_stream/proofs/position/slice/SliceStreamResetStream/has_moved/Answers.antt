use Rattle.combine_stream.proofs.IndexedSlices.{index_moved}
use Rattle.combine_stream.proofs.position.slice.SliceStreamResetStream.has_moved.Goals as goal

pub returns : goal.returns
returns g c n v e t = index_moved c.args.since c.args.self.now v n e t
