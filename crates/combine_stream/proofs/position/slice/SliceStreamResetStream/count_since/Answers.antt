use Rattle.std.proofs.Common.{arith}
use Rattle.combine_stream.proofs.IndexedSlices.{index_ahead}
use Rattle.combine_stream.proofs.position.slice.SliceStreamResetStream.count_since.Goals as goal

pub returns : goal.returns
returns g c n v e t =
    let i = index_ahead c.args.since c.args.self.now v n e t in
    let d = c.saturating_sub.ensures in
    omega arith
