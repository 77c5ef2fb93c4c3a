use Rattle.std.proofs.Common.{arith, refl}
use Rattle.combine_stream.proofs.BlockWalks.{few}
use Rattle.combine_stream.proofs.TokenWalks.{while_by_range}
use Rattle.combine_base.proofs.Streams.Distances.{slice_takes}
use Rattle.combine_stream.proofs.SliceLengths.{slice_place}
use Rattle.combine_stream.proofs.range.slices.RefSliceRangeStream.uncons_while.Goals as goal

pub split_at-requires : goal.split_at-requires
split_at-requires g c = few _ _ _ c.count_while-n.ensures

pub returns-clause-read : goal.returns-clause-read
returns-clause-read g c =
    let m = few _ _ _ c.count_while-n.ensures in
    while_by_range (λ t. omega arith) c.count_while-n.ensures (record { is = (_, slice_place _ _ m, record { taken = slice_takes _ _ _ m c.split_at.ensures.back; spelled = c.split_at.ensures.front; failures = λ s. refl }) })
