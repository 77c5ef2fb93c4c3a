use Rattle.std.proofs.Common.{refl, arith}
use Rattle.combine_stream.specs.Range.Measures.{ones}
use Rattle.combine_base.proofs.Streams.Distances.{slice_takes}
use Rattle.combine_stream.proofs.SliceLengths.{slice_place}
use Rattle.combine_stream.proofs.range.slices.RefSliceRangeStream.uncons_range.Goals as goal

pub returns-then-n-self-clause-read : goal.returns-then-n-self-clause-read
returns-then-n-self-clause-read g c =
    let e = ones c.args.self.now.now in
    record { is = (omega arith, record { same = refl; failures = λ s. refl }) }

pub returns-clause-read : goal.returns-clause-read
returns-clause-read g c =
    record { is = (c.args.n, slice_place _ _ (omega arith), record { taken = slice_takes _ _ _ (omega arith) c.split_at.ensures.back; spelled = c.split_at.ensures.front; failures = λ s. refl }) }
