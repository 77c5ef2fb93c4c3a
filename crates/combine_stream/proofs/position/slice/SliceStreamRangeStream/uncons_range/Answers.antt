use Rattle.std.proofs.Common.{arith, ap, refl, drop, length, take}
use Rattle.combine_stream.specs.Range.Measures.{ones}
use Rattle.combine_stream.proofs.SliceLengths.{slice_place}
use Rattle.combine_stream.proofs.IndexedSlices.{index_takes}
use Rattle.combine_stream.proofs.position.slice.SliceStreamRangeStream.uncons_range.Goals as goal

pub returns-then-n-unread-clause-read : goal.returns-then-n-unread-clause-read
returns-then-n-unread-clause-read g c =
    let e = ones (drop c.args.self.now.at c.args.self.now.tokens.now) in
    let l = ap length c.unread-unread.ensures in
    record { is = (omega arith, record { same = refl; failures = λ s. refl }) }

pub returns-clause-read : goal.returns-clause-read
returns-clause-read g c =
    let l = ap length c.unread-unread.ensures in
    record { is = (c.args.n, slice_place _ _ (omega arith), record { taken = index_takes c.args.self.now c.args.n (omega arith); spelled = ap (take c.args.n) c.unread-unread.ensures; failures = λ s. refl }) }
