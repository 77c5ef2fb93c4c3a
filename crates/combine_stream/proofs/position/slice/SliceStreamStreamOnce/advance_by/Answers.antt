use Rattle.std.proofs.Common.{arith, length, length-drop, refl}
use Rattle.combine_stream.proofs.IndexedSlices.{index_takes}
use Rattle.combine_stream.proofs.position.slice.SliceStreamStreamOnce.advance_by.Goals as goal

pub returns-clause-over : goal.returns-clause-over
returns-clause-over g c =
    let s = c.args.self.now in
    let l = length-drop s.at s.tokens.now in
    let within = s.within in
    record { is = (index_takes s c.args.count (omega arith), λ _. refl) }
