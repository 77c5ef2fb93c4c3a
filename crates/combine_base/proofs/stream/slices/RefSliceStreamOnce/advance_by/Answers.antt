use Rattle.std.proofs.Common.{arith, refl}
use Rattle.std.proofs.lemmas.List.{take_rest}
use Rattle.combine_base.proofs.Streams.Distances.{slice_takes}
use Rattle.combine_base.proofs.stream.slices.RefSliceStreamOnce.advance_by.Goals as goal

pub returns-clause-over : goal.returns-clause-over
returns-clause-over g c = record { is = (slice_takes c.args.count _ _ (omega arith) (take_rest c.args.self.now.now c.args.count), λ _. refl) }
