use Rattle.combine_range.proofs.RangeTests.{fails_slice}
use Rattle.combine_range.proofs.laws.slices_fail.Goals as goal

pub returns : goal.returns
returns g c = λ us. fails_slice _ c.args.wanted us
