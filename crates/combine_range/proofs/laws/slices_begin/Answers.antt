use Rattle.combine_range.proofs.FairTests.{equal_of_begins, begins_of_equal}
use Rattle.combine_range.proofs.laws.slices_begin.Goals as goal

pub returns : goal.returns
returns g c = λ us. (equal_of_begins _ c.args.wanted us, begins_of_equal _ c.args.wanted us)
