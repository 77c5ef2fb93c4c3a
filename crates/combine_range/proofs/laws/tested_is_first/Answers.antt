use Rattle.combine_range.specs.RangeTests.{first_of_tested, nowhere_of_tested}
use Rattle.combine_range.proofs.laws.tested_is_first.Goals as goal

pub returns-clause-first : goal.returns-clause-first
returns-clause-first g c = λ b us k. first_of_tested _ _ _ g.met.Input.RangeStream.filled c.requires b us k

pub returns-clause-none : goal.returns-clause-none
returns-clause-none g c = λ b us. nowhere_of_tested _ _ _ g.met.Input.RangeStream.filled c.requires b us
