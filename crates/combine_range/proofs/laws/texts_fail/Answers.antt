use Rattle.combine_range.proofs.RangeTests.{fails_text}
use Rattle.combine_range.proofs.laws.texts_fail.Goals as goal

pub returns : goal.returns
returns c = λ cs. fails_text c.args.wanted c.utf8.wanted cs
