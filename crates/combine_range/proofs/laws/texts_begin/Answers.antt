use Rattle.combine_range.proofs.FairTests.{chars_of_begins, begins_of_chars}
use Rattle.combine_range.proofs.laws.texts_begin.Goals as goal

pub returns : goal.returns
returns c = λ cs. (chars_of_begins c.args.wanted c.utf8.wanted cs, begins_of_chars c.args.wanted c.utf8.wanted cs)
