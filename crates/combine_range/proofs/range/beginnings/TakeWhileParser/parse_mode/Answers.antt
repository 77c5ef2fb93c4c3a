use Rattle.combine_range.proofs.range.beginnings.TakeWhileParser.parse_mode.Goals as goal

pub returns-clause-answers : goal.returns-clause-answers
returns-clause-answers g c = rw c.is_first.ensures at c.take_beginning.ensures.answers

pub returns-clause-refuses : goal.returns-clause-refuses
returns-clause-refuses g c = rw c.is_first.ensures at c.take_beginning.ensures.refuses
