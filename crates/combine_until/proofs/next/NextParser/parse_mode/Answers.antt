use Rattle.combine_until.proofs.next.NextParser.parse_mode.Goals as goal

pub returns-clause-lawful : goal.returns-clause-lawful
returns-clause-lawful g c = c.choose_next.ensures.chose.lawful

pub returns-clause-valid : goal.returns-clause-valid
returns-clause-valid g c = c.choose_next.ensures.chose.valid

pub returns-clause-same : goal.returns-clause-same
returns-clause-same g c = c.choose_next.ensures.chose.same

pub returns-clause-passes : goal.returns-clause-passes
returns-clause-passes g c = c.choose_next.ensures.chose.passes

pub returns-clause-answers : goal.returns-clause-answers
returns-clause-answers g c = c.choose_next.ensures.chose.answers

pub returns-clause-refuses : goal.returns-clause-refuses
returns-clause-refuses g c = c.choose_next.ensures.chose.refuses
