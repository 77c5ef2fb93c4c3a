use Rattle.combine_combinator.specs.Tables.{same_outcome, table_means_same}
use Rattle.combine_combinator.proofs.combinator.look.NoPartialParser.add_error.Goals as goal

pub returns-clause-same : goal.returns-clause-same
returns-clause-same g c =
    let same = c.add_error.ensures.same in
    table_means_same same_outcome _ _ _ _ same same.adds same.refuses
