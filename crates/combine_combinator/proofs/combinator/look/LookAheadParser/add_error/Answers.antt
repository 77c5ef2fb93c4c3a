use Rattle.combine_combinator.specs.Tables.{looks, table_means_same}
use Rattle.combine_combinator.proofs.combinator.look.LookAheadParser.add_error.Goals as goal

pub returns-clause-same : goal.returns-clause-same
returns-clause-same g c =
    let same = c.add_error.ensures.same in
    table_means_same looks _ _ _ _ same same.adds same.refuses
