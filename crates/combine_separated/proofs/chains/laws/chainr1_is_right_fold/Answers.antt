use Rattle.combine_base.proofs.Parsers.SameMeanings.{same_none}
use Rattle.combine_repeat.proofs.OneThenTurns.{own_first_is_one_then_turns}
use Rattle.combine_separated.proofs.chains.laws.chainr1_is_right_fold.Goals as goal

pub returns-clause-same : goal.returns-clause-same
returns-clause-same g c = same_none _

pub returns-clause-turns : goal.returns-clause-turns
returns-clause-turns g c v o = own_first_is_one_then_turns _ _ _ _ v o
