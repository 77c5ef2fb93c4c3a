use Rattle.combine_repeat.proofs.OneThenTurns.{own_first_is_one_then_turns}
use Rattle.combine_repeat.proofs.many.laws.many1_is_once_then_turns.Goals as goal

pub returns : goal.returns
returns g c v o = own_first_is_one_then_turns _ _ _ _ v o
