-- `sep_by1` is a first element, and then turns under the rule of `many`
use Rattle.std.specs.Prelude.{false}
use Rattle.combine_base.specs.Error.Errors.{Observers}
use Rattle.combine_base.specs.Parser.Meaning.{Meaning}
use Rattle.combine_base.specs.Sequence.Readings.{following}
use Rattle.combine_separated.specs.Pair.{pair}
use Rattle.combine_repeat.specs.Turns.Blocks.{Collecting}
use Rattle.combine_repeat.proofs.OneThenTurns.{own_first_is_one_then_turns}
use Rattle.combine_separated.specs.Elements.{elements, SepBy1IsOneThenTurns}
use Rattle.combine_separated.specs.Separated.{first_element, later_turn, then_element}

pub sep_by1_is_one_then_turns : {P T R E O A V U W : Type 0} (step : P → T → P) (errors : Observers T R P E) (c : Collecting A V) (m : Meaning P T R E A U) (s : Meaning P T R E O W) → SepBy1IsOneThenTurns step errors c m s
sep_by1_is_one_then_turns step errors c m s v o = own_first_is_one_then_turns step (elements c) (following false first_element m.whole) (later_turn then_element (pair step errors s m)).reads v o
