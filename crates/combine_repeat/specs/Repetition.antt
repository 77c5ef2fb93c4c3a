-- repetitions of one parser: turns until one is refused peeked; and repetitions beside one another
use Rattle.std.specs.Prelude.{None, ◌↔◌}
use Rattle.combine_base.specs.Error.Errors.{Observers}
use Rattle.combine_base.specs.Parser.Meaning.{Meaning}
use Rattle.combine_repeat.specs.Repeat.Repeated.{dropped, repeated}
use Rattle.combine_repeat.specs.Turns.Blocks.{Collecting}
use Rattle.combine_repeat.specs.declared.bounds.Bounds.TheVariants.{Unbounded, OwnFirst}
use Rattle.combine_repeat.specs.declared.turns.TurnsState.{TurnsState}
use Rattle.combine_base.specs.Stream.View.{View}
use Rattle.combine_base.specs.Parser.Outcome.{Outcome}
use Rattle.combine_repeat.specs.Repeat.Counts.{DropsValues}
use Rattle.combine_repeat.specs.Repeat.OneThenTurns.{one_then_turns}

module _ {P T R E A V S : Type 0} (step : P → T → P) (errors : Observers T R P E) (c : Collecting A V) where
  -- turns, of which there need be none
  abbrev pub many : Meaning P T R E A S → Meaning P T R E V (TurnsState V S)
  many = repeated step errors Unbounded c

  -- turns, of which the first is asked for
  abbrev pub many1 : Meaning P T R E A S → Meaning P T R E V (TurnsState V S)
  many1 = repeated step errors (OwnFirst 1 None) c

-- the same, with the values dropped
module _ {P T R E A S : Type 0} (step : P → T → P) (errors : Observers T R P E) where
  abbrev pub skip_many : Meaning P T R E A S → Meaning P T R E Unit (TurnsState Unit S)
  skip_many = many step errors dropped

  abbrev pub skip_many1 : Meaning P T R E A S → Meaning P T R E Unit (TurnsState Unit S)
  skip_many1 = many1 step errors dropped

module _ {P T R E A V S : Type 0} (step : P → T → P) (errors : Observers T R P E) (c : Collecting A V) (m : Meaning P T R E A S) where
  -- once, and then turns under the rule of `many`
  abbrev pub OnceThenTurns : Type 0
  OnceThenTurns = (v : View P T) (o : Outcome V) → (many1 step errors c m).whole v o ↔ one_then_turns step c m.whole m.whole v o

  abbrev pub ManyOrSkip : Type 0
  ManyOrSkip = DropsValues c (many step errors c m).whole (skip_many step errors m).whole

  abbrev pub Many1OrSkip : Type 0
  Many1OrSkip = DropsValues c (many1 step errors c m).whole (skip_many1 step errors m).whole
