-- counted repetitions of one parser, and these beside one another
use Rattle.std.specs.Prelude.{ℕ, ◌≡◌}
use Rattle.combine_base.specs.Error.Errors.{Observers}
use Rattle.combine_base.specs.Parser.Meaning.{Meaning, Reading}
use Rattle.combine_repeat.specs.Turns.Blocks.{Collecting, HoldsCollected}
use Rattle.combine_repeat.specs.declared.bounds.Bounds.TheVariants.{Counted}
use Rattle.combine_repeat.specs.declared.turns.TurnsState.{TurnsState}
use Rattle.combine_repeat.specs.Repeat.Repeated.{dropped, repeated}
use Rattle.combine_base.specs.Stream.View.{View}
use Rattle.combine_base.specs.Parser.Outcome.{Outcome, shape}

module _ {P T R E A V S : Type 0} (step : P → T → P) (errors : Observers T R P E) (c : Collecting A V) where
  -- at least and at most so many turns
  abbrev pub count_min_max : ℕ → ℕ → Meaning P T R E A S → Meaning P T R E V (TurnsState V S)
  count_min_max least most = repeated step errors (Counted least most) c

  -- at most so many
  abbrev pub count : ℕ → Meaning P T R E A S → Meaning P T R E V (TurnsState V S)
  count most = count_min_max 0 most

-- the same, with the values dropped
module _ {P T R E A S : Type 0} (step : P → T → P) (errors : Observers T R P E) where
  abbrev pub skip_count_min_max : ℕ → ℕ → Meaning P T R E A S → Meaning P T R E Unit (TurnsState Unit S)
  skip_count_min_max = count_min_max step errors dropped

  abbrev pub skip_count : ℕ → Meaning P T R E A S → Meaning P T R E Unit (TurnsState Unit S)
  skip_count = count step errors dropped

-- two readings take the same tokens, accepted or refused alike, and the first collects what the second drops
pub record DropsValues {P T A V : Type 0} (c : Collecting A V) (collects : Reading P T V) (drops : Reading P T Unit) : Type 0 where
  pub dropped : (v : View P T) (o : Outcome V) → collects v o → drops v (shape o)
  -- any collection of what was dropped is what the first gives
  pub collected : (v : View P T) (o : Outcome Unit) → drops v o → (h : c.Held) × ((i : Outcome V) → shape i ≡ o → HoldsCollected c i h → collects v i)

module _ {P T R E A V S : Type 0} (step : P → T → P) (errors : Observers T R P E) (c : Collecting A V) (m : Meaning P T R E A S) where
  abbrev pub CountOrSkip : ℕ → ℕ → Type 0
  CountOrSkip least most = DropsValues c (count_min_max step errors c least most m).whole (skip_count_min_max step errors least most m).whole
