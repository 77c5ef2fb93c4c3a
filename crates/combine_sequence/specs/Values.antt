-- one value of a sequence
use Rattle.std.specs.Prelude.{◌≡◌}
use Rattle.combine_base.specs.Error.Errors.{Observers}
use Rattle.combine_base.specs.Parser.ValueMap.{mapped}
use Rattle.combine_base.specs.Parser.Meaning.{Meaning}
use Rattle.combine_base.specs.Sequence.Tuples.{tuple_2, tuple_3}
use Rattle.combine_base.specs.declared.sequence.SequenceState.{SequenceState}
use Rattle.combine_base.specs.declared.sequence.PartialState2.{PartialState2}
use Rattle.combine_base.specs.declared.sequence.states.PartialState3.{PartialState3}

module _ {P T R E A B U V : Type 0} (step : P → T → P) (errors : Observers T R P E) (m : Meaning P T R E A U) (n : Meaning P T R E B V) where
  -- one part and then another, with the value of the first
  abbrev pub first_value : Meaning P T R E A (PartialState2 (SequenceState (Unit {0}) U) (SequenceState (record { 0 : A }) V))
  first_value = mapped (tuple_2 step errors m n) (λ values a. a ≡ values.0)

  -- and with that of the second
  abbrev pub second_value : Meaning P T R E B (PartialState2 (SequenceState (Unit {0}) U) (SequenceState (record { 0 : A }) V))
  second_value = mapped (tuple_2 step errors m n) (λ values b. b ≡ values.1)

-- three parts, with the value of the middle one
abbrev pub middle_value : {P T R E A B C U V W : Type 0} → (P → T → P) → Observers T R P E → Meaning P T R E A U → Meaning P T R E B V → Meaning P T R E C W → Meaning P T R E B (PartialState3 (SequenceState (Unit {0}) U) (SequenceState (record { 0 : A }) V) (SequenceState (A × B) W))
middle_value step errors m n q = mapped (tuple_3 step errors m n q) (λ values b. b ≡ values.1)
