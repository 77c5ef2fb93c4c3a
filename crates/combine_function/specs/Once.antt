-- a function that runs parsers once: from what it leaves on need of more nothing goes on
use Rattle.std.specs.Prelude.{◌≡◌, Bool, false}
use Rattle.combine_base.specs.Error.Errors.{Observers, AddsNothing}
use Rattle.combine_base.specs.Parser.Drivers.{Starts}
use Rattle.combine_base.specs.Parser.Meaning.{IsMeaning, IsReading, Meaning, Reading, any_error}
use Rattle.combine_base.specs.Stream.Calls.{Passes}
use Rattle.combine_base.specs.Stream.View.{View}
use Rattle.combine_base.specs.Parser.RunOnce.{once_world, unless_stopped, unless_stopped_is_reading}
use Rattle.combine_base.specs.declared.error.result.ParseResult.{ParseResult}
use Rattle.combine_base.specs.declared.stream.Failures.{Failures}

-- its errors are any
abbrev pub once : {P T R E V : Type 0} → Reading P T V → Meaning P T R E V Bool
once read = record { whole = read; rest = unless_stopped read; lost = λ s v. ⊥; keeps = ⊥; puts_back = ⊥; heapless = Unit {0}; adds = AddsNothing; refuses = any_error; refuses_from = λ s. any_error }

pub once_is_meaning : {P T R E V : Type 0} (read : Reading P T V) → IsReading read → IsMeaning (λ s. s ≡ false) (λ s. Unit {0}) (once {R = R} {E = E} read)
once_is_meaning read h = record {
  whole = h;
  rest = λ s d. unless_stopped_is_reading read h s;
  start = λ s v o d. rw d (λ p. p, λ p. p);
  found = λ s v d p. p;
  reasons = λ s d v w k e. (λ p. p, λ p. p);
}

module _ {I P T R E C : Type 0} (step : P → T → P) (errors : Observers T R P E) (counts_failures : Type 0) (view : I → View P T) (marks : I → C → View P T → Type 0) (failures : I → Failures) where
  -- such a run, and what it answers
  pub record RunsOnce {V : Type 0} (read : Reading P T V) (input left : I) (answer : ParseResult V E) : Type 0 where
    pub passes : Passes (marks input) (marks left) (failures input) (failures left)
    pub answers : Starts (once_world step errors counts_failures) (once {R = R} {E = E} read) (view input) (view left) (failures input) (failures left) answer
