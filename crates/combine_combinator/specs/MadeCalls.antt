-- what a run of a parser that was made promises
use Rattle.std.specs.Prelude.{◌≡◌, ◌⊎◌}
use Rattle.combine_base.specs.Error.Errors.{Observers}
use Rattle.combine_base.specs.Parser.Answer.{Answers, world}
use Rattle.combine_base.specs.Parser.Drivers.{Starts}
use Rattle.combine_base.specs.Parser.DriverAnswers.{NeedsMore}
use Rattle.combine_base.specs.Parser.Meaning.{MeansSame}
use Rattle.combine_base.specs.Parser.Reasons.{Reasoned}
use Rattle.combine_base.specs.Sequence.Parts.{call_from}
use Rattle.combine_base.specs.Stream.Calls.{Passes}
use Rattle.combine_base.specs.declared.error.result.ParseResult.{ParseResult}
use Rattle.combine_base.specs.declared.parser.Parser as parser
use Rattle.combine_base.specs.declared.stream.StreamOnce as stream
use Rattle.combine_combinator.specs.declared.lazy.made.Made.{Made}
use Rattle.combine_combinator.specs.declared.lazy.made.MadeState.{MadeState}
use Rattle.combine_combinator.specs.declared.lazy.made.MadeState.TheVariants.{Unmade, Kept}

-- A parser that was made was run from its state. Its call may change it, not what it means; need of more keeps it as it then is.
module _ {N Input V U Checkpoint T R P E : Type 0} (p : parser.Ghosts N Input U V Checkpoint T R P E) (i : stream.Ghosts Input T R P E) (observers : Observers T R P E) (fresh : U → Type 0) where
  pub record CalledMade (input left : Input) (from : Made N U) (state : MadeState N U) (result : ParseResult V E) : Type 0 where
    pub parser : N
    pub stopped : U
    pub lawful : p.lawful parser
    pub same : MeansSame (p.meaning from.parser) (p.meaning parser)
    pub passes : Passes (i.marks input) (i.marks left) (i.failures input) (i.failures left)
    pub answers : Answers (world i.step observers i.counts_failures fresh) (p.meaning from.parser) (call_from from.state stopped (i.view input) (i.view left) (i.failures input) (i.failures left)) result
    pub leaves : (NeedsMore observers.kind (i.view left).is_open result × (state ≡ Kept (record { parser = parser; state = stopped })) × p.valid stopped) ⊎ ((NeedsMore observers.kind (i.view left).is_open result → ⊥) × (state ≡ Unmade))
    pub refuses : Reasoned observers.kind (i.view left).is_open ((p.meaning from.parser).refuses_from from.state (i.view input) (i.view left)) result

  module _ (returns : Input → N → Input → Type 0) where
    -- The maker was asked for this very stream, which it left in place, and the parser that it answered was run from a default state.
    pub record RunsMade (input left : Input) (state : MadeState N U) (result : ParseResult V E) : Type 0 where
      pub asked : Input
      pub parser : N
      pub begins : U
      pub made : returns input parser asked
      pub view : i.view asked ≡ i.view input
      pub passes : Passes (i.marks input) (i.marks asked) (i.failures input) (i.failures asked)
      pub failures : i.failures asked ≡ i.failures input
      pub is_default : fresh begins
      pub called : CalledMade asked left (record { parser = parser; state = begins }) state result

    -- The answer is one from the start of the parser that the maker answered for this very stream.
    pub record ParsesMade (input left : Input) (result : ParseResult V E) : Type 0 where
      pub asked : Input
      pub parser : N
      pub made : returns input parser asked
      pub answers : Starts (world i.step observers i.counts_failures fresh) (p.meaning parser) (i.view input) (i.view left) (i.failures input) (i.failures left) result
      pub refuses : Reasoned observers.kind (i.view left).is_open ((p.meaning parser).refuses (i.view input) (i.view left)) result
