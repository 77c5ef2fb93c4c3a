-- what a call of a parser needs and promises, each as one fact about the records of the parser and of its stream
use Rattle.std.specs.Prelude.{Bool}
use Rattle.combine_base.specs.Parser.Answer.{Answers, world}
use Rattle.combine_base.specs.Error.Errors.{Observers}
use Rattle.combine_base.specs.Parser.Meaning.{MeansSame}
use Rattle.combine_base.specs.Parser.Reasons.{ReasonedCall}
use Rattle.combine_base.specs.Stream.Calls.{Passes}
use Rattle.combine_base.specs.declared.error.result.ParseResult.{ParseResult}
use Rattle.combine_base.specs.declared.parser.Parser as parser
use Rattle.combine_base.specs.declared.stream.StreamOnce as stream

module _ {Self Input Output State Checkpoint Token Range Position Error : Type 0} (p : parser.Ghosts Self Input State Output Checkpoint Token Range Position Error) where
  -- what a call from a state needs
  pub record Ready (self : Self) (state : State) : Type 0 where
    pub lawful : p.lawful self
    pub valid : p.valid state

  -- what a call promises, of what was before and after it
  pub record CallPromises (i : stream.Ghosts Input Token Range Position Error) (observers : Observers Token Range Position Error) (fresh : State → Type 0) (old new : Self) (input left : Input) (first : Bool) (from state : State) (result : ParseResult Output Error) : Type 0 where
    pub lawful : p.lawful new
    pub valid : p.valid state
    pub same : MeansSame (p.meaning old) (p.meaning new)
    pub passes : Passes (i.marks input) (i.marks left) (i.failures input) (i.failures left)
    pub answers : Answers (world i.step observers i.counts_failures fresh) (p.meaning old) (record { first = first; state = from; left = state; old = i.view input; new = i.view left; before = i.failures input; after = i.failures left }) result
    pub refuses : ReasonedCall observers (p.meaning old) first from (i.view input) (i.view left) result
