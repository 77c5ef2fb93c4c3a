-- what a call of a parser answers, by its stream before and after
use Rattle.std.specs.Prelude.{Bool, false, MatchResult, Result, Ok, Err}
use Rattle.combine_base.specs.Error.Errors.{Observers}
use Rattle.combine_base.specs.Parser.Answer.{Answers, CallRecord, world}
use Rattle.combine_base.specs.Parser.Drivers.{Results, StartResults}
use Rattle.combine_base.specs.Parser.Meaning.{Meaning}
use Rattle.combine_base.specs.declared.error.result.ParseResult.{ParseResult}
use Rattle.combine_base.specs.declared.stream.StreamOnce as stream

-- a call begun afresh or from a state, with the state and the stream before and after it
abbrev pub call_between : {Input Token Range Position Error State : Type 0} (i : stream.Ghosts Input Token Range Position Error) (first : Bool) (from left : State) (input after : Input) → CallRecord Position Token State
call_between i first from left input after = record { first = first; state = from; left = left; old = i.view input; new = i.view after; before = i.failures input; after = i.failures after }

-- the answer of such a call
abbrev pub AnswersCall : {Input Token Range Position Error Value State : Type 0} (i : stream.Ghosts Input Token Range Position Error) (observers : Observers Token Range Position Error) (fresh : State → Type 0) (m : Meaning Position Token Range Error Value State) (first : Bool) (from left : State) (input after : Input) → ParseResult Value Error → Type 0
AnswersCall i observers fresh m first from left input after result = Answers (world i.step observers i.counts_failures fresh) m (record { first = first; state = from; left = left; old = i.view input; new = i.view after; before = i.failures input; after = i.failures after }) result

-- the answer of a call that goes on, explained, as a result
abbrev pub ResultsCall : {Input Token Range Position Error Value State : Type 0} (i : stream.Ghosts Input Token Range Position Error) (observers : Observers Token Range Position Error) (fresh : State → Type 0) (m : Meaning Position Token Range Error Value State) (from left : State) (input after : Input) → Result Value Error → Type 0
ResultsCall i observers fresh m from left input after result = Results (world i.step observers i.counts_failures fresh) m observers (m.refuses_from from) (record { first = false; state = from; left = left; old = i.view input; new = i.view after; before = i.failures input; after = i.failures after }) result

module _ {Input Token Range Position Own Error Value State : Type 0} (i : stream.Ghosts Input Token Range Position Own) (observers : Observers Token Range Position Error) (fresh : State → Type 0) (m : Meaning Position Token Range Error Value State) (input : Input) where
  -- that of a call from the start
  abbrev pub StartsCall : Input → Result Value Error → Type 0
  StartsCall after result = StartResults (world i.step observers i.counts_failures fresh) m observers (i.view input) (i.view after) (i.failures input) (i.failures after) result

  -- and where the stream is given, and given back with a value
  abbrev pub ParsesCall : Result (Value × Input) Error → Type 0
  ParsesCall result = MatchResult result (λ p. StartsCall p.1 (Ok p.0)) (λ e. (left : Input) × StartsCall left (Err e))
