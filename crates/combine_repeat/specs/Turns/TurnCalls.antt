-- what the calls of the loop say of a turn, and of turns, by the stream before and after them
use Rattle.std.specs.Prelude.{Bool}
use Rattle.combine_base.specs.Stream.View.{View}
use Rattle.combine_base.specs.Error.Errors.{Observers}
use Rattle.combine_base.specs.Parser.Answer.{Answers, CallRecord, world}
use Rattle.combine_base.specs.Parser.AnswersCalls.{AnswersCall, call_between}
use Rattle.combine_base.specs.Parser.Meaning.{Meaning}
use Rattle.combine_base.specs.declared.error.result.ParseResult.{ParseResult}
use Rattle.combine_base.specs.declared.error.result.ParseResult.TheVariants.{PeekErr}
use Rattle.combine_base.specs.declared.error.tracked.Tracked.{Tracked}
use Rattle.combine_base.specs.declared.stream.StreamOnce as stream
use Rattle.combine_repeat.specs.Turns.Bounds.{fresh_turns, turns_from}
use Rattle.combine_repeat.specs.Turns.OneTurn.{TurnDid, CallEndedAt, turns_halted, then_left}
use Rattle.combine_repeat.specs.Turns.Turn.{Start}
use Rattle.combine_repeat.specs.Turns.Blocks.{Collecting, TurnsSoFar}
use Rattle.combine_repeat.specs.declared.bounds.Bounds.{Bounds}
use Rattle.combine_repeat.specs.declared.bounds.TurnIndex.{TurnIndex}
use Rattle.combine_repeat.specs.declared.turns.TurnStep.{TurnStep}
use Rattle.combine_repeat.specs.declared.turns.TurnStop.{TurnStop}
use Rattle.combine_repeat.specs.declared.turns.TurnProgress.{TurnProgress}
use Rattle.combine_repeat.specs.declared.turns.TurnsState.{TurnsState}

module _ {Input P T R A V S E : Type 0} (i : stream.Ghosts Input T R P E) (observers : Observers T R P E) (fresh : S → Type 0) where
  -- a turn that is refused peeked, whatever was known of its call when it answered
  abbrev pub HaltsCall : Bounds → (A → Bool) → Collecting A V → Meaning P T R E A S → (View P T → Type 0) → (input after : Input) → Tracked E → TurnProgress V → TurnStop V E → Type 0
  HaltsCall b ending c m stands input after refusal turns result = (r : CallRecord P T S) → CallEndedAt stands (i.view input) (i.failures input) r → Answers (world i.step observers i.counts_failures fresh) m r (PeekErr refusal) → turns_halted (world i.step observers i.counts_failures fresh) b ending c m (then_left r (i.view after) (i.failures after)) turns result

  -- one turn
  abbrev pub OneTurnCall : Bounds → (A → Bool) → Collecting A V → Meaning P T R E A S → Bool → (from left : S) → (input after : Input) → TurnProgress V → TurnStep V E → Type 0
  OneTurnCall b ending c m first from left input after turns result = TurnDid (world i.step observers i.counts_failures fresh) b ending c m (call_between i first from left input after) turns result

  -- all of them
  abbrev pub TurnsCall : Bounds → (A → Bool) → (c : Collecting A V) → TurnsSoFar TurnIndex c.Held → Meaning P T R E A S → Start P T E A → Bool → (from left : TurnsState V S) → (input after : Input) → ParseResult V E → Type 0
  TurnsCall b ending c start m again first from left input after result = AnswersCall i observers (fresh_turns fresh) (turns_from i.step observers b ending c start m again) first from left input after result
