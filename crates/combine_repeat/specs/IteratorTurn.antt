-- what one turn of a call does: it is a block, or the turns end
use Rattle.std.specs.Prelude.{◌<◌, ◌≡◌, Bool, true, false, not}
use Rattle.combine_base.specs.Error.Errors.{Observers}
use Rattle.combine_base.specs.Parser.Meaning.{Meaning, MeansSame}
use Rattle.combine_base.specs.Parser.Answer.{CallRecord, World, Answers, Accepts, Refuses, Leaves, world}
use Rattle.combine_base.specs.Parser.DriverAnswers.{IsRefusal}
use Rattle.combine_base.specs.Refusals.{IsRefusalOrMemory}
use Rattle.combine_base.specs.Stream.Calls.{Passes}
use Rattle.combine_base.specs.Stream.View.{View}
use Rattle.combine_repeat.specs.Turns.Bounds.{RefusesHere, is_block_at}
use Rattle.combine_repeat.specs.Turns.Turn.{started}
use Rattle.combine_repeat.specs.Repeat.Repeated.{no_value_ends}
use Rattle.combine_repeat.specs.declared.bounds.Bounds.TheVariants.{Unbounded}
use Rattle.combine_repeat.specs.declared.bounds.TurnIndex.{TurnIndex}
use Rattle.combine_base.specs.declared.parser.Parser as parser
use Rattle.combine_base.specs.declared.stream.StreamOnce as stream
use Rattle.combine_base.specs.declared.stream.Kind.TheVariants as kinds
use Rattle.combine_base.specs.declared.error.result.ParseResult.TheVariants.{CommitErr}
use Rattle.combine_repeat.specs.declared.iter.IterStep.{IterStep}
use Rattle.combine_repeat.specs.declared.iter.IterStep.TheVariants.{Gives, Over, Fails}

-- The place of a turn: none is asked for, and one that resumes may have taken its tokens from an earlier piece.
abbrev pub iter_turn_place : Bool → TurnIndex
iter_turn_place first = record { number = 0; took_before = not first }

module _ {P T R A S E : Type 0} (w : World P T S E) (m : Meaning P T R E A S) (r : CallRecord P T S) where
  -- the turn is accepted, committed or not, and is a block or takes nothing
  pub record JudgesIterTurn (a : A) (committed goes : Bool) : Type 0 where
    pub accepts : Accepts w m r a committed
    pub says : is_block_at Unbounded (iter_turn_place r.first) accepts.count committed ≡ goes

  -- the turn is refused peeked and put back
  pub record IsIterTurnOver : Type 0 where
    pub refused : Refuses w m r false
    pub view : r.new ≡ r.old

  pub data HasIterTurnFailed (e : E) : Type 0 where
    -- by a committed refusal, need of more, or a fault of the turn
    InTurn : (answers : Answers w m r (CommitErr e)) → HasIterTurnFailed e
    -- the turn is accepted, and takes nothing
    TakesNothing : (a : A) (committed : Bool) (judged : JudgesIterTurn a committed false) (told : IsRefusalOrMemory w.kind w.heapless e) → HasIterTurnFailed e
    -- the stream could not be put back
    Unreset : (reset : w.kind e ≡ kinds.Reset) (counted : r.before.resets < r.after.resets) (leaves : Leaves w r) → HasIterTurnFailed e

  abbrev pub iter_turn_did : IterStep A E → Type 0
  iter_turn_did (Gives a) = JudgesIterTurn a true true
  iter_turn_did Over = IsIterTurnOver
  iter_turn_did (Fails e) = HasIterTurnFailed e

  pub record IterTurnDid (result : IterStep A E) : Type 0 where
    pub is : iter_turn_did result

-- The error of a refusal is that of a turn of `many` that stops the turns there: its parser's, or that it takes nothing.
abbrev pub iter_turn_refuses : {P T R A S E : Type 0} → (P → T → P) → Observers T R P E → Meaning P T R E A S → Bool → S → View P T → View P T → IterStep A E → Type 0
iter_turn_refuses step errors m first from old new (Gives a) = Unit {0}
iter_turn_refuses step errors m first from old new Over = Unit {0}
iter_turn_refuses step errors m first from old new (Fails e) = IsRefusal new.is_open (errors.kind e) → RefusesHere step errors Unbounded no_value_ends (started m first from) (iter_turn_place first) old new true e

module _ {Self Input Output State Checkpoint Token Range Position Error : Type 0} (p : parser.Ghosts Self Input State Output Checkpoint Token Range Position Error) where
  -- what one turn promises, of what was before and after it
  pub record TurnCalled (i : stream.Ghosts Input Token Range Position Error) (observers : Observers Token Range Position Error) (fresh : State → Type 0) (old new : Self) (input left : Input) (first : Bool) (from state : State) (result : IterStep Output Error) : Type 0 where
    pub lawful : p.lawful new
    pub valid : p.valid state
    pub same : MeansSame (p.meaning old) (p.meaning new)
    pub passes : Passes (i.marks input) (i.marks left) (i.failures input) (i.failures left)
    pub turned : IterTurnDid (world i.step observers i.counts_failures fresh) (p.meaning old) (record { first = first; state = from; left = state; old = i.view input; new = i.view left; before = i.failures input; after = i.failures left }) result
    pub refuses : iter_turn_refuses i.step observers (p.meaning old) first from (i.view input) (i.view left) result
