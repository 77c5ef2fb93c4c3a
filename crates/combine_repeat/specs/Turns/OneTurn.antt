-- what one turn of a call does: it is a block and the next one runs, or it is said why none does
use Rattle.std.specs.Prelude.{ℕ, ◌<◌, ◌≤◌, ◌≡◌, Bool, true, false, ◌||◌}
use Rattle.combine_base.specs.Stream.View.{View, Takes}
use Rattle.combine_base.specs.Parser.Meaning.{Meaning}
use Rattle.combine_base.specs.Parser.Answer.{CallRecord, World, Answers, Accepts, Refuses, Leaves}
use Rattle.combine_base.specs.Sequence.Parts.{accepted_as, refused_as}
use Rattle.combine_base.specs.Refusals.{IsRefusalOrMemory}
use Rattle.combine_repeat.specs.Turns.Blocks.{Collecting}
use Rattle.combine_repeat.specs.Turns.Bounds.{is_enough, is_block_at, cut_at, turn_after, so_far}
use Rattle.combine_base.specs.declared.stream.Failures.{Failures}
use Rattle.combine_base.specs.declared.stream.Kind.TheVariants as kinds
use Rattle.combine_base.specs.declared.error.tracked.Tracked.{Tracked}
use Rattle.combine_base.specs.declared.error.result.ParseResult.{ParseResult}
use Rattle.combine_base.specs.declared.error.result.ParseResult.TheVariants.{CommitErr, PeekErr}
use Rattle.combine_repeat.specs.declared.bounds.Bounds.{Bounds}
use Rattle.combine_repeat.specs.declared.bounds.TurnIndex.{TurnIndex}
use Rattle.combine_repeat.specs.declared.turns.TurnStep.{TurnStep}
use Rattle.combine_repeat.specs.declared.turns.TurnStep.TheVariants as steps
use Rattle.combine_repeat.specs.declared.turns.TurnStop.{TurnStop}
use Rattle.combine_repeat.specs.declared.turns.TurnStop.TheVariants.{Over, Refused, More, Failed}
use Rattle.combine_repeat.specs.declared.turns.TurnProgress.{TurnProgress}
use Rattle.combine_repeat.specs.declared.turns.TurnsState.{TurnsState}
use Rattle.combine_repeat.specs.declared.turns.Earlier.TheVariants as earlier

module _ {P T R A S E : Type 0} (w : World P T S E) (b : Bounds) (ending : A → Bool) (m : Meaning P T R E A S) (r : CallRecord P T S) (index : TurnIndex) where
  -- the turn is accepted with that value, committed or not, which doesn't end the turns, and that answer says whether it is a block
  pub record JudgesTurn (x : A × Bool) (goes : Bool) : Type 0 where
    pub accepts : Accepts w m r x.0 x.1
    pub on : ending x.0 ≡ false
    pub says : goes ≡ is_block_at b index accepts.count x.1

module _ {P T R A V S E : Type 0} (w : World P T S E) (b : Bounds) (ending : A → Bool) (c : Collecting A V) (m : Meaning P T R E A S) (r : CallRecord P T S) (old : TurnProgress V) where
  -- the turn is a block, and the next one runs
  pub record IsTurnBlock (new : TurnProgress V) : Type 0 where
    pub turn : A × Bool
    pub judged : JudgesTurn w b ending m r old.index turn true
    pub held : c.Held
    pub more : c.more (c.held old.into) turn.0 held
    pub turns : so_far c.held new ≡ record { mark = turn_after b old.index; held = held; committed = old.committed || turn.1 }

  pub data AreTurnsOver (new : TurnProgress V) : Type 0 where
    -- the turn's value ends the turns
    EndedByValue : (turn : A × Bool) (accepts : Accepts w m r turn.0 turn.1) (ends : ending turn.0 ≡ true) (turns : new ≡ record { into = old.into; committed = old.committed || turn.1; index = old.index }) → AreTurnsOver new
    -- the turn is refused peeked and put back
    EndedByRefusal : (there : is_enough b old.index ≡ true) (refused : Refuses w m r false) (view : r.new ≡ r.old) (turns : new ≡ old) → AreTurnsOver new

  -- a turn that is missing is refused peeked
  pub record IsTurnRefused (new : TurnProgress V) (t : Tracked E) : Type 0 where
    pub missing : is_enough b old.index ≡ false
    pub answers : Answers w m r (PeekErr t)
    pub turns : new ≡ old

  -- the turn needs more: it is the one that runs, with what it has taken so far
  pub record TurnNeedsMore (new : TurnProgress V) (e : E) : Type 0 where
    pub needs : (w.kind e ≡ kinds.End) × (r.new.is_open ≡ true)
    pub answers : Answers w m r (CommitErr e)
    pub index : TurnIndex
    pub number : index.number ≡ old.index.number
    pub cut : (n : ℕ) → Takes w.step n r.old r.new → index ≡ cut_at old.index n
    pub turns : new ≡ record { into = old.into; committed = old.committed; index = index }

  pub data HasTurnFailed (e : E) : Type 0 where
    -- by a committed refusal or a fault of the turn
    InTurn : (settled : (w.kind e ≡ kinds.End) × (r.new.is_open ≡ true) → ⊥) (answers : Answers w m r (CommitErr e)) → HasTurnFailed e
    -- the turn is accepted, and takes nothing
    TakesNothing : (turn : A × Bool) (judged : JudgesTurn w b ending m r old.index turn false) (told : IsRefusalOrMemory w.kind w.heapless e) → HasTurnFailed e
    -- its value finds no memory
    ValueUnstored : (turn : A × Bool) (accepts : Accepts w m r turn.0 turn.1) (memory : w.kind e ≡ kinds.Memory) (asked : c.heapless → ⊥) → HasTurnFailed e
    -- what is said of a missing turn finds no memory
    Untold : (refused : Refuses w m r false) (memory : w.kind e ≡ kinds.Memory) (asked : w.heapless → ⊥) → HasTurnFailed e
    -- the stream could not be put back
    Unreset : (reset : w.kind e ≡ kinds.Reset) (counted : r.before.resets < r.after.resets) (leaves : Leaves w r) → HasTurnFailed e

  abbrev pub turns_halted : TurnStop V E → Type 0
  turns_halted (Over n) = AreTurnsOver n
  turns_halted (Refused n t) = IsTurnRefused n t
  turns_halted (More n e) = TurnNeedsMore n e
  turns_halted (Failed e) = HasTurnFailed e

  abbrev pub turn_did : TurnStep V E → Type 0
  turn_did (steps.Goes n) = IsTurnBlock n
  turn_did (steps.Stops why) = turns_halted why

  pub record TurnDid (result : TurnStep V E) : Type 0 where
    pub is : turn_did result

-- what was known of a call at its answer, where it left the stream so
pub record CallEndedAt {P T S : Type 0} (stands : View P T → Type 0) (now : View P T) (after : Failures) (r : CallRecord P T S) : Type 0 where
  pub begun_at : stands r.old
  pub new : r.new ≡ now
  pub failures : r.after ≡ after
  pub resets : r.before.resets ≤ r.after.resets

-- a call whose stream stands otherwise by then
abbrev pub then_left : {P T S : Type 0} → CallRecord P T S → View P T → Failures → CallRecord P T S
then_left r now after = record { first = r.first; state = r.state; left = r.left; old = r.old; new = now; before = r.before; after = after }

-- turns with one more value gathered, of which the next one runs
pub record IsGathered {A V Held : Type 0} (held : V → Held) (more : Held → A → Held → Type 0) (old : TurnProgress V) (value : A) (next : TurnIndex) (new : TurnProgress V) : Type 0 where
  pub more_held : more (held old.into) value (held new.into)
  pub committed : new.committed ≡ old.committed
  pub index : new.index ≡ next

-- what turns answer that stop so
abbrev pub stopped_answer : {V E : Type 0} → TurnStop V E → ParseResult V E
stopped_answer (Over t) = accepted_as t.committed t.into
stopped_answer (Refused t r) = refused_as t.committed r
stopped_answer (More t e) = CommitErr e
stopped_answer (Failed e) = CommitErr e

-- and what they keep
abbrev pub stopped_state : {V S E : Type 0} → TurnStop V E → TurnsState V S → TurnsState V S
stopped_state (Over t) s = s
stopped_state (Refused t e) s = s
stopped_state (More t e) s = record { earlier = earlier.Gathered t; running = s.running }
stopped_state (Failed e) s = s
