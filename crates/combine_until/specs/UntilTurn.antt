-- what the calls promise of which blocks up to a place are made; the call of a turn, by the stream before and after it
use Rattle.std.specs.Prelude.{ℕ, ◌+◌, ◌<◌, ◌≡◌, ◌⊎◌, Bool, true, false, ◌||◌, ◌&&◌, nat_lt, Option, Some, None, Result, Ok, Err}
use Rattle.combine_base.specs.Stream.View.{View, Takes, Moves}
use Rattle.combine_base.specs.Distances.{stops_distance}
use Rattle.combine_base.specs.Error.Errors.{Observers}
use Rattle.combine_base.specs.Parser.Drivers.{Broke, ExplainsRefusal}
use Rattle.combine_base.specs.Parser.DriverAnswers.{IsRefusal}
use Rattle.combine_base.specs.Parser.Meaning.{Meaning, begun, begun_refuses, MeantRefusal}
use Rattle.combine_base.specs.Parser.Outcome.{Accepted}
use Rattle.combine_base.specs.Parser.Answer.{CallRecord, World, Answers, Accepts, Leaves, world}
use Rattle.combine_base.specs.Refusals.{IsRefusalOrMemory}
use Rattle.combine_base.specs.Sequence.Parts.{accepted_as}
use Rattle.combine_base.specs.declared.error.result.ParseResult.{ParseResult}
use Rattle.combine_base.specs.declared.error.result.ParseResult.TheVariants.{CommitErr, PeekErr}
use Rattle.combine_base.specs.declared.stream.Failures.{Failures}
use Rattle.combine_base.specs.declared.stream.Kind.{Kind}
use Rattle.combine_base.specs.declared.stream.Kind.TheVariants as kinds
use Rattle.combine_repeat.specs.Turns.Turn.{started}
use Rattle.combine_repeat.specs.Turns.Blocks.{Collecting}
use Rattle.combine_until.specs.Until.{blocks_so_far, place_refuses}
use Rattle.combine_until.specs.declared.until.Blocks.{Blocks}
use Rattle.combine_until.specs.declared.until.KeptBlocks.{KeptBlocks}
use Rattle.combine_until.specs.declared.until.BlockStep.{BlockStep}
use Rattle.combine_until.specs.declared.until.BlockStep.TheVariants as steps
use Rattle.combine_until.specs.declared.until.BlockStop.{BlockStop}
use Rattle.combine_until.specs.declared.until.BlockStop.TheVariants as stop
use Rattle.combine_until.specs.declared.until.UntilState.{UntilState}
use Rattle.combine_until.specs.declared.until.UntilState.TheVariants.{Begin, At}
use Rattle.combine_base.specs.Parser.AnswersCalls.{call_between}
use Rattle.combine_base.specs.declared.stream.StreamOnce as stream

-- nothing is read yet
pub record HoldsNothing {V S : Type 0} (fresh : S → Type 0) (into : V) (k : KeptBlocks V S) : Type 0 where
  pub before : k.before ≡ 0
  pub beyond : k.beyond ≡ 0
  pub blocks : k.blocks ≡ record { into = into; committed = false; took_before = false }
  pub running : fresh k.running

abbrev pub handed : {V S : Type 0} → (S → Type 0) → V → Bool → UntilState V S → KeptBlocks V S → Type 0
handed fresh into true s k = HoldsNothing fresh into k
handed fresh into false Begin k = HoldsNothing fresh into k
handed fresh into false (At j) k = k ≡ j

-- what a call begins with, afresh or not
pub record HandsOutBlocks {V S : Type 0} (fresh : S → Type 0) (into : V) (first : Bool) (state : UntilState V S) (k : KeptBlocks V S) : Type 0 where
  pub is : handed fresh into first state k

module _ {P T C : Type 0} (counts_failures : Type 0) (step : P → T → P) (stands : C → View P T → Type 0) (old new : View P T) (earlier later : Failures) (before beyond : ℕ) where
  -- the place is so many tokens from here, and the stream stands beyond it
  pub record IsPlaceAhead (place : C) : Type 0 where
    pub at : View P T
    pub first : Takes step before old at
    pub stood : stands place at
    pub then : Takes step beyond at new
    pub failures : counts_failures → later ≡ earlier

  abbrev pub reaches_place : Result C Kind → Type 0
  reaches_place (Ok place) = IsPlaceAhead place
  reaches_place (Err k) = stops_distance counts_failures step old new earlier later (before + beyond) k × Moves step old new

  pub record ReachesPlace (result : Result C Kind) : Type 0 where
    pub is : reaches_place result

module _ {P T R A V S E : Type 0} (w : World P T S E) (m : Meaning P T R E (Option A) S) (c : Collecting (Option A) V) (r : CallRecord P T S) (marked : View P T → Type 0) (old : Blocks V) where
  -- the turn is a block
  pub record IsUntilBlock (new : Blocks V) : Type 0 where
    pub value : A
    pub committed : Bool
    pub accepts : Accepts w m r (Some value) committed
    pub takes : (committed && (old.took_before || nat_lt 0 accepts.count)) ≡ true
    pub held : c.Held
    pub more : c.more (c.held old.into) (Some value) held
    pub blocks : blocks_so_far c.held new ≡ record { mark = false; held = held; committed = old.committed || committed }

  -- its parser says that the blocks end, and the stream is put back to where it began
  pub record EndsHere (new : Blocks V) : Type 0 where
    pub count : ℕ
    pub committed : Bool
    pub meant : begun m r.first r.state r.old (Accepted None count committed)
    pub state : w.fresh r.left
    pub failures : w.counts_failures → r.after ≡ r.before
    pub back : (v : View P T) → marked v → r.new ≡ v
    pub blocks : new ≡ record { into = old.into; committed = old.committed || committed; took_before = old.took_before }

  -- it needs more
  pub record BlockNeedsMore (new : Blocks V) (e : E) : Type 0 where
    pub needs : (w.kind e ≡ kinds.End) × (r.new.is_open ≡ true)
    pub answers : Answers w m r (CommitErr e)
    pub took_before : Bool
    pub cut : (n : ℕ) → Takes w.step n r.old r.new → took_before ≡ (old.took_before || nat_lt 0 n)
    pub blocks : new ≡ record { into = old.into; committed = old.committed; took_before = took_before }

  pub data HasBlockFailed (e : E) : Type 0 where
    -- by a committed refusal or a fault of the parser
    InTurn : (settled : (w.kind e ≡ kinds.End) × (r.new.is_open ≡ true) → ⊥) (answers : Answers w m r (CommitErr e)) → HasBlockFailed e
    -- it is accepted, and takes nothing
    TakesNothing : (value : A) (committed : Bool) (accepts : Accepts w m r (Some value) committed) (idle : (committed && (old.took_before || nat_lt 0 accepts.count)) ≡ false) (told : IsRefusalOrMemory w.kind w.heapless e) → HasBlockFailed e
    -- its value finds no memory
    BlockUnstored : (memory : w.kind e ≡ kinds.Memory) (asked : c.heapless → ⊥) (leaves : Leaves w r) → HasBlockFailed e
    -- the stream could not be put back
    Unreset : (reset : w.kind e ≡ kinds.Reset) (counted : r.before.resets < r.after.resets) (leaves : Leaves w r) → HasBlockFailed e

  abbrev pub blocks_halted : BlockStop V E → Type 0
  blocks_halted (stop.Over n) = EndsHere n
  blocks_halted (stop.Refused t) = Answers w m r (PeekErr t)
  blocks_halted (stop.More n e) = BlockNeedsMore n e
  blocks_halted (stop.Failed e) = HasBlockFailed e

  abbrev pub block_did : BlockStep V E → Type 0
  block_did (steps.Goes n) = IsUntilBlock n
  block_did (steps.Stops why) = blocks_halted why

  pub record BlockDid (result : BlockStep V E) : Type 0 where
    pub is : block_did result

-- the errors of the turn's refusals
module _ {P T R A V S E : Type 0} (errors : Observers T R P E) (m : Meaning P T R E (Option A) S) (first : Bool) (from : S) (took_before : Bool) (old new : View P T) where
  abbrev pub stop_says : BlockStop V E → Type 0
  stop_says (stop.Over n) = Unit {0}
  stop_says (stop.Refused t) = ExplainsRefusal errors m (MeantRefusal (begun m first from) (begun_refuses m first from)) old new t.error
  stop_says (stop.More n e) = Unit {0}
  stop_says (stop.Failed e) = IsRefusal new.is_open (errors.kind e) → place_refuses errors m (started m first from) took_before old new true e

  abbrev pub step_says : BlockStep V E → Type 0
  step_says (steps.Goes n) = Unit {0}
  step_says (steps.Stops why) = stop_says why

  -- where it refuses, the error is one that its place may have
  pub record RefusesTurn (result : BlockStep V E) : Type 0 where
    pub is : step_says result

module _ {P T E V S : Type 0} (counts_failures : Type 0) (step : P → T → P) (kind : E → Kind) (begins stands : View P T → Type 0) (old new : View P T) (earlier later : Failures) where
  module _ (blocks : Blocks V) (running : S) (need : E) (given left : UntilState V S) (result : ParseResult V E) where
    -- the stream is at the start, and the distances are kept
    pub record HasKept (start : View P T) (before beyond : ℕ) : Type 0 where
      pub answer : result ≡ CommitErr need
      pub back : new ≡ start
      pub failures : counts_failures → later ≡ earlier
      pub state : left ≡ At (record { before = before; beyond = beyond; blocks = blocks; running = running })

    -- it could not be put back
    pub record HasBroken (start : View P T) : Type 0 where
      pub error : E
      pub answer : result ≡ CommitErr error
      pub broke : Broke (kind error) earlier later
      pub moves : Moves step start new
      pub state : left ≡ given

    pub record KeepsBlocks : Type 0 where
      pub is : (start place : View P T) (before beyond : ℕ) → begins start → stands place → Takes step before start place → Takes step beyond place old → HasKept start before beyond ⊎ HasBroken start

  module _ (running : S) (given left : UntilState V S) (result : ParseResult V E) where
    -- nothing is done to the stream
    pub record LeavesStream : Type 0 where
      pub view : new ≡ old
      pub failures : later ≡ earlier
      pub state : left ≡ given

    abbrev pub settles_blocks : BlockStop V E → Type 0
    settles_blocks (stop.Over n) = (result ≡ accepted_as n.committed n.into) × LeavesStream
    settles_blocks (stop.Refused t) = (result ≡ PeekErr t) × LeavesStream
    settles_blocks (stop.More n e) = KeepsBlocks n running e given left result
    settles_blocks (stop.Failed e) = (result ≡ CommitErr e) × LeavesStream

    -- what blocks answer that stop so
    pub record SettlesBlocks (why : BlockStop V E) : Type 0 where
      pub is : settles_blocks why

-- a state is left as it was, or keeps the running part's
pub record KeepsRunning {V S : Type 0} (running : S) (given left : UntilState V S) : Type 0 where
  pub is : (left ≡ given) ⊎ ((k : KeptBlocks V S) × (left ≡ At k) × (k.running ≡ running))

module _ {Input P T R A V S E : Type 0} (i : stream.Ghosts Input T R P E) (observers : Observers T R P E) (fresh : S → Type 0) where
  abbrev pub OneBlockCall : Meaning P T R E (Option A) S → Collecting (Option A) V → (first : Bool) (from left : S) (input after : Input) → (View P T → Type 0) → Blocks V → BlockStep V E → Type 0
  OneBlockCall m c first from left input after marked blocks result = BlockDid (world i.step observers i.counts_failures fresh) m c (call_between i first from left input after) marked blocks result
