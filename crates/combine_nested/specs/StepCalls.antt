-- what a run of one step's parser promises
use Rattle.std.specs.Prelude.{codes, ◌≡◌, ℕ, ◌⊎◌, ◌||◌, Bool, true, false, nat_lt, List, length}
use Rattle.combine_base.specs.Error.Errors.{Observers}
use Rattle.combine_base.specs.Parser.Answer.{Answers, world}
use Rattle.combine_base.specs.Parser.Drivers.{Explained}
use Rattle.combine_base.specs.Parser.DriverAnswers.{NeedsMore}
use Rattle.combine_base.specs.Parser.Meaning.{MeansSame}
use Rattle.combine_base.specs.Sequence.Parts.{refused_as, call_from}
use Rattle.combine_base.specs.Stream.Calls.{Passes}
use Rattle.combine_base.specs.Stream.View.{Takes}
use Rattle.combine_base.specs.declared.stream.Kind.TheVariants as kinds
use Rattle.combine_base.specs.declared.error.result.ParseResult.{ParseResult}
use Rattle.combine_base.specs.declared.error.result.ParseResult.TheVariants.{CommitOk, PeekOk, CommitErr, PeekErr}
use Rattle.combine_base.specs.declared.parser.Parser as parser
use Rattle.combine_base.specs.declared.stream.StreamOnce as stream
use Rattle.combine_nested.specs.NestedSteps.{FramesChange, Opened, Closed, Denied, TooDeep, frames_around, begins_steps, settles_frames, IsRefusalSaying}
use Rattle.combine_nested.specs.declared.nested.Next.{Next}
use Rattle.combine_nested.specs.declared.nested.steps.Did.{Did}
use Rattle.combine_nested.specs.declared.nested.steps.Did.TheVariants as dids
use Rattle.combine_nested.specs.declared.nested.steps.Settled.{Settled}
use Rattle.combine_nested.specs.declared.nested.steps.Settled.TheVariants as settled
use Rattle.combine_nested.specs.declared.nested.steps.Frames.{Frames}
use Rattle.combine_nested.specs.declared.nested.steps.RunningStep.{RunningStep}
use Rattle.combine_nested.specs.declared.nested.steps.NestedState.{NestedState}
use Rattle.combine_nested.specs.declared.nested.steps.NestedState.TheVariants as states

abbrev pub ends_of : {F V : Type 0} → Settled F V → FramesChange F V
ends_of (settled.Open l) = Opened l.top (frames_around l)
ends_of (settled.Closed v) = Closed v
ends_of (settled.Denied m) = Denied m.now
ends_of settled.TooDeep = TooDeep

module _ {T R P V E : Type 0} (observers : Observers T R P E) (place : P) (text : List ℕ) where
  abbrev pub denies : Bool → ParseResult V E → Type 0
  denies committed (CommitOk v) = ⊥
  denies committed (PeekOk v) = ⊥
  denies committed (CommitErr e) = (observers.kind e ≡ kinds.Memory) ⊎ ((observers.kind e ≡ kinds.Refused) × (committed ≡ true) × IsRefusalSaying observers place text e)
  denies committed (PeekErr t) = (observers.kind t.error ≡ kinds.Refused) × (committed ≡ false) × IsRefusalSaying observers place text t.error

  -- a frame's refusal with that message, committed where a step was, or want of memory for the message
  pub record Denies (committed : Bool) (result : ParseResult V E) : Type 0 where
    pub is : denies committed result

module _ {F I V : Type 0} (depth : ℕ) (takes : F → I → Next F V → Type 0) (joins : F → V → Next F V → Type 0) where
  -- the innermost frame takes an item, and that becomes of the frames
  pub record TakesItem (f : F) (fs : List F) (item : I) (e : FramesChange F V) : Type 0 where
    pub next : Next F V
    pub taken : takes f item next
    pub settles : settles_frames depth joins fs next e

  module _ {T R P E : Type 0} (observers : Observers T R P E) (place : P) (frames : Frames F) (committed took : Bool) (item : I) where
    abbrev pub takes_to : FramesChange F V → Type 0
    takes_to = TakesItem frames.top (frames_around frames) item

    -- a refusal that is committed whatever was before: a frame too many, or no token taken and as many frames as there were
    pub data StepRefuses (e : E) : Type 0 where
      IsTooDeep : (taken : takes_to TooDeep) (tells : IsRefusalSaying observers place (codes "nesting too deep") e) → StepRefuses e
      TakesNothing : (f : F) (fs : List F) (taken : takes_to (Opened f fs)) (stays : (took || nat_lt (length fs) (length (frames_around frames))) ≡ false) (tells : IsRefusalSaying observers place (codes "repetition takes nothing") e) → StepRefuses e

    -- a frame's own, with its message
    pub record FrameRefuses (e : E) : Type 0 where
      pub text : List ℕ
      pub taken : takes_to (Denied text)
      pub tells : IsRefusalSaying observers place text e

    abbrev pub stops_so : ParseResult V E → Type 0
    stops_so (CommitOk v) = takes_to (Closed v) × (committed ≡ true)
    stops_so (PeekOk v) = takes_to (Closed v) × (committed ≡ false)
    stops_so (CommitErr e) = (observers.kind e ≡ kinds.Memory) ⊎ ((observers.kind e ≡ kinds.Refused) × (StepRefuses e ⊎ (FrameRefuses e × (committed ≡ true))))
    stops_so (PeekErr t) = (observers.kind t.error ≡ kinds.Refused) × FrameRefuses t.error × (committed ≡ false)

    -- what an item's step did, where it or one before was committed
    abbrev pub step_item_did : Did F V E → Type 0
    step_item_did (dids.Goes next c) = takes_to (Opened next.top (frames_around next)) × ((took || nat_lt (length (frames_around next)) (length (frames_around frames))) ≡ true) × (c ≡ committed)
    step_item_did (dids.Stops answer) = stops_so answer

module _ {F I V N Input U Checkpoint T R P E : Type 0} (p : parser.Ghosts N Input U I Checkpoint T R P E) (i : stream.Ghosts Input T R P E) (observers : Observers T R P E) (fresh : U → Type 0) (depth : ℕ) (takes : F → I → Next F V → Type 0) (joins : F → V → Next F V → Type 0) where
  -- need of more keeps the step's parser as it now is, with the state in which it stopped, and whether it took a token; every other answer leaves a state that begins
  pub record KeepsStep (input left : Input) (from : RunningStep F N U) (parser : N) (stopped : U) (state : NestedState F N U) : Type 0 where
    pub took_before : Bool
    pub is : state ≡ states.Running (record { frames = from.frames; committed = from.committed; took_before = took_before; parser = parser; state = stopped })
    pub took : (n : ℕ) → Takes i.step n (i.view input) (i.view left) → took_before ≡ (from.took_before || nat_lt 0 n)
    pub valid : p.valid stopped

  abbrev pub keeps_step : Input → Input → RunningStep F N U → N → U → NestedState F N U → ParseResult I E → Type 0
  keeps_step input left from parser stopped state answer = (NeedsMore observers.kind (i.view left).is_open answer × KeepsStep input left from parser stopped state) ⊎ ((NeedsMore observers.kind (i.view left).is_open answer → ⊥) × begins_steps state)

  pub record DidItem (input left : Input) (from : RunningStep F N U) (item : I) (commits : Bool) (result : Did F V E) : Type 0 where
    pub took : Bool
    pub is : (n : ℕ) → Takes i.step n (i.view input) (i.view left) → took ≡ (from.took_before || nat_lt 0 n)
    pub did : step_item_did depth takes joins observers (i.view input).position from.frames (from.committed || commits) took item result

  abbrev pub step_did : Input → Input → RunningStep F N U → ParseResult I E → Did F V E → Type 0
  step_did input left from (CommitOk a) result = DidItem input left from a true result
  step_did input left from (PeekOk a) result = DidItem input left from a false result
  step_did input left from (CommitErr e) result = result ≡ dids.Stops (CommitErr e)
  step_did input left from (PeekErr t) result = result ≡ dids.Stops (refused_as from.committed t)

  pub record CalledStep (input left : Input) (from : RunningStep F N U) (state : NestedState F N U) (result : Did F V E) : Type 0 where
    pub parser : N
    pub lawful : p.lawful parser
    pub same : MeansSame (p.meaning from.parser) (p.meaning parser)
    pub passes : Passes (i.marks input) (i.marks left) (i.failures input) (i.failures left)
    pub stopped : U
    pub answer : ParseResult I E
    pub answers : Answers (world i.step observers i.counts_failures fresh) (p.meaning from.parser) (call_from from.state stopped (i.view input) (i.view left) (i.failures input) (i.failures left)) answer
    pub explained : Explained observers (p.meaning from.parser) ((p.meaning from.parser).refuses_from from.state) (i.view input) (i.view left) answer
    pub did : step_did input left from answer result
    pub keeps : keeps_step input left from parser stopped state answer
