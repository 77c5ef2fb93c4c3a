-- what parsing a list window by window promises
use Rattle.std.specs.Prelude.{ℕ, ◌+◌, ◌<◌, ◌≤◌, ◌≡◌, List, Bool, true, false, length, take, get_or, Result, Ok, Err}
use Rattle.combine_base.specs.Stream.View.{View, advanced}
use Rattle.combine_base.specs.Parser.Outcome.{Outcome, Accepted, Refused, Undecided, shape}
use Rattle.combine_base.specs.Parser.Meaning.{Meaning, IsSingle, refusals_from}
use Rattle.combine_base.specs.Error.Errors.{Observers}
use Rattle.combine_base.specs.Parser.Answer.{Answers, world}
use Rattle.combine_base.specs.Parser.DriverAnswers.{IsRefusal, answer_to}
use Rattle.combine_base.specs.Parser.Reasons.{ReasonedCall}
use Rattle.combine_session.specs.Pieces.{refused_within}
use Rattle.combine_base.specs.declared.stream.Kind.{Kind}
use Rattle.combine_base.specs.declared.stream.Kind.TheVariants as kinds
use Rattle.combine_base.specs.declared.stream.Failures.{Failures}
use Rattle.combine_base.specs.declared.error.result.ParseResult.{ParseResult}
use Rattle.combine_base.specs.declared.parser.answer.Answer.{Answer}
use Rattle.combine_base.specs.declared.parser.answer.Answer.TheVariants as answers
use Rattle.combine_base.specs.declared.stream.StreamOnce as stream

-- cuts don't fall, and each is a place
pub record CutsFit (is_place : ℕ → Type 0) (cuts : List ℕ) : Type 0 where
  pub rising : (i : ℕ) → i + 1 < length cuts → get_or cuts i 0 ≤ get_or cuts (i + 1) 0
  pub placed : (i : ℕ) → i < length cuts → is_place (get_or cuts i 0)

module _ {P T : Type 0} where
  -- the tokens up to a place
  abbrev pub up_to : P → List T → ℕ → Bool → View P T
  up_to start whole to more = record { position = start; unread = take to whole; is_open = more }

  -- the window between two places
  abbrev pub window_at : (P → T → P) → P → List T → ℕ → ℕ → Bool → View P T
  window_at step start whole from to more = advanced step from (up_to start whole to more)

module _ {P T R E Value State : Type 0} (errors : Observers T R P E) (step : P → T → P) (start : P) (m : Meaning P T R E Value State) where
  -- the outcome on these tokens from the start, open or ended
  abbrev pub on : List T → Bool → Outcome Value → Type 0
  on x more = m.whole (record { position = start; unread = x; is_open = more })

  -- on these tokens, ended, this is an outcome, and where there is only one, none has another shape
  pub record Decides (x : List T) (o : Outcome Value) : Type 0 where
    pub is : on x false o
    pub only : IsSingle m.whole → (p : Outcome Value) → on x false p → shape p ≡ shape o

  -- the parser refuses so with that error, from some state on some window of these tokens: those of the call that decided
  pub record RefusesWindow (x : List T) (error : E) (committed : Bool) : Type 0 where
    pub state : State
    pub from : ℕ
    pub to : ℕ
    pub more : Bool
    pub left : View P T
    pub kind : IsRefusal more (errors.kind error)
    pub is : refusals_from m state (window_at step start x from to more) left committed error

  abbrev pub decided : List T → Answer Value E → Type 0
  decided x answers.More = ⊥
  decided x (answers.Accepted value taken committed) = Decides x (Accepted value taken committed)
  decided x (answers.Refused error taken committed) = Decides x (Refused committed) × RefusesWindow x error committed

  module _ (whole : List T) (number : ℕ) (at : ℕ → ℕ) where
    -- There are so many cuts, each behind so many tokens. The answer is one on the whole, and more was asked for at the first n cuts: before each of them it is undecided, and where there is only one outcome, before no other.
    pub record DecidedAfterCuts (n : ℕ) (a : Answer Value E) : Type 0 where
      pub answer : decided whole a
      pub refused : refused_within whole a
      pub within : n ≤ number
      pub here : (i : ℕ) → i < n → on (take (at i) whole) true Undecided
      pub only : IsSingle m.whole → (i : ℕ) → i < number → on (take (at i) whole) true Undecided → i < n

    abbrev pub runs_cuts : Result (ℕ × Answer Value E) Kind → Type 0
    runs_cuts (Ok r) = DecidedAfterCuts r.0 r.1
    runs_cuts (Err k) = (k ≡ kinds.Memory) × (errors.heapless → m.heapless → ⊥)

    pub record RunsCuts (result : Result (ℕ × Answer Value E) Kind) : Type 0 where
      pub is : runs_cuts result

-- one call on a window
pub record ParsesWindow {P T R Value State E : Type 0} (errors : Observers T R P E) (counts_failures : Type 0) (step : P → T → P) (fresh : State → Type 0) (start : P) (m : Meaning P T R E Value State) (state left : State) (whole : List T) (from to : ℕ) (more : Bool) (taken : ℕ) (result : Result (Answer Value E) Kind) : Type 0 where
  pub new : View P T
  pub failures : Failures
  pub parsed : ParseResult Value E
  pub place : taken + length new.unread ≡ to
  pub is : result ≡ answer_to errors.kind more taken parsed
  pub answers : Answers (world step errors counts_failures fresh) m (record { first = false; state = state; left = left; old = window_at step start whole from to more; new = new; before = failures; after = failures }) parsed
  pub refuses : ReasonedCall errors m false state (window_at step start whole from to more) new parsed

-- the same by the stream that a window is
abbrev pub WindowCall : {Input P T R Value State E : Type 0} (i : stream.Ghosts Input T R P E) (observers : Observers T R P E) (fresh : State → Type 0) (start : P) (m : Meaning P T R E Value State) (state left : State) (whole : List T) (from to : ℕ) (more : Bool) (taken : ℕ) → Result (Answer Value E) Kind → Type 0
WindowCall i observers = ParsesWindow observers i.counts_failures i.step
