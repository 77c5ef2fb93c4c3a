-- what a call of a choice promises, in one fact that names no parser; and of its halves, by the stream before and after them
use Rattle.combine_base.specs.Stream.View.{View}
use Rattle.combine_base.specs.Parser.Meaning.{Meaning, MeansSame, begun_refuses}
use Rattle.combine_base.specs.Parser.Answer.{CallRecord, World, Answers, world}
use Rattle.combine_base.specs.Parser.Reasons.{Reasoned}
use Rattle.combine_base.specs.Stream.Calls.{Passes}
use Rattle.std.specs.Prelude.{Bool, Option}
use Rattle.combine_base.specs.declared.stream.Failures.{Failures}
use Rattle.combine_base.specs.declared.error.result.ParseResult.{ParseResult}
use Rattle.combine_choice.specs.declared.or.OrState.{OrState}
use Rattle.combine_choice.specs.Choice.FirstAlternative.{SettlesLater, FirstDid}
use Rattle.combine_base.specs.Error.Errors.{Observers}
use Rattle.combine_base.specs.declared.error.tracked.Tracked.{Tracked}
use Rattle.combine_choice.specs.declared.or.first.FirstResult.{FirstResult}
use Rattle.combine_base.specs.declared.stream.StreamOnce as stream

pub record Chose {P T R V S E C : Type 0} (w : World P T S E) (law : Type 0) (accepts : S → Type 0) (m m' : Meaning P T R E V S) (x y : C → View P T → Type 0) (r : CallRecord P T S) (result : ParseResult V E) : Type 0 where
  pub lawful : law
  pub valid : accepts r.left
  pub same : MeansSame m m'
  pub passes : Passes x y r.before r.after
  pub answers : Answers w m r result
  pub refuses : Reasoned w.kind r.new.is_open (begun_refuses m r.first r.state r.old r.new) result

-- what came of the first, run by a call: that of `FirstDid`, and what the call promises besides
pub record Tried {P T R V S S' E C : Type 0} (w : World P T S E) (later : S' → Type 0) (valid : S → Type 0) (law : Type 0) (a a' : Meaning P T R E V S) (x y : C → View P T → Type 0) (first : Bool) (given left : OrState S S') (old new : View P T) (before after : Failures) (result : FirstResult V S' E) : Type 0 where
  pub lawful : law
  pub same : MeansSame a a'
  pub passes : Passes x y before after
  pub turned : FirstDid w later valid a first given left old new before after result

-- what a call of the later part promises, after that refusal of the first: how it answers, and what is made of it
pub record Followed {P T R V S S' E C : Type 0} (step : P → T → P) (errors : Observers T R P E) (counts_failures : Type 0) (joins : E → E → E → Type 0) (fresh : S' → Type 0) (law : Type 0) (accepts : S' → Type 0) (b b' : Meaning P T R E V S') (y z : C → View P T → Type 0) (first : Bool) (kept : S') (none left : OrState S S') (refused : Option (Tracked E)) (old new : View P T) (before after : Failures) (result : ParseResult V E) : Type 0 where
  pub answer : ParseResult V E
  pub stopped : S'
  pub called : Chose (world step errors counts_failures fresh) law accepts b b' y z (record { first = first; state = kept; left = stopped; old = old; new = new; before = before; after = after }) answer
  pub settled : SettlesLater errors joins new.is_open refused stopped none left answer result

module _ {Input T R P E V S : Type 0} (i : stream.Ghosts Input T R P E) (observers : Observers T R P E) where
  -- the whole choice, or a half of it
  abbrev pub ChoseCall : (fresh : S → Type 0) (law : Type 0) (accepts : S → Type 0) (m m' : Meaning P T R E V S) (first : Bool) (from left : S) (input after : Input) → ParseResult V E → Type 0
  ChoseCall fresh law accepts m m' first from left input after result = Chose (world i.step observers i.counts_failures fresh) law accepts m m' (i.marks input) (i.marks after) (record { first = first; state = from; left = left; old = i.view input; new = i.view after; before = i.failures input; after = i.failures after }) result

module _ {Input T R P E V S S' : Type 0} (i : stream.Ghosts Input T R P E) (observers : Observers T R P E) where
  -- the first half
  abbrev pub TriedCall : (fresh : S → Type 0) (later : S' → Type 0) (valid : S → Type 0) (law : Type 0) (a a' : Meaning P T R E V S) (first : Bool) (given left : OrState S S') (input after : Input) → FirstResult V S' E → Type 0
  TriedCall fresh later valid law a a' first given left input after result = Tried (world i.step observers i.counts_failures fresh) later valid law a a' (i.marks input) (i.marks after) first given left (i.view input) (i.view after) (i.failures input) (i.failures after) result

  -- the second, after that refusal of the first
  abbrev pub FollowedCall : (joins : E → E → E → Type 0) (fresh accepts : S' → Type 0) (law : Type 0) (b b' : Meaning P T R E V S') (first : Bool) (kept : S') (none left : OrState S S') (refused : Option (Tracked E)) (input after : Input) → ParseResult V E → Type 0
  FollowedCall joins fresh accepts law b b' first kept none left refused input after result = Followed i.step observers i.counts_failures joins fresh law accepts b b' (i.marks input) (i.marks after) first kept none left refused (i.view input) (i.view after) (i.failures input) (i.failures after) result
