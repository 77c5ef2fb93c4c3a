-- one alternative's call in a choice, and what calls over the alternatives of a slice promise, by the stream before and after them
use Rattle.std.specs.Prelude.{◌≡◌, ◌<◌, ◌≤◌, ℕ, Bool, true, false, List, drop}
use Rattle.combine_base.specs.Stream.View.{View}
use Rattle.combine_base.specs.Error.Errors.{Observers, Only}
use Rattle.combine_base.specs.Refusals.{HasItems}
use Rattle.combine_base.specs.Parser.Meaning.{Meaning, begun, begun_refuses}
use Rattle.combine_base.specs.Parser.Answer.{World, Answers, world}
use Rattle.combine_base.specs.declared.stream.Failures.{Failures}
use Rattle.combine_base.specs.declared.stream.Kind.TheVariants as kinds
use Rattle.combine_base.specs.declared.error.result.ParseResult.{ParseResult}
use Rattle.combine_base.specs.declared.error.result.ParseResult.TheVariants.{CommitOk, PeekOk, CommitErr, PeekErr}
use Rattle.combine_choices.specs.MergedErrors.{choice_is_empty, tried_refuses}
use Rattle.combine_choices.specs.declared.choice.slice.SliceState.{SliceState}
use Rattle.combine_choices.specs.declared.choice.slice.SliceState.TheVariants.{Peek, At}
use Rattle.combine_base.specs.Parser.DriverAnswers.{NeedsMore}
use Rattle.std.specs.List.{All}
use Rattle.std.specs.declared.cmp.Ordering.{Ordering}
use Rattle.combine_base.specs.Parser.Reasons.{Reasoned}
use Rattle.combine_base.specs.Stream.Calls.{Passes}
use Rattle.combine_base.specs.declared.parser.Parser as parser
use Rattle.combine_base.specs.declared.stream.StreamOnce as stream
use Rattle.combine_choices.specs.ListChoice.{AllSame, choice_of, slice_valid}

module _ {P T R V S S' E : Type 0} (w : World P T S E) (m : Meaning P T R E V S) (peek : S') (at : S → S') where
  -- the alternative's answer; on need of more its state is kept in the choice's, and else none is
  pub record CallsAlternative (first : Bool) (given : S) (kept : S') (old new : View P T) (before after : Failures) (result : ParseResult V E) : Type 0 where
    pub left : S
    pub answers : Answers w m (record { first = first; state = given; left = left; old = old; new = new; before = before; after = after }) result
    pub asks : NeedsMore w.kind new.is_open result → kept ≡ at left
    pub ends : (NeedsMore w.kind new.is_open result → ⊥) → kept ≡ peek

module _ {V T R P E : Type 0} (s : Observers T R P E) (place : P) where
  abbrev pub no_alternative : ParseResult V E → Type 0
  no_alternative (CommitOk v) = ⊥
  no_alternative (PeekOk v) = ⊥
  no_alternative (CommitErr e) = (s.kind e ≡ kinds.Memory) × (s.heapless → ⊥)
  no_alternative (PeekErr t) = (s.kind t.error ≡ kinds.Refused) × HasItems s kinds.Refused place (Only choice_is_empty) t.error

  -- refused peeked with its message, unless that found no memory
  pub record NoAlternative (result : ParseResult V E) : Type 0 where
    pub is : no_alternative result

module _ {S : Type 0} (first : Bool) (given : SliceState S) (count : ℕ) where
  -- a call begins afresh: in first mode, where nothing is kept, and where no alternative of so many has the kept index
  pub data BeginsAfresh : Type 0 where
    InFirst : first ≡ true → BeginsAfresh
    AtPeek : first ≡ false → given ≡ Peek → BeginsAfresh
    PastLast : first ≡ false → (index : ℕ) (kept : S) → given ≡ At index kept → count ≤ index → BeginsAfresh

  -- the alternative that it goes on with, and its state
  abbrev pub resumes_alternative : SliceState S → Type 0
  resumes_alternative Peek = BeginsAfresh
  resumes_alternative (At index kept) = (first ≡ false) × (given ≡ At index kept) × (index < count)

  pub record ResumesAlternative (result : SliceState S) : Type 0 where
    pub is : resumes_alternative result

module _ {X Input U V Checkpoint T R P E : Type 0} (i : stream.Ghosts Input T R P E) (observers : Observers T R P E) where
  -- the call of the alternative at that index
  abbrev pub AlternativeCall : (q : parser.Ghosts X Input U V Checkpoint T R P E) (fresh : U → Type 0) (index : ℕ) (x : X) (first : Bool) (given : U) (kept : SliceState U) (input after : Input) → ParseResult V E → Type 0
  AlternativeCall q fresh index x first given kept input after result = CallsAlternative (world i.step observers i.counts_failures fresh) (q.meaning x) Peek (λ s. At index s) first given kept (i.view input) (i.view after) (i.failures input) (i.failures after) result

  -- the alternatives from that index on, the first of them from that state
  pub record ChoseFrom (cmp : P → P → Ordering) (q : parser.Ghosts X Input U V Checkpoint T R P E) (index : ℕ) (first : Bool) (kept : U) (xs ys : List X) (left : SliceState U) (input after : Input) (result : ParseResult V E) : Type 0 where
    pub lawful : All q.lawful ys
    pub valid : slice_valid q.valid left
    pub same : AllSame q.meaning xs ys
    pub passes : Passes (i.marks input) (i.marks after) (i.failures input) (i.failures after)
    pub answers : Answers (world i.step observers i.counts_failures (λ s. s ≡ Peek)) (choice_of observers cmp q.meaning xs) (record { first = false; state = At index kept; left = left; old = i.view input; new = i.view after; before = i.failures input; after = i.failures after }) result
    pub refuses : Reasoned observers.kind (i.view after).is_open (tried_refuses observers cmp q.meaning (λ x. begun (q.meaning x) first kept) (λ x. begun_refuses (q.meaning x) first kept) (drop index xs) (i.view input) (i.view after)) result
