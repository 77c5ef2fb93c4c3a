-- what a peeked refusal is made to say, and what the drivers answer
use Rattle.std.specs.Prelude.{◌≡◌, ◌<◌, ◌⊎◌, List, [], ◌∷◌, true, false, Result, Ok, Err, Option, Some, None}
use Rattle.combine_base.specs.Stream.View.{View, Moves}
use Rattle.combine_base.specs.Error.Items.{ErrorItem, Unexpected, OfToken}
use Rattle.combine_base.specs.Error.Errors.{Observers, AddsItems}
use Rattle.combine_base.specs.Parser.Meaning.{Meaning, Refusing}
use Rattle.combine_base.specs.Error.Results.{as_result}
use Rattle.combine_base.specs.Parser.DriverAnswers.{IsRefusal}
use Rattle.combine_base.specs.Parser.Answer.{World, CallRecord, Answers}
use Rattle.combine_base.specs.declared.stream.Kind.{Kind}
use Rattle.combine_base.specs.declared.stream.Kind.TheVariants as kinds
use Rattle.combine_base.specs.declared.stream.Failures.{Failures}
use Rattle.combine_base.specs.declared.error.result.ParseResult.{ParseResult}
use Rattle.combine_base.specs.declared.error.result.ParseResult.TheVariants.{CommitOk, PeekOk, CommitErr, PeekErr}

-- a failed read or reset is counted
abbrev pub Broke : Kind → Failures → Failures → Type 0
Broke kinds.Read before after = before.reads < after.reads
Broke kinds.Reset before after = before.resets < after.resets
Broke kinds.Refused before after = ⊥
Broke kinds.End before after = ⊥
Broke kinds.Memory before after = ⊥
Broke kinds.Lost before after = ⊥

-- the token that stands there, if one does, and then what a parser adds
abbrev pub AtToken : {T R : Type 0} → (List (ErrorItem T R) → Type 0) → List T → List (ErrorItem T R) → Type 0
AtToken adds [] is = adds is
AtToken adds (t ∷ ts) [] = ⊥
AtToken adds (t ∷ ts) (i ∷ is) = (i ≡ Unexpected (OfToken t)) × adds is

-- the first token, if there is one
abbrev pub first_token : {T : Type 0} → List T → Option T
first_token [] = None
first_token (t ∷ ts) = Some t

module _ {P T : Type 0} (counts_failures : Type 0) (step : P → T → P) (marked : View P T → Type 0) (old new : View P T) (before after : Failures) where
  -- the stream is put back, but for a failed read or reset, which leaves an end of what was unread there or before the call
  abbrev pub is_put_back : {A : Type 0} → (View P T → A → Type 0) → Result A Kind → Type 0
  is_put_back said (Ok a) = ((v : View P T) → marked v → (new ≡ v) × said v a) × (counts_failures → after ≡ before)
  is_put_back said (Err k) = Broke k before after × ((v : View P T) → marked v → Moves step old new ⊎ Moves step v new)

  -- the first token is looked at
  pub record LooksAt (result : Result (Option T) Kind) : Type 0 where
    pub is : is_put_back (λ v t. t ≡ first_token v.unread) result

  -- the error says what stands there and what was expected
  pub record Explains {R E : Type 0} (s : Observers T R P E) (heapless : Type 0) (adds : List (ErrorItem T R) → Type 0) (e e' : E) (result : Result Unit Kind) : Type 0 where
    pub is : is_put_back (λ v u. AddsItems s heapless (AtToken adds v.unread) e e') result

module _ {P T R V S E : Type 0} (s : Observers T R P E) (m : Meaning P T R E V S) (refuses : Refusing P T E) (old new : View P T) where
  -- what the parser refused with, and what that error was then made to say
  pub record ExplainsRefusal (e : E) : Type 0 where
    pub own : E
    pub left : View P T
    pub refused : refuses old left false own
    pub back : new ≡ old
    pub says : AddsItems s m.heapless (AtToken m.adds old.unread) own e

  abbrev pub explained : ParseResult V E → Type 0
  explained (CommitOk v) = Unit {0}
  explained (PeekOk v) = Unit {0}
  explained (CommitErr e) = IsRefusal new.is_open (s.kind e) → refuses old new true e
  explained (PeekErr t) = ExplainsRefusal t.error

  -- an answer whose refusals have such errors, a peeked one being put back and explained
  pub record Explained (result : ParseResult V E) : Type 0 where
    pub is : explained result

module _ {P T R V S E : Type 0} (w : World P T S E) (m : Meaning P T R E V S) where
  -- a call from a state of its own, which is a default one
  abbrev pub afresh : S → S → View P T → View P T → Failures → Failures → CallRecord P T S
  afresh s l old new before after = record { first = true; state = s; left = l; old = old; new = new; before = before; after = after }

  -- an answer from the start
  pub record Starts (old new : View P T) (before after : Failures) (result : ParseResult V E) : Type 0 where
    pub state : S
    pub left : S
    pub answers : Answers w m (afresh state left old new before after) result

  -- an answer as a result, explained
  pub record Results (s : Observers T R P E) (refuses : Refusing P T E) (r : CallRecord P T S) (result : Result V E) : Type 0 where
    pub answer : ParseResult V E
    pub is : as_result answer ≡ result
    pub answers : Answers w m r answer
    pub explained : Explained s m refuses r.old r.new answer

  -- the same from the start
  pub record StartResults (s : Observers T R P E) (old new : View P T) (before after : Failures) (result : Result V E) : Type 0 where
    pub state : S
    pub left : S
    pub results : Results s m.refuses (afresh state left old new before after) result
