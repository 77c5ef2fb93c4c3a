-- how the match of a list is answered
use Rattle.std.specs.Prelude.{◌≡◌, ◌<◌, ◌⊎◌, List, [], ◌∷◌, Bool, true, false, Option, Some, None}
use Rattle.combine_base.specs.Stream.View.{View, Moves}
use Rattle.combine_base.specs.Error.Items.{ErrorItem, Unexpected, Expected, OfToken, shown}
use Rattle.combine_base.specs.Error.Errors.{Observers, New, AddsItems}
use Rattle.combine_base.specs.declared.error.info.Info.{Info}
use Rattle.combine_base.specs.declared.stream.Kind.{Kind}
use Rattle.combine_base.specs.declared.stream.Kind.TheVariants as kinds
use Rattle.combine_base.specs.declared.stream.Failures.{Failures}
use Rattle.combine_base.specs.declared.error.result.ParseResult.{ParseResult}
use Rattle.combine_base.specs.declared.error.result.ParseResult.TheVariants.{CommitOk, PeekOk, CommitErr, PeekErr}

module _ {V E : Type 0} (kind : E → Kind) (gives : V → Type 0) (infallible : Type 0) (committed : Bool) where
  abbrev pub accepts_list : ParseResult V E → Type 0
  accepts_list (CommitOk v) = gives v × (committed ≡ true)
  accepts_list (PeekOk v) = gives v × (committed ≡ false)
  accepts_list (CommitErr e) = (kind e ≡ kinds.Memory) × (infallible → ⊥)
  accepts_list (PeekErr t) = ⊥

  -- an acceptance with such a value, unless making it found no memory
  pub record AcceptsList (result : ParseResult V E) : Type 0 where
    pub is : accepts_list result

module _ {P T V E : Type 0} (counts_failures : Type 0) (step : P → T → P) (kind : E → Kind) (marked : View P T → Type 0) (old new : View P T) (before after : Failures) where
  abbrev pub puts_back_list : ParseResult V E → Type 0
  puts_back_list (CommitOk v) = ⊥
  puts_back_list (PeekOk v) = ⊥
  puts_back_list (CommitErr e) = (kind e ≡ kinds.Reset) × Moves step old new × (before.resets < after.resets)
  puts_back_list (PeekErr t) = (kind t.error ≡ kinds.Refused) × ((v : View P T) → marked v → new ≡ v) × (counts_failures → after ≡ before)

  -- a peeked refusal with the stream put back, unless the reset failed
  pub record PutsBackList (result : ParseResult V E) : Type 0 where
    pub is : puts_back_list result

-- what was expected, if that is said
abbrev pub expecting : {T R : Type 0} → Option (Info T R) → List (ErrorItem T R)
expecting None = []
expecting (Some info) = Expected (shown info) ∷ []

-- the error of a refusal, which says which token stands there and what was expected
pub record Mismatch {T R P E : Type 0} (s : Observers T R P E) (position : P) (token : T) (expected : Option (Info T R)) (e : E) : Type 0 where
  pub own : E
  pub new : New s kinds.Refused position own
  pub says : AddsItems s (Unit {0}) (λ is. is ≡ Unexpected (OfToken token) ∷ expecting expected) own e

module _ {V E : Type 0} (kind : E → Kind) (heapless : Type 0) (is_open committed : Bool) (why : Kind) where
  abbrev pub finds_none : ParseResult V E → Type 0
  finds_none (CommitOk v) = ⊥
  finds_none (PeekOk v) = ⊥
  finds_none (CommitErr e) = ((kind e ≡ why) × (why ≡ kinds.End → is_open ≡ false → committed ≡ true)) ⊎ ((kind e ≡ kinds.Memory) × (heapless → ⊥))
  finds_none (PeekErr t) = (kind t.error ≡ kinds.End) × (why ≡ kinds.End) × (is_open ≡ false) × (committed ≡ false)

  -- a read gave no token: at the end of an ended list it is a refusal, unless an item of it found no memory
  pub record FindsNone (result : ParseResult V E) : Type 0 where
    pub is : finds_none result
