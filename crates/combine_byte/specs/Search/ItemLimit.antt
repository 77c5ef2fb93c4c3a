-- tokens passed over up to a number of items, and the refusal where a search finds nothing
use Rattle.std.specs.Prelude.{ℕ, ◌≤◌, ◌≡◌, ◌⊎◌, Bool, true, false, length, take, Result, Ok, Err}
use Rattle.combine_base.specs.Stream.View.{View, Takes, Moves}
use Rattle.combine_base.specs.Parser.Drivers.{Broke}
use Rattle.combine_base.specs.declared.stream.Kind.{Kind}
use Rattle.combine_base.specs.declared.stream.Kind.TheVariants as kinds
use Rattle.combine_base.specs.declared.stream.Failures.{Failures}
use Rattle.combine_base.specs.declared.error.result.ParseResult.{ParseResult}
use Rattle.combine_base.specs.declared.error.result.ParseResult.TheVariants.{CommitOk, PeekOk, CommitErr, PeekErr}
use Rattle.combine_stream.specs.Range.Ranges.{size_of}

module _ {P T : Type 0} (counts_failures : Type 0) (step : P → T → P) (size : T → ℕ) (old new : View P T) (before after : Failures) (most : ℕ) where
  -- as many tokens are passed over as have so many items at most
  pub record UpTo : Type 0 where
    pub count : ℕ
    pub taken : Takes step count old new
    pub few : size_of size (take count old.unread) ≤ most
    pub last : (k : ℕ) → k ≤ length old.unread → size_of size (take k old.unread) ≤ most → k ≤ count
    pub failures : counts_failures → after ≡ before

  abbrev pub passes_up_to : Result Unit Kind → Type 0
  passes_up_to (Ok u) = UpTo
  passes_up_to (Err k) = Broke k before after × Moves step old new

  pub record PassesUpTo (result : Result Unit Kind) : Type 0 where
    pub is : passes_up_to result

module _ {V E : Type 0} (kind : E → Kind) (heapless : Type 0) (empty : Bool) where
  abbrev pub refuses_absent : ParseResult V E → Type 0
  refuses_absent (CommitOk v) = ⊥
  refuses_absent (PeekOk v) = ⊥
  refuses_absent (CommitErr e) = ((kind e ≡ kinds.End) × (empty ≡ false)) ⊎ ((kind e ≡ kinds.Memory) × (heapless → ⊥))
  refuses_absent (PeekErr t) = (kind t.error ≡ kinds.End) × (empty ≡ true)

  -- peeked where nothing is unread, and else committed, unless the error found no memory to say that the input ended
  pub record RefusesAbsent (result : ParseResult V E) : Type 0 where
    pub is : refuses_absent result
