-- what the errors of the refusals of searches are
use Rattle.std.specs.Prelude.{ℕ, ◌≡◌, List, Bool}
use Rattle.combine_base.specs.Error.Errors.{Observers, New, Only}
use Rattle.combine_base.specs.Error.Items.{end_of_input}
use Rattle.combine_base.specs.Refusals.{HasItems}
use Rattle.combine_base.specs.Stream.View.{View, advanced}
use Rattle.combine_base.specs.declared.stream.Kind.TheVariants as kinds
use Rattle.combine_base.specs.declared.error.result.ParseResult.{ParseResult}
use Rattle.combine_base.specs.declared.error.result.ParseResult.TheVariants.{CommitOk, PeekOk, CommitErr, PeekErr}
use Rattle.combine_byte.specs.Search.Searches.{Search, UnfitSearch, Absent, Short, Inner, Split}

module _ {T R P Q E : Type 0} (observers : Observers T R P E) (step : P → T → P) (size : T → ℕ) (spells : Q → List T → Type 0) (s : Search T) where
  -- where no place is found, or too few items are left, the error says that the input ended; where items end inside a token it says nothing
  abbrev pub unfound_says : (d : ℕ) (v : View P T) (committed : Bool) → UnfitSearch size spells s d v committed → E → Type 0
  unfound_says d v committed (Absent m o c) e = HasItems observers kinds.End v.position (Only end_of_input) e
  unfound_says d v committed (Short b o c) e = HasItems observers kinds.End v.position (Only end_of_input) e
  unfound_says d v committed (Inner t c) e = New observers kinds.Refused v.position e
  unfound_says d v committed (Split i c) e = New observers kinds.Refused v.position e

  -- the d items are passed over, and no more; where they end inside a token nothing is
  abbrev pub unfound_leaves : (d : ℕ) (v : View P T) (committed : Bool) → UnfitSearch size spells s d v committed → View P T → Type 0
  unfound_leaves d v committed (Absent m o c) w = w ≡ advanced step m.from v
  unfound_leaves d v committed (Short b o c) w = w ≡ advanced step b.found.from v
  unfound_leaves d v committed (Inner t c) w = w ≡ advanced step t.found.from v
  unfound_leaves d v committed (Split i c) w = w ≡ v

  -- The error of a refusal, where d items are passed over first: made where the call began.
  pub record RefusesSearch (d : ℕ) (v w : View P T) (committed : Bool) (e : E) : Type 0 where
    pub unfit : UnfitSearch size spells s d v committed
    pub leaves : unfound_leaves d v committed unfit w
    pub says : unfound_says d v committed unfit e

module _ {T R P E : Type 0} (observers : Observers T R P E) where
  module _ {V : Type 0} (place : P) where
    abbrev pub says_absent : ParseResult V E → Type 0
    says_absent (CommitOk v) = Unit {0}
    says_absent (PeekOk v) = Unit {0}
    says_absent (CommitErr e) = observers.kind e ≡ kinds.End → HasItems observers kinds.End place (Only end_of_input) e
    says_absent (PeekErr t) = HasItems observers kinds.End place (Only end_of_input) t.error

    -- a refusal says that the input ended
    pub record SaysAbsent (result : ParseResult V E) : Type 0 where
      pub is : says_absent result
