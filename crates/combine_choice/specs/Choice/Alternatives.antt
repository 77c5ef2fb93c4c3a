-- what the alternatives of a choice answer and say together
use Rattle.std.specs.Prelude.{◌≡◌}
use Rattle.std.specs.declared.cmp.Ordering.{Ordering}
use Rattle.combine_base.specs.Error.Errors.{Observers, IsFault, JoinedErrors, later_position}
use Rattle.combine_base.specs.declared.stream.Kind.{Kind}
use Rattle.combine_base.specs.declared.stream.Kind.TheVariants as kinds
use Rattle.combine_base.specs.declared.error.result.ParseResult.{ParseResult}
use Rattle.combine_base.specs.declared.error.result.ParseResult.TheVariants.{CommitOk, PeekOk, CommitErr, PeekErr}

module _ {V E : Type 0} (kind : E → Kind) where
  -- a peeked error is no fault
  abbrev pub PeeksNoFault : ParseResult V E → Type 0
  PeeksNoFault (CommitOk v) = Unit {0}
  PeeksNoFault (PeekOk v) = Unit {0}
  PeeksNoFault (CommitErr e) = Unit {0}
  PeeksNoFault (PeekErr t) = IsFault (kind t.error) → ⊥

-- the errors of two alternatives are merged, in order
abbrev pub both_merged : {T R P E : Type 0} → Observers T R P E → (P → P → Ordering) → E → E → E → Type 0
both_merged s cmp first second e = JoinedErrors s (later_position cmp (s.position first) (s.position second)) first second e

module _ {T R P V E : Type 0} (s : Observers T R P E) (joins : E → E → E → Type 0) (first : E) where
  -- the first alternative's error and a later one's, as one peeked refusal, unless an item found no memory
  abbrev pub refuses_both : E → ParseResult V E → Type 0
  refuses_both second (CommitOk v) = ⊥
  refuses_both second (PeekOk v) = ⊥
  refuses_both second (CommitErr e) = (s.kind e ≡ kinds.Memory) × (s.heapless → ⊥)
  refuses_both second (PeekErr t) = joins first second t.error

  abbrev pub after_refusal : ParseResult V E → ParseResult V E → Type 0
  after_refusal (CommitOk v) result = result ≡ CommitOk v
  after_refusal (PeekOk v) result = result ≡ PeekOk v
  after_refusal (CommitErr e) result = result ≡ CommitErr e
  after_refusal (PeekErr t) result = refuses_both t.error result

  -- the answer of the later alternatives; where they are refused peeked too, their error and the first one's are joined
  pub record AfterRefusal (answer result : ParseResult V E) : Type 0 where
    pub is : after_refusal answer result
