-- a choice whose alternatives were refused peeked one after the other, with their errors joined
use Rattle.std.proofs.Common.{◌≡◌, ◌⊎◌, inl, inr}
use Rattle.std.specs.declared.cmp.Ordering.{Ordering}
use Rattle.combine_base.specs.Error.Errors.{Observers, IsFault, joined_kind}
use Rattle.combine_base.specs.Parser.Meaning.{Meaning}
use Rattle.combine_base.specs.Parser.Answer.{CallRecord, World, Answers, world, peeks}
use Rattle.combine_base.proofs.Errors.CallErrors.{peeked_refusal}
use Rattle.combine_base.specs.declared.stream.Kind.{Kind}
use Rattle.combine_base.specs.declared.stream.Kind.TheVariants as kinds
use Rattle.combine_base.specs.declared.error.tracked.Tracked.{Tracked}
use Rattle.combine_base.specs.declared.error.result.ParseResult.{ParseResult}
use Rattle.combine_base.specs.declared.error.result.ParseResult.TheVariants.{CommitOk, PeekOk, CommitErr, PeekErr}
use Rattle.combine_choice.specs.Choice.Alternatives.{AfterRefusal, both_merged, refuses_both}

module _ {P T R V S E : Type 0} (w : World P T S E) (m : Meaning P T R E V S) (r : CallRecord P T S) where
  peeks_no_fault : (k : Kind) → peeks w m r k → IsFault k → ⊥
  peeks_no_fault kinds.Refused p i = i
  peeks_no_fault kinds.End p i = i
  peeks_no_fault kinds.Memory p i = p
  peeks_no_fault kinds.Read p i = p
  peeks_no_fault kinds.Reset p i = p
  peeks_no_fault kinds.Lost p i = p

  -- a peeked error is no fault
  pub no_fault : (t : Tracked E) → Answers w m r (PeekErr t) → IsFault (w.kind t.error) → ⊥
  no_fault t p = peeks_no_fault (w.kind t.error) p.is

-- what is joined of two errors has the kind that is joined of theirs, or that of the second
abbrev pub JoinsKinds : {T R P E : Type 0} → Observers T R P E → (E → E → E → Type 0) → Type 0
JoinsKinds {E = E} s joins = (a b e : E) → joins a b e → (s.kind e ≡ joined_kind (s.kind a) (s.kind b)) ⊎ (s.kind e ≡ s.kind b)

pub merged_kinds : {T R P E : Type 0} (s : Observers T R P E) (cmp : P → P → Ordering) → JoinsKinds s (both_merged s cmp)
merged_kinds s cmp a b e j = inl j.kind

module _ {P T R V S E : Type 0} (step : P → T → P) (s : Observers T R P E) (counts_failures : Type 0) (fresh : S → Type 0) (m : Meaning P T R E V S) (r : CallRecord P T S) (joins : E → E → E → Type 0) (kinds_of : JoinsKinds s joins) (first : E) (n : IsFault (s.kind first) → ⊥) where
  kind_joins : (j k : Kind) → (IsFault j → ⊥) → peeks (world step s counts_failures fresh) m r k → peeks (world step s counts_failures fresh) m r (joined_kind j k)
  kind_joins kinds.End k n p = p
  kind_joins kinds.Refused k n p = peeked_refusal (world step s counts_failures fresh) m r k p
  kind_joins kinds.Memory k n p = absurd (n tt)
  kind_joins kinds.Read k n p = absurd (n tt)
  kind_joins kinds.Reset k n p = absurd (n tt)
  kind_joins kinds.Lost k n p = absurd (n tt)

  both : (t : Tracked E) (result : ParseResult V E) → Answers (world step s counts_failures fresh) m r (PeekErr t) → refuses_both s joins first t.error result → Answers (world step s counts_failures fresh) m r result
  both t (CommitOk v) p h = absurd h
  both t (PeekOk v) p h = absurd h
  both t (CommitErr e) p h =
      let y = peeked_refusal (world step s counts_failures fresh) m r (s.kind t.error) p.is in
      record { is = rw h.0 (λ f l. h.1 f, y.leaves) }
  both t (PeekErr e) p h =
      elim (kinds_of first t.error e.error h) [
        | inl i ↦ record { is = rw i (kind_joins (s.kind first) (s.kind t.error) n p.is) }
        | inr i ↦ record { is = rw i p.is }
      ]

  pub merged_answers : (answer result : ParseResult V E) → Answers (world step s counts_failures fresh) m r answer → AfterRefusal s joins first answer result → Answers (world step s counts_failures fresh) m r result
  merged_answers (CommitOk v) result p h = rw h.is p
  merged_answers (PeekOk v) result p h = rw h.is p
  merged_answers (CommitErr e) result p h = rw h.is p
  merged_answers (PeekErr t) result p h = both t result p h.is
