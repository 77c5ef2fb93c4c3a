-- a call of a parser that has one outcome asks for more exactly where its meaning is undecided
use Rattle.std.proofs.Common.{◌≡◌, Bool, true, false, inl, inr, refl, ◌∙◌, subst, sym}
use Rattle.combine_base.specs.Stream.View.{View}
use Rattle.combine_base.specs.Parser.Answer.{World, CallRecord, Answers, asks_or_refuses, fails, peeks}
use Rattle.combine_base.specs.Parser.Drivers.{afresh}
use Rattle.combine_base.specs.Parser.Meaning.{Meaning, IsSingle}
use Rattle.combine_base.specs.Parser.Outcome.{Refused}
use Rattle.combine_base.proofs.Parsers.Progress.{takes_open}
use Rattle.combine_base.specs.declared.stream.Failures.{Failures}
use Rattle.combine_base.specs.declared.stream.Kind.{Kind}
use Rattle.combine_base.specs.declared.stream.Kind.TheVariants as kinds
use Rattle.combine_base.specs.declared.error.result.ParseResult.{ParseResult}
use Rattle.combine_base.specs.declared.error.result.ParseResult.TheVariants.{CommitOk, PeekOk, CommitErr, PeekErr}
use Rattle.tests_promises.specs.NeedsOfMore.{AsksExactly, is_fault_kind}

module _ {P T R V S E : Type 0} (w : World P T S E) (m : Meaning P T R E V S) (h : IsSingle m.whole) (state left : S) (old new : View P T) (before after : Failures) where
  abbrev run : CallRecord P T S
  run = afresh w m state left old new before after

  at_end : (e : E) → w.kind e ≡ kinds.End → (b : Bool) → old.is_open ≡ b → asks_or_refuses w m run b → AsksExactly w.kind m.whole old new (CommitErr e)
  at_end e i true o y = record { nowhere_else = λ z. y.meant; there = λ u. inl (i, takes_open w.step y.count old new y.taken ∙ o) }
  at_end e i false o y = record {
    nowhere_else = λ z. absurd (let a = takes_open w.step y.leaves.count old new y.leaves.taken in let b = z.1 in cc);
    there = λ u. absurd (let a = h.one old _ _ y.meant u in cc);
  }

  fault : (e : E) (k : Kind) → w.kind e ≡ k → (k ≡ kinds.End → ⊥) → is_fault_kind k → AsksExactly w.kind m.whole old new (CommitErr e)
  fault e k i d y = record { nowhere_else = λ z. absurd (d (sym i ∙ z.0)); there = λ u. inr (subst is_fault_kind (sym i) y) }

  failed : (e : E) (k : Kind) → w.kind e ≡ k → fails w m run k → AsksExactly w.kind m.whole old new (CommitErr e)
  failed e kinds.Refused i y = record { nowhere_else = λ z. absurd (let a = z.0 in cc); there = λ u. absurd (let a = h.one old _ _ y.meant u in cc) }
  failed e kinds.End i y = at_end e i old.is_open refl y
  failed e kinds.Memory i y = fault e kinds.Memory i (λ d. let a = d in cc) tt
  failed e kinds.Read i y = fault e kinds.Read i (λ d. let a = d in cc) tt
  failed e kinds.Reset i y = fault e kinds.Reset i (λ d. let a = d in cc) tt
  failed e kinds.Lost i y = fault e kinds.Lost i (λ d. let a = d in cc) tt

  refused : (k : Kind) → peeks w m run k → m.whole old (Refused false)
  refused kinds.Refused y = y.meant
  refused kinds.End y = y.1.meant
  refused kinds.Memory y = absurd y
  refused kinds.Read y = absurd y
  refused kinds.Reset y = absurd y
  refused kinds.Lost y = absurd y

  pub asks_exactly : (answer : ParseResult V E) → Answers w m run answer → AsksExactly w.kind m.whole old new answer
  asks_exactly (CommitOk v) x = record { nowhere_else = λ z. absurd z; there = λ u. absurd (let a = h.one old _ _ x.is.meant u in cc) }
  asks_exactly (PeekOk v) x = record { nowhere_else = λ z. absurd z; there = λ u. absurd (let a = h.one old _ _ x.is.meant u in cc) }
  asks_exactly (CommitErr e) x = failed e (w.kind e) refl x.is
  asks_exactly (PeekErr t) x = record { nowhere_else = λ z. absurd z; there = λ u. absurd (let a = h.one old _ _ (refused (w.kind t.error) x.is) u in cc) }
