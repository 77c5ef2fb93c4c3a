-- the errors of the refusals of searches, by how a call is answered
use Rattle.std.specs.Prelude.{not}
use Rattle.std.proofs.Common.{◌≡◌, Bool, true, false, ⊎_elim}
use Rattle.combine_base.specs.Error.Errors.{Observers, Only}
use Rattle.combine_base.specs.Error.Items.{end_of_input}
use Rattle.combine_base.specs.Parser.Reasons.{Reasoned}
use Rattle.combine_base.specs.Refusals.{HasItems}
use Rattle.combine_base.proofs.Errors.CallReasons.{reasons_committed, reasons_fault, reasons_peeked}
use Rattle.combine_base.specs.declared.stream.Kind.TheVariants as kinds
use Rattle.combine_base.specs.declared.error.result.ParseResult.{ParseResult}
use Rattle.combine_base.specs.declared.error.result.ParseResult.TheVariants.{CommitOk, PeekOk, CommitErr, PeekErr}
use Rattle.combine_byte.specs.Search.SearchReasons.{SaysAbsent}
use Rattle.combine_byte.specs.Search.ItemLimit.{RefusesAbsent}

module _ {V T R P E : Type 0} (observers : Observers T R P E) (says : Bool → E → Type 0) (place : P) (is_open empty : Bool) (h : (c : Bool) (e : E) → empty ≡ not c → HasItems observers kinds.End place (Only end_of_input) e → says c e) where
  -- no place was found
  pub reasons_absent : (result : ParseResult V E) → RefusesAbsent observers.kind observers.heapless empty result → SaysAbsent observers place result → Reasoned observers.kind is_open says result
  reasons_absent (CommitOk v) a b = absurd a.is
  reasons_absent (PeekOk v) a b = absurd a.is
  reasons_absent (CommitErr e) a b = ⊎_elim (λ p. reasons_committed observers.kind is_open says e (λ r. h true e p.1 (b.is p.0))) (λ p. reasons_fault observers.kind is_open says e kinds.Memory p.0 tt) a.is
  reasons_absent (PeekErr t) a b = reasons_peeked observers.kind is_open says t (h false t.error a.is.1 b.is)
