-- where the parser that ends the blocks is refused peeked, what that of a block answers is the answer
use Rattle.std.proofs.Common.{◌≡◌, Bool, ap, inr, refl, subst}
use Rattle.std.specs.Prelude.{Option, Some, None}
use Rattle.combine_base.specs.Stream.View.{View}
use Rattle.combine_base.specs.Error.Errors.{Observers}
use Rattle.combine_base.specs.Parser.Meaning.{Meaning, IsMeaning}
use Rattle.combine_base.specs.Parser.Answer.{CallRecord, World, world}
use Rattle.combine_base.specs.declared.stream.Failures.{Failures}
use Rattle.combine_base.specs.declared.error.tracked.Tracked.{Tracked}
use Rattle.combine_base.specs.declared.error.result.ParseResult.{ParseResult}
use Rattle.combine_base.specs.declared.error.result.ParseResult.TheVariants.{CommitOk, PeekOk, CommitErr, PeekErr}
use Rattle.combine_choice.specs.Choice.ChoiceCalls.{Chose, Followed, Tried}
use Rattle.combine_choice.specs.Choice.FirstAlternative.{joined_with_first}
use Rattle.combine_choice.specs.Choice.Or.{either_of, or_valid}
use Rattle.combine_choice.specs.declared.or.OrState.{OrState}
use Rattle.combine_choice.specs.declared.or.OrState.TheVariants.{Peek}
use Rattle.combine_choice.specs.declared.or.first.FirstResult.TheVariants.{RunsLater}
use Rattle.combine_choice.proofs.Choices.HalfCalls.{gone_chose}
use Rattle.combine_until.specs.Next.{second_alone}

alone : {T R P E V : Type 0} (errors : Observers T R P E) (refused : Option (Tracked E)) (answer result : ParseResult V E) → result ≡ answer → joined_with_first errors second_alone refused answer result
alone errors None answer result e = e
alone errors (Some t) (CommitOk v) result e = record { is = e }
alone errors (Some t) (PeekOk v) result e = record { is = e }
alone errors (Some t) (CommitErr k) result e = record { is = e }
alone errors (Some t) (PeekErr u) result e = record { is = rw e refl }

module _ {P T R V S S' E C : Type 0} (step : P → T → P) (errors : Observers T R P E) (counts_failures : Type 0) {fresh valid : S → Type 0} {fresh' valid' : S' → Type 0} {a a' : Meaning P T R E V S} {b b' : Meaning P T R E V S'} (h : IsMeaning fresh valid a) (k : IsMeaning fresh' valid' b) {law law' : Type 0} {x y z : C → View P T → Type 0} {joins : E → E → E → Type 0} {first : Bool} {given none left : OrState S S'} {old now new : View P T} {before so_far after : Failures} {kept : S'} {refused : Option (Tracked E)} {result : ParseResult V E} where
  pub next_chose : Tried (world step errors counts_failures fresh) fresh' valid law a a' x y first given none old now before so_far (RunsLater kept refused) → Followed step errors counts_failures joins fresh' law' valid' b b' y z first kept none left None now new so_far after result → Chose (world step errors counts_failures (λ s. s ≡ Peek)) (law × law') (or_valid valid valid') (either_of second_alone a b) (either_of second_alone a' b') x z (record { first = first; state = given; left = left; old = old; new = new; before = before; after = after }) result
  next_chose t f = gone_chose step errors counts_failures second_alone h k first given none old now before so_far kept refused t (λ a b e j. inr (ap errors.kind j)) new after left result (record { answer = f.answer; stopped = f.stopped; called = f.called; settled = record { is = alone errors refused f.answer result f.settled.is; asks = f.settled.asks; ends = f.settled.ends } })

-- what is known of the parsers that were lent is known of what these are in the end
module _ {P T R V S S' E C X Y : Type 0} (lawful : X → Type 0) (lawful' : Y → Type 0) (m : X → Meaning P T R E V S) (n : Y → Meaning P T R E V S') {joins : E → E → E → Type 0} {w : World P T (OrState S S') E} {accepts : OrState S S' → Type 0} {old : Meaning P T R E V (OrState S S')} {a b : C → View P T → Type 0} {r : CallRecord P T (OrState S S')} {answer : ParseResult V E} {x x' : X} {y y' : Y} where
  pub of_lent : x ≡ x' → y ≡ y' → Chose w (lawful x × lawful' y) accepts old (either_of joins (m x) (n y)) a b r answer → Chose w (lawful x' × lawful' y') accepts old (either_of joins (m x') (n y')) a b r answer
  of_lent p q c = subst (λ z. Chose w (lawful x' × lawful' z) accepts old (either_of joins (m x') (n z)) a b r answer) q (subst (λ z. Chose w (lawful z × lawful' y) accepts old (either_of joins (m z) (n y)) a b r answer) p c)
