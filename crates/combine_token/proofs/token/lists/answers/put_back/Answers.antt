use Rattle.std.proofs.Common.{◌≡◌, Ok}
use Rattle.combine_base.specs.Stream.View.{View}
use Rattle.combine_base.specs.Stream.Calls.{ResetTo}
use Rattle.combine_base.specs.declared.stream.Kind.{Kind}
use Rattle.combine_base.specs.declared.stream.Kind.TheVariants as kinds
use Rattle.combine_base.specs.declared.stream.Failures.{Failures}
use Rattle.combine_base.specs.declared.error.tracked.Tracked.{Tracked}
use Rattle.combine_base.specs.declared.error.result.ParseResult.TheVariants.{PeekErr}
use Rattle.combine_token.specs.Token.Lists.ListAnswers.{PutsBackList}
use Rattle.combine_token.proofs.token.lists.answers.put_back.Goals as goal

refuses : {P T V E : Type 0} (counts_failures : Type 0) (step : P → T → P) (kind : E → Kind) (marked : View P T → Type 0) (old new : View P T) (before after : Failures) (t : Tracked E) (u : Unit) → ResetTo counts_failures step marked old new before after (Ok u) → kind t.error ≡ kinds.Refused → PutsBackList {V = V} counts_failures step kind marked old new before after (PeekErr t)
refuses counts_failures step kind marked old new before after t u h k = record { is = (k, h.is.0, h.is.1) }

pub returns-clause-back : goal.returns-clause-back
returns-clause-back g c =
    refuses _ _ g.Input.Error.ParseError.observers.kind _ _ _ _ _ c.from.result _ c.in_default.ensures.to (rw c.from.ensures c.new_error-2.ensures.kind)
