use Rattle.std.proofs.Common.{sym, ◌∙◌}
use Rattle.combine_error.proofs.SpannedAnswers.{equal_is, spans_at_one}
use Rattle.combine_error.proofs.spanned.types.set_span.Goals as goal

pub returns-then-is_eq : goal.returns-then-is_eq
returns-then-is_eq g c = spans_at_one g.Q.Ord.cmp _ c.in-Some.place _ _ _ (sym c.position.ensures ∙ c.in-Some.is) (sym c.cmp.ensures ∙ equal_is _ (sym c.is_eq.ensures ∙ c.if-is_eq.true)) c.set_position.ensures
