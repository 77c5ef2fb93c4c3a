use Rattle.std.proofs.Common.{sym, ◌∙◌}
use Rattle.combine_token.proofs.Lists.FoundItems.{yields_only_none, yields_only_more, found_there, found_nowhere}
use Rattle.combine_token.proofs.token.among.is_among.Goals as goal

pub items-init : goal.items-init
items-init g c = rw c.into_iter-item-iterator.ensures.into_iter_gives (yields_only_none _ _ _)

pub items-preserved : goal.items-preserved
items-preserved g c = yields_only_more _ _ _ _ _ _ c.items.invariant c.in-Some.ensures.steps (sym c.eq.ensures ∙ c.if-eq.false)

pub returns-then-eq : goal.returns-then-eq
returns-then-eq g c = found_there _ _ _ _ _ _ c.items.invariant c.in-Some.ensures.steps (sym c.eq.ensures ∙ c.if-eq.true)

pub returns : goal.returns
returns g c = found_nowhere _ _ _ _ _ c.items.invariant c.in-None.ensures.steps
