use Rattle.combine_token.proofs.Lists.FoundItems.{expects_none_yet, expects_one_more, expects_all}
use Rattle.combine_token.proofs.token.among.expect_each.Goals as goal

pub items-init : goal.items-init
items-init g c = rw c.into_iter-item-iterator.ensures.into_iter_gives (expects_none_yet _ _ _ _)

pub items-preserved : goal.items-preserved
items-preserved g c = expects_one_more _ _ _ _ _ _ _ _ _ c.items.invariant c.in-Some.ensures.steps c.add_expected.ensures

pub returns : goal.returns
returns g c = expects_all _ _ _ _ _ _ _ c.items.invariant c.in-None.ensures.steps
