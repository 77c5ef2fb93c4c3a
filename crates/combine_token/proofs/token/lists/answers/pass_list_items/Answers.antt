use Rattle.std.proofs.Common.{◌≡◌, arith}
use Rattle.combine_token.proofs.Lists.IteratorCalls.{gave_more}
use Rattle.combine_token.proofs.token.lists.answers.pass_list_items.Goals as goal

pub items-preserved : goal.items-preserved
items-preserved g c =
    let i = c.items.invariant in
    let o = c.in-Some.ensures.goes.on i.is_finite in
    record { can_next = o.0; is_finite = o.1; gave = gave_more _ _ _ _ _ _ i.gave c.in-Some.ensures.steps; left = omega (arith, o.2) }

pub returns-clause-gave : goal.returns-clause-gave
returns-clause-gave g c =
    let e : c.items.passed ≡ c.args.n = omega (arith, c.items-test.false, c.items.auto.passed-end) in
    rw e at c.items.invariant.gave
