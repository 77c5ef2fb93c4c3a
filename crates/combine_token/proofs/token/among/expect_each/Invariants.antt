use Rattle.combine_token.proofs.Lists.FoundItems.{ExpectsSoFar}
use Rattle.combine_token.proofs.token.among.expect_each.Given as goal

abbrev pub invariant-items : goal.invariant-items
invariant-items g l = ExpectsSoFar g.I.Iterator.next_gives g.E.ParseError.observers l.fn.items l.item-iterator l.fn.error l.error
