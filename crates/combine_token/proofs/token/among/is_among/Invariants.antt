use Rattle.std.proofs.Common.{◌≡◌, false}
use Rattle.combine_token.specs.Token.Among.{YieldsOnly}
use Rattle.combine_token.proofs.token.among.is_among.Given as goal

abbrev pub invariant-items : goal.invariant-items
invariant-items g l = YieldsOnly g.I.Iterator.next_gives (λ x. g.I.Item.PartialEq.eq x l.fn.token ≡ false) l.fn.items l.item-iterator
