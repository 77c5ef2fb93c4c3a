use Rattle.std.proofs.Common.{◌+◌, ◌≤◌}
use Rattle.combine_token.specs.Token.Lists.IteratedLists.{Gave}
use Rattle.combine_token.proofs.token.lists.answers.pass_list_items.Given as goal

abbrev pub invariant-items : goal.invariant-items
invariant-items g l = record {
  can_next : (goal.iterator-items g).can_next l.items;
  is_finite : (goal.iterator-items g).is_finite l.items;
  gave : Gave (goal.iterator-items g).next_gives l.passed l.initial.items l.items;
  left : l.passed + (goal.iterator-items g).remaining l.items ≤ (goal.iterator-items g).remaining l.initial.items;
}
