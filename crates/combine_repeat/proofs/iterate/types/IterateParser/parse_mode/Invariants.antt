use Rattle.std.proofs.Common.{◌≡◌}
use Rattle.std.specs.Iterator.{size}
use Rattle.combine_base.specs.Stream.Calls.{Passes}
use Rattle.combine_repeat.specs.ItemParsers.{begins_items}
use Rattle.combine_repeat.specs.ListedItems.{AskedFor, GivesItems, ListsItems, any_of, item_asker, items_part}
use Rattle.combine_repeat.proofs.EachItem.{LoopsItems}
use Rattle.combine_repeat.proofs.iterate.types.IterateParser.parse_mode.Given as goal

abbrev pub invariant-items : goal.invariant-items
invariant-items g l =
    let iterator = g.J.IntoIter.Iterator in
    record {
      self : l.self ≡ l.fn.self;
      cleared : begins_items l.state;
      passes : Passes (g.Input.StreamOnce.marks l.fn.input) (g.Input.StreamOnce.marks l.input) (g.Input.StreamOnce.failures l.fn.input) (g.Input.StreamOnce.failures l.input);
      loops : LoopsItems g.N.Parser g.Input.StreamOnce g.Input.Error.ParseError.observers g.N.PartialState.Default.is_default
          (AskedFor (g.F.MutFunction.returns (item_asker l.fn.self))) (any_of g.Input.StreamOnce g.F.MutFunction g.N.Parser.lawful) g.C.Append.held g.C.Append.none g.C.Append.more
          (GivesItems iterator.can_next iterator.remaining iterator.next_gives)
          (ListsItems iterator.can_next iterator.remaining iterator.next_gives g.J.Clone.is_clone g.J.IntoIterator.into_iter_gives (items_part l.fn.self))
          g.C.Append.heapless (g.C.Append.heapless × g.J.Clone.is_infallible (items_part l.fn.self))
          (g.M.ParseMode.first l.fn.mode) l.fn.state (g.Input.StreamOnce.view l.fn.input) (g.Input.StreamOnce.view l.input) (g.Input.StreamOnce.failures l.fn.input) (g.Input.StreamOnce.failures l.input) l.collected;
    }

abbrev pub decreases-items : goal.decreases-items
decreases-items g l = size (g.J.IntoIter.Iterator.remaining l.collected.items)
