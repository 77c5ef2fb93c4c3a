use Rattle.std.proofs.Common.{◌+◌, ◌<◌, ◌≡◌, ◌^◌}
use Rattle.std.specs.Option.{option_copied}
use Rattle.combine_base.specs.Parser.Answer.{world}
use Rattle.combine_base.specs.Stream.Calls.{Passes}
use Rattle.combine_token.proofs.Lists.Matches.{Arrived}
use Rattle.combine_token.specs.Token.Lists.IteratedLists.{IsIteratorAfter, iterated_tokens}
use Rattle.combine_token.specs.Token.Lists.ListAnswers.{expecting}
use Rattle.combine_token.specs.declared.token.lists.types.TokensState.{TokensState}
use Rattle.combine_token.proofs.token.lists.match_list.Given as goal

abbrev pub invariant-items : goal.invariant-items
invariant-items g l =
    let list = iterated_tokens g.T.Clone.is_clone g.T.IntoIterator.into_iter_gives g.T.IntoIter.Iterator.next_gives l.fn.list (g.C.Compare.returns l.fn.cmp) in
    record {
      passes : Passes (g.Input.StreamOnce.marks l.fn.input) (g.Input.StreamOnce.marks l.input) (g.Input.StreamOnce.failures l.fn.input) (g.Input.StreamOnce.failures l.input);
      cleared : l.state.matched ≡ 0;
      reached : IsIteratorAfter g.T.Clone.is_clone g.T.IntoIterator.into_iter_gives g.T.IntoIter.Iterator.next_gives l.fn.list l.matched l.item-iterator;
      few : l.matched + (goal.iterator-items g).remaining l.item-iterator < 2 ^ 64;
      arrived : Arrived
          (world g.Input.StreamOnce.step g.Input.Error.ParseError.observers g.Input.StreamOnce.counts_failures (λ (s : TokensState). s.matched ≡ 0))
          g.Input.Error.ParseError.observers list (option_copied l.fn.expected) (g.V.Clone.is_clone l.fn.value) (λ (s : TokensState). s.matched) (g.T.Clone.is_infallible l.fn.list × g.V.Clone.is_infallible l.fn.value) (λ is. is ≡ expecting (option_copied l.fn.expected))
          (g.M.ParseMode.first l.fn.mode) l.fn.state
          l.matched (g.Input.StreamOnce.view l.fn.input) (g.Input.StreamOnce.view l.input) (g.Input.StreamOnce.failures l.fn.input) (g.Input.StreamOnce.failures l.input);
    }
