use Rattle.combine_base.proofs.Parsers.SameMeanings.{same_none}
use Rattle.std.specs.Prelude.{None}
use Rattle.combine_base.specs.Error.Errors.{AddsNothing}
use Rattle.combine_token.specs.Token.Lists.IteratedLists.{iterated_tokens}
use Rattle.combine_token.specs.Token.TokenParsers.{matched_before}
use Rattle.combine_token.proofs.Lists.ListReasons.{list_reasons}
use Rattle.combine_token.proofs.Lists.GivenItems.{answers_cloned}
use Rattle.combine_token.proofs.token.lists.types.TokensCmpParser.parse_mode.Goals as goal

pub returns-clause-same : goal.returns-clause-same
returns-clause-same g c = same_none _

pub returns-clause-answers : goal.returns-clause-answers
returns-clause-answers g c = answers_cloned _ _ _ _ _ _ _ _ _ _ c.match_list.ensures.answers

pub returns-clause-refuses : goal.returns-clause-refuses
returns-clause-refuses g c = list_reasons g.Input.Error.ParseError.observers (iterated_tokens g.T.Clone.is_clone g.T.IntoIterator.into_iter_gives g.T.IntoIter.Iterator.next_gives c.args.self.now.tokens (g.C.Compare.returns c.args.self.now.cmp)) None (g.T.Clone.is_clone c.args.self.now.tokens) matched_before (g.T.Clone.is_infallible c.args.self.now.tokens) AddsNothing (g.M.ParseMode.first c.args.mode) c.args.state.now _ _ _ c.match_list.ensures.refuses
