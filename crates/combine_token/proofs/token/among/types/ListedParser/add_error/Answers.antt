use Rattle.std.proofs.Common.{sym, ◌∙◌}
use Rattle.combine_base.proofs.Parsers.SameMeanings.{same_none}
use Rattle.combine_token.specs.Token.Among.{expects_listed}
use Rattle.combine_token.proofs.Tokens.TwoAdditions.{says_as, says_unstored}
use Rattle.combine_token.proofs.token.among.types.ListedParser.add_error.Goals as goal

pub returns-in-Ok-clause-same : goal.returns-in-Ok-clause-same
returns-in-Ok-clause-same g c = same_none _

pub returns-in-Ok-clause-says : goal.returns-in-Ok-clause-says
returns-in-Ok-clause-says g c = says_as _ (Unit {0}) _ (λ l. tt) _ (expects_listed g.T.Clone.is_clone g.T.IntoIterator.into_iter_gives g.T.IntoIter.Iterator.next_gives c.args.self.now.tokens g.W.Presence.wanted) (λ is k. rw (sym c.is_wanted.ensures ∙ c.if-is_wanted.true) (c.into_iter.result, record { clone = c.in-Ok.list; is_clone = c.in-Ok.ensures.cases; made = c.into_iter.ensures.into_iter_gives }, k)) _ _ c.expect_each.ensures

pub returns-in-Err-clause-same : goal.returns-in-Err-clause-same
returns-in-Err-clause-same g c = same_none _

pub returns-in-Err-clause-says : goal.returns-in-Err-clause-says
returns-in-Err-clause-says g c = says_unstored _ _ _ _ _ c.out_of_memory.ensures.kind c.out_of_memory.ensures.position c.in-Err.ensures.cases
