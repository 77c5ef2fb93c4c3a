use Rattle.combine_base.specs.declared.stream.Kind.TheVariants as kinds
use Rattle.combine_base.proofs.Errors.CallReasons.{reasons_fault}
use Rattle.combine_base.proofs.Parsers.SameMeanings.{same_none}
use Rattle.combine_token.specs.Token.Among.{expects_listed, listed}
use Rattle.combine_token.specs.Token.OneToken.{satisfied}
use Rattle.combine_token.proofs.Tokens.TokenReasons.{token_reasons}
use Rattle.combine_token.proofs.Tokens.OneToken.{takes_if}
use Rattle.combine_token.proofs.token.among.types.ListedParser.parse_mode.Goals as goal

pub returns-clause-same : goal.returns-clause-same
returns-clause-same g c = same_none _

pub returns-clause-answers : goal.returns-clause-answers
returns-clause-answers g c = takes_if _ _ _ (listed g.T.Clone.is_clone g.T.IntoIterator.into_iter_gives g.T.IntoIter.Iterator.next_gives c.args.self.now.tokens g.W.Presence.wanted g.Input.Token.PartialEq.eq) _ _ _ tt _ c.token_if.ensures.reads (λ t b e. (c.into_iter-items.result, record { clone = c.in-Ok.list; is_clone = c.in-Ok.ensures.cases; made = c.into_iter-items.ensures.into_iter_gives }, e))

pub returns-clause-refuses : goal.returns-clause-refuses
returns-clause-refuses g c = token_reasons g.Input.Error.ParseError.observers (satisfied (listed g.T.Clone.is_clone g.T.IntoIterator.into_iter_gives g.T.IntoIter.Iterator.next_gives c.args.self.now.tokens g.W.Presence.wanted g.Input.Token.PartialEq.eq)) (g.T.Clone.is_infallible c.args.self.now.tokens) (expects_listed g.T.Clone.is_clone g.T.IntoIterator.into_iter_gives g.T.IntoIter.Iterator.next_gives c.args.self.now.tokens g.W.Presence.wanted) (g.M.ParseMode.first c.args.mode) c.args.state.now _ _ _ c.token_if.ensures.refuses

pub returns-in-Err-clause-same : goal.returns-in-Err-clause-same
returns-in-Err-clause-same g c = same_none _

pub returns-in-Err-clause-refuses : goal.returns-in-Err-clause-refuses
returns-in-Err-clause-refuses g c = reasons_fault _ _ _ _ kinds.Memory c.new_error.ensures.kind tt
