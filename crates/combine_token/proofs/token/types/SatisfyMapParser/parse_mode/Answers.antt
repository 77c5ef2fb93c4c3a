use Rattle.combine_base.proofs.Parsers.SameMeanings.{same_none}
use Rattle.combine_base.specs.Error.Errors.{AddsNothing}
use Rattle.combine_token.specs.Token.OneToken.{of_token}
use Rattle.combine_token.proofs.Tokens.TokenReasons.{token_reasons}
use Rattle.combine_token.proofs.Tokens.OneToken.{takes}
use Rattle.combine_token.proofs.token.types.SatisfyMapParser.parse_mode.Goals as goal

pub returns-clause-answers : goal.returns-clause-answers
returns-clause-answers g c = takes _ _ _ _ _ _ _ tt _ c.token_map.ensures.reads (λ i o e. e)

pub returns-clause-same : goal.returns-clause-same
returns-clause-same g c = same_none _

pub returns-clause-refuses : goal.returns-clause-refuses
returns-clause-refuses g c = token_reasons g.Input.Error.ParseError.observers (of_token (g.F.Function.returns c.args.self.now.predicate)) (Unit {0}) AddsNothing (g.M.ParseMode.first c.args.mode) c.args.state.now _ _ _ c.token_map.ensures.refuses
