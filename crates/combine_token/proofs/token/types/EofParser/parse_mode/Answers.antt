use Rattle.combine_base.proofs.Parsers.SameMeanings.{same_none}
use Rattle.combine_token.specs.Token.OneToken.{ends_there}
use Rattle.combine_base.specs.Error.Errors.{Only}
use Rattle.std.specs.Prelude.{codes}
use Rattle.combine_base.specs.Error.Items.{Expected, Fixed}
use Rattle.combine_token.proofs.Tokens.TokenReasons.{token_reasons}
use Rattle.combine_token.proofs.Tokens.OneToken.{takes}
use Rattle.combine_token.proofs.token.types.EofParser.parse_mode.Goals as goal

pub returns-clause-answers : goal.returns-clause-answers
returns-clause-answers g c = takes _ _ _ ends_there _ _ _ tt _ c.one_token.ensures.reads (λ i o e. e.1)

pub returns-clause-same : goal.returns-clause-same
returns-clause-same g c = same_none _

pub returns-clause-refuses : goal.returns-clause-refuses
returns-clause-refuses g c = token_reasons g.Input.Error.ParseError.observers ends_there (Unit {0}) (Only (Expected (Fixed (codes "end of input")))) (g.M.ParseMode.first c.args.mode) c.args.state.now _ _ _ c.one_token.ensures.refuses
