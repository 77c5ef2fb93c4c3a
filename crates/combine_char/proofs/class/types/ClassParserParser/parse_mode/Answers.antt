use Rattle.combine_base.proofs.Parsers.SameMeanings.{same_none}
use Rattle.combine_base.specs.Error.Errors.{Only}
use Rattle.combine_base.specs.Error.Items.{Expected, Fixed}
use Rattle.combine_token.specs.Token.OneToken.{of_function, satisfied}
use Rattle.combine_token.proofs.Tokens.TokenReasons.{token_reasons}
use Rattle.combine_token.proofs.Tokens.OneToken.{takes_if}
use Rattle.combine_char.proofs.class.types.ClassParserParser.parse_mode.Goals as goal

pub returns-clause-answers : goal.returns-clause-answers
returns-clause-answers g c = takes_if _ _ _ _ _ _ _ tt _ c.token_if.ensures.reads (λ t b e. e)

pub returns-clause-same : goal.returns-clause-same
returns-clause-same g c = same_none _

pub returns-clause-refuses : goal.returns-clause-refuses
returns-clause-refuses g c = token_reasons g.Input.Error.ParseError.observers (satisfied (of_function g.C.Class.members)) (Unit {0}) (Only (Expected (Fixed g.C.Class.bytes))) (g.M.ParseMode.first c.args.mode) c.args.state.now _ _ _ c.token_if.ensures.refuses
