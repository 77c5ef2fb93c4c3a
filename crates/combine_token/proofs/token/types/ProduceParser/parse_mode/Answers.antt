use Rattle.combine_base.proofs.Parsers.SameMeanings.{same_none}
use Rattle.combine_base.proofs.Errors.CallReasons.{reasons_peek_ok}
use Rattle.combine_token.proofs.Tokens.PureValues.{value_given}
use Rattle.combine_token.proofs.token.types.ProduceParser.parse_mode.Goals as goal

pub returns-clause-same : goal.returns-clause-same
returns-clause-same g c = same_none _

pub returns-clause-answers : goal.returns-clause-answers
returns-clause-answers g c = value_given _ _ _ _ _ _ _ tt _ _ _ c.make.ensures

pub returns-clause-refuses : goal.returns-clause-refuses
returns-clause-refuses g c = reasons_peek_ok _ _ _ _
