use Rattle.combine_base.specs.declared.stream.Kind.TheVariants as kinds
use Rattle.combine_base.proofs.Parsers.SameMeanings.{same_none}
use Rattle.combine_token.proofs.Tokens.PureValues.{value_given, value_unmade}
use Rattle.combine_base.proofs.Errors.CallReasons.{reasons_peek_ok, reasons_fault}
use Rattle.combine_token.proofs.token.types.ValueParser.parse_mode.Goals as goal

pub returns-in-Ok-clause-same : goal.returns-in-Ok-clause-same
returns-in-Ok-clause-same g c = same_none _

pub returns-in-Ok-clause-answers : goal.returns-in-Ok-clause-answers
returns-in-Ok-clause-answers g c = value_given _ _ _ _ _ _ _ tt _ _ _ c.in-Ok.ensures.cases

pub returns-in-Ok-clause-refuses : goal.returns-in-Ok-clause-refuses
returns-in-Ok-clause-refuses g c = reasons_peek_ok _ _ _ _

pub returns-in-Err-clause-same : goal.returns-in-Err-clause-same
returns-in-Err-clause-same g c = same_none _

pub returns-in-Err-clause-answers : goal.returns-in-Err-clause-answers
returns-in-Err-clause-answers g c = value_unmade _ _ _ _ _ _ _ tt _ _ _ c.new_error.ensures.kind c.in-Err.ensures.cases

pub returns-in-Err-clause-refuses : goal.returns-in-Err-clause-refuses
returns-in-Err-clause-refuses g c = reasons_fault _ _ _ _ kinds.Memory c.new_error.ensures.kind tt
