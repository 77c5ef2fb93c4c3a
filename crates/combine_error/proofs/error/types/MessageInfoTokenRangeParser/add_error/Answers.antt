use Rattle.combine_error.proofs.ReplacedItems.{says_and_then}
use Rattle.combine_error.specs.RewordedErrors.{with_one_more_same, refuses_with_item_is_monotone}
use Rattle.combine_error.proofs.error.types.MessageInfoTokenRangeParser.add_error.Goals as goal

pub returns-clause-same : goal.returns-clause-same
returns-clause-same g c = with_one_more_same _ _ _ _ (refuses_with_item_is_monotone g.Input.Error.ParseError.observers _) c.add_error.ensures.same

pub returns-clause-says : goal.returns-clause-says
returns-clause-says g c = says_and_then g.Input.Error.ParseError.observers _ _ _ _ _ _ c.add_error.ensures.says c.add_message.ensures
