use Rattle.combine_error.proofs.ReplacedItems.{says_in_place}
use Rattle.combine_error.specs.RewordedErrors.{in_place_same, part_refusals_is_monotone}
use Rattle.combine_error.proofs.error.types.ExpectedInfoTokenRangeParser.add_error.Goals as goal

pub returns-clause-same : goal.returns-clause-same
returns-clause-same g c = in_place_same _ _ _ _ part_refusals_is_monotone c.add_error.ensures.same

pub returns-clause-says : goal.returns-clause-says
returns-clause-says g c = says_in_place g.Input.Error.ParseError.observers g.met.Input.Error.ParseError.tells_apart _ _ _ _ _ _ _ _ c.count_items-kept.ensures c.add_error.ensures.says c.clear_expected_after.ensures c.add_expected.ensures
