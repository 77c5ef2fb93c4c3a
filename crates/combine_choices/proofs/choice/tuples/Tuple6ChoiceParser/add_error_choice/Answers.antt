-- written by trials/widths: not to be edited by hand
use Rattle.combine_choice.specs.Choice.Alternatives.{both_merged}
use Rattle.combine_choice.specs.Choice.Or.{or_means_same}
use Rattle.combine_token.proofs.Tokens.TwoAdditions.{says_together}
use Rattle.combine_choices.proofs.choice.tuples.Tuple6ChoiceParser.add_error_choice.Goals as goal

pub returns-clause-same : goal.returns-clause-same
returns-clause-same g c = or_means_same (both_merged g.Input.Error.ParseError.observers g.Input.Position.Ord.cmp) _ _ _ _ (or_means_same (both_merged g.Input.Error.ParseError.observers g.Input.Position.Ord.cmp) _ _ _ _ c.add_error.ensures.same c.add_error-2.ensures.same) (or_means_same (both_merged g.Input.Error.ParseError.observers g.Input.Position.Ord.cmp) _ _ _ _ (or_means_same (both_merged g.Input.Error.ParseError.observers g.Input.Position.Ord.cmp) _ _ _ _ c.add_error-3.ensures.same c.add_error-4.ensures.same) (or_means_same (both_merged g.Input.Error.ParseError.observers g.Input.Position.Ord.cmp) _ _ _ _ c.add_error-5.ensures.same c.add_error-6.ensures.same))

pub returns-clause-says : goal.returns-clause-says
returns-clause-says g c = says_together (says_together c.add_error.ensures.says c.add_error-2.ensures.says) (says_together (says_together c.add_error-3.ensures.says c.add_error-4.ensures.says) (says_together c.add_error-5.ensures.says c.add_error-6.ensures.says))
