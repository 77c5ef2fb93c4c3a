use Rattle.combine_choice.specs.Choice.Or.{or_means_same}
use Rattle.combine_token.proofs.Tokens.TwoAdditions.{says_together}
use Rattle.combine_until.specs.Next.{second_alone}
use Rattle.combine_until.proofs.next.NextParser.add_error.Goals as goal

pub returns-clause-same : goal.returns-clause-same
returns-clause-same g c = or_means_same second_alone _ _ _ _ c.add_error.ensures.same c.add_error-2.ensures.same

pub returns-clause-says : goal.returns-clause-says
returns-clause-says g c = says_together c.add_error.ensures.says c.add_error-2.ensures.says
