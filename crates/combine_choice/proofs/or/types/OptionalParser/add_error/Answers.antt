use Rattle.combine_choice.specs.Choice.Optional.{optional_means_same}
use Rattle.combine_choice.proofs.or.types.OptionalParser.add_error.Goals as goal

pub returns-clause-same : goal.returns-clause-same
returns-clause-same g c = optional_means_same _ _ c.add_error.ensures.same
