use Rattle.combine_error.specs.SpannedErrors.{spanned_means_same}
use Rattle.combine_error.proofs.spanned.types.SpannedParser.add_error.Goals as goal

pub returns-clause-same : goal.returns-clause-same
returns-clause-same g c = spanned_means_same _ _ _ c.add_error.ensures.same
