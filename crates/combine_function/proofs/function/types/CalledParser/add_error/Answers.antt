use Rattle.combine_base.proofs.Parsers.SameMeanings.{same_none}
use Rattle.combine_function.proofs.function.types.CalledParser.add_error.Goals as goal

pub returns-clause-same : goal.returns-clause-same
returns-clause-same g c = same_none _
