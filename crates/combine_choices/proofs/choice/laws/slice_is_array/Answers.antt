use Rattle.combine_base.proofs.Parsers.SameMeanings.{same_none}
use Rattle.combine_choices.proofs.choice.laws.slice_is_array.Goals as goal

pub returns : goal.returns
returns g c = rw c.requires (same_none _)
