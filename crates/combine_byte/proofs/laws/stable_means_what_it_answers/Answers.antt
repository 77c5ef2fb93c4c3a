use Rattle.combine_byte.specs.Search.StableFunctions.{found_is, missing_is, searching_as}
use Rattle.combine_byte.proofs.laws.stable_means_what_it_answers.Goals as goal

pub returns : goal.returns
returns g c = λ f h d v o. searching_as _ _ _ (found_is _ _ _ f h) (missing_is _ _ _ f h) d.items _ v o
