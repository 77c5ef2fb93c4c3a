use Rattle.combine_byte.specs.Search.StableFunctions.{stable_is_one}
use Rattle.combine_byte.proofs.laws.stable_has_one_outcome.Goals as goal

pub returns : goal.returns
returns g c = λ f h. stable_is_one _ _ _ f h
