use Rattle.combine_choice.specs.HeldParser.{held_means_same}
use Rattle.combine_choice.specs.Variants2.{pick_left, pick_right}
use Rattle.combine_choice.proofs.variants.either.EitherParser.add_error.Goals as goal

pub returns-in-Left-clause-same : goal.returns-in-Left-clause-same
returns-in-Left-clause-same g c = rw c.in-Left.is (held_means_same pick_left _ _ c.add_error.ensures.same)

pub returns-in-Right-clause-same : goal.returns-in-Right-clause-same
returns-in-Right-clause-same g c = rw c.in-Right.is (held_means_same pick_right _ _ c.add_error-in-Right.ensures.same)
