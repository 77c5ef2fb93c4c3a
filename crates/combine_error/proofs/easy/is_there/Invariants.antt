use Rattle.std.proofs.Common.{◌≡◌, false, take}
use Rattle.std.specs.List.{list_any}
use Rattle.combine_error.specs.Easy.{item_same, said}
use Rattle.combine_error.proofs.easy.is_there.Given as goal

abbrev pub invariant-loop-error : goal.invariant-loop-error
invariant-loop-error g l = list_any (λ j. item_same g.T.PartialEq.eq g.R.PartialEq.eq (said j) (said l.item)) (take l.error-index l.errors) ≡ false
