use Rattle.std.proofs.Common.{map}
use Rattle.std.proofs.lemmas.List.{map-append}
use Rattle.combine_error.specs.Easy.{said}
use Rattle.combine_error.proofs.AppendedItems.{says_more}
use Rattle.combine_error.proofs.easy.Errors.put_all.Goals as goal

pub loop-item-preserved : goal.loop-item-preserved
loop-item-preserved g c =
    rw map-append (says_more _ (map said c.loop-item.yielded) (said c.in-Some.item) _ _ _ c.loop-item.invariant c.put.ensures)
