use Rattle.combine_choices.specs.SliceCalls.{PastLast}
use Rattle.combine_choices.proofs.choice.slice.running.Goals as goal

pub returns-else-index-count : goal.returns-else-index-count
returns-else-index-count g c =
    record { is = PastLast (rw c.is_first.ensures at c.if-is_first.false) c.in-At.index c.in-At.state c.in-At.is c.if-index-count.false }
