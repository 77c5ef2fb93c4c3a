use Rattle.std.proofs.Common.{length}
use Rattle.combine_separated.specs.Chains.{all_good, folded_right}
use Rattle.combine_separated.proofs.operands.fold_right.Given as goal

abbrev pub invariant-folding : goal.invariant-folding
invariant-folding g l = all_good (g.O.Folds.callable) l.before.items × ((r : g.row.V.Denot) → folded_right (λ f x y r. g.O.Folds.answers f x y r) l.before.items l.last r → folded_right (λ f x y r. g.O.Folds.answers f x y r) l.fn.before.items l.fn.last r)

abbrev pub decreases-folding : goal.decreases-folding
decreases-folding g l = length l.before.items
