use Rattle.std.proofs.Common.{arith, of_calls}
use Rattle.combine_separated.proofs.FoldRight.{fold_last, fold_none, last_good}
use Rattle.combine_separated.proofs.operands.fold_right.Goals as goal

pub folding-preserved : goal.folding-preserved
folding-preserved g c = ((last_good _ c.pop.new.self.items c.in-Some.left (rw c.in-Some.ensures.items at c.folding.invariant.0)).0, λ r h. c.folding.invariant.1 r (rw c.in-Some.ensures.items (fold_last (λ f x y r. g.O.Folds.answers f x y r) c.pop.new.self.items c.in-Some.left c.folding.last c.fold_two-last.result r c.fold_two-last.ensures h)))

pub returns : goal.returns
returns g c = c.folding.invariant.1 c.folding.last (fold_none _ c.folding.before.items c.folding.last (omega (arith, c.in_default.ensures.cases.0, c.folding.before.ok.0)))

pub fold_two-last-requires : goal.fold_two-last-requires
fold_two-last-requires g c = search (of_calls, (last_good _ c.pop.new.self.items c.in-Some.left (rw c.in-Some.ensures.items at c.folding.invariant.0)).1)
