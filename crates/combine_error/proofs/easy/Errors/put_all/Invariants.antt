use Rattle.std.proofs.Common.{◌≡◌, map}
use Rattle.combine_error.specs.Easy.{said, listed_errors}
use Rattle.combine_base.specs.Error.Errors.{AddsItems}
use Rattle.combine_error.proofs.easy.Errors.put_all.Given as goal

abbrev pub invariant-loop-item : goal.invariant-loop-item
invariant-loop-item g l = AddsItems (listed_errors g.T.PartialEq.eq g.R.PartialEq.eq) (Unit {0}) (λ is. is ≡ map said l.yielded) l.fn.self l.self
