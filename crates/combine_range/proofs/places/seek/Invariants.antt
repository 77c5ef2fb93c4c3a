use Rattle.std.proofs.Common.{length}
use Rattle.combine_base.specs.Stream.Calls.{Passes}
use Rattle.combine_range.specs.WantedRanges.{equal_range}
use Rattle.combine_range.specs.RangeTests.{SoughtRange}
use Rattle.combine_range.proofs.places.seek.Given as goal

abbrev pub invariant-loop-found : goal.invariant-loop-found
invariant-loop-found g l = record {
  passes : Passes (g.Input.StreamOnce.marks l.fn.input) (g.Input.StreamOnce.marks l.input) (g.Input.StreamOnce.failures l.fn.input) (g.Input.StreamOnce.failures l.input);
  sought : SoughtRange g.Input.StreamOnce.counts_failures g.Input.StreamOnce.step g.Input.RangeStream.size g.Input.RangeStream.spells (equal_range g.Input.Range.Range.count g.Input.Range.PartialEq.eq l.fn.wanted)
      (g.Input.StreamOnce.view l.fn.input) (g.Input.StreamOnce.view l.input) (g.Input.StreamOnce.failures l.fn.input) (g.Input.StreamOnce.failures l.input);
}

abbrev pub decreases-loop-found : goal.decreases-loop-found
decreases-loop-found g l = length (g.Input.StreamOnce.view l.input).unread
