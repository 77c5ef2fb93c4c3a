use Rattle.std.proofs.Common.{ℕ, ◌≡◌, ◌≤◌, length, take}
use Rattle.combine_base.specs.Stream.Calls.{Passes}
use Rattle.combine_stream.specs.Range.Ranges.{size_of}
use Rattle.combine_byte.proofs.absence.pass_up_to.Given as goal

abbrev pub invariant-loop-range : goal.invariant-loop-range
invariant-loop-range g l = record {
  passes : Passes (g.Input.StreamOnce.marks l.fn.input) (g.Input.StreamOnce.marks l.input) (g.Input.StreamOnce.failures l.fn.input) (g.Input.StreamOnce.failures l.input);
  same : g.Input.StreamOnce.view l.input ≡ g.Input.StreamOnce.view l.fn.input;
  failures : g.Input.StreamOnce.counts_failures → g.Input.StreamOnce.failures l.input ≡ g.Input.StreamOnce.failures l.fn.input;
  few : l.items ≤ l.fn.most;
  within : l.items ≤ size_of g.Input.RangeStream.size (g.Input.StreamOnce.view l.fn.input).unread;
  last : (k : ℕ) → k ≤ length (g.Input.StreamOnce.view l.fn.input).unread → size_of g.Input.RangeStream.size (take k (g.Input.StreamOnce.view l.fn.input).unread) ≤ l.fn.most → size_of g.Input.RangeStream.size (take k (g.Input.StreamOnce.view l.fn.input).unread) ≤ l.items;
}

abbrev pub decreases-loop-range : goal.decreases-loop-range
decreases-loop-range g l = l.items
