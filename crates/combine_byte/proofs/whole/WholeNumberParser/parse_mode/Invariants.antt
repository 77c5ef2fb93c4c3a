use Rattle.std.proofs.Common.{◌≡◌, ◌<◌, ◌^◌, take}
use Rattle.combine_base.specs.Stream.View.{Takes}
use Rattle.combine_base.specs.Stream.Calls.{Passes}
use Rattle.combine_byte.proofs.whole.WholeNumberParser.parse_mode.Given as goal

abbrev pub invariant-bytes : goal.invariant-bytes
invariant-bytes g l = record {
  passes : Passes (g.Input.StreamOnce.marks l.fn.input) (g.Input.StreamOnce.marks l.input) (g.Input.StreamOnce.failures l.fn.input) (g.Input.StreamOnce.failures l.input);
  taken : Takes g.Input.StreamOnce.step l.count (g.Input.StreamOnce.view l.fn.input) (g.Input.StreamOnce.view l.input);
  failures : g.Input.StreamOnce.counts_failures → g.Input.StreamOnce.failures l.input ≡ g.Input.StreamOnce.failures l.fn.input;
  value : l.sum ≡ g.O.Order.number (take l.count (g.Input.StreamOnce.view l.fn.input).unread);
  fits : l.sum < 256 ^ l.count;
}
