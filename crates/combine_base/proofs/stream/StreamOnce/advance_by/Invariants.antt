use Rattle.std.proofs.Common.{◌≡◌}
use Rattle.combine_base.specs.Stream.View.{Takes}
use Rattle.combine_base.specs.Stream.Calls.{Passes}
use Rattle.combine_base.proofs.stream.StreamOnce.advance_by.Given as goal

abbrev pub invariant-tokens : goal.invariant-tokens
invariant-tokens g l = record {
  passes : Passes (g.Self.StreamOnce.marks l.fn.self) (g.Self.StreamOnce.marks l.self) (g.Self.StreamOnce.failures l.fn.self) (g.Self.StreamOnce.failures l.self);
  taken : Takes g.Self.StreamOnce.step l.passed (g.Self.StreamOnce.view l.fn.self) (g.Self.StreamOnce.view l.self);
  failures : g.Self.StreamOnce.counts_failures → g.Self.StreamOnce.failures l.self ≡ g.Self.StreamOnce.failures l.fn.self;
}
