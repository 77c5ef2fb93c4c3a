use Rattle.std.proofs.Common.{◌≡◌, take}
use Rattle.combine_base.specs.Stream.View.{Takes}
use Rattle.combine_base.specs.Stream.Calls.{Passes}
use Rattle.combine_combinator.specs.RecognizedTokens.{all_more}
use Rattle.combine_combinator.proofs.collecting.collect.Given as goal

abbrev pub invariant-tokens : goal.invariant-tokens
invariant-tokens g l = record {
  passes : Passes (g.Input.StreamOnce.marks l.fn.input) (g.Input.StreamOnce.marks l.input) (g.Input.StreamOnce.failures l.fn.input) (g.Input.StreamOnce.failures l.input);
  taken : Takes g.Input.StreamOnce.step l.taken (g.Input.StreamOnce.view l.fn.input) (g.Input.StreamOnce.view l.input);
  held : g.F.Append.held l.into ≡ all_more g.F.Append.more (g.F.Append.held l.fn.into) (take l.taken (g.Input.StreamOnce.view l.fn.input).unread);
  failures : g.Input.StreamOnce.counts_failures → g.Input.StreamOnce.failures l.input ≡ g.Input.StreamOnce.failures l.fn.input;
}
