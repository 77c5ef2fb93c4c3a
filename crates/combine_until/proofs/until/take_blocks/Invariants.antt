use Rattle.std.proofs.Common.{◌≡◌, ◌+◌, length, if◌then◌else◌}
use Rattle.combine_base.specs.Stream.View.{View}
use Rattle.combine_base.specs.Parser.Answer.{world}
use Rattle.combine_base.specs.Parser.Meaning.{MeansSame}
use Rattle.combine_base.specs.Stream.Calls.{Passes}
use Rattle.combine_until.specs.Until.{blocks_so_far, some_appended}
use Rattle.combine_until.specs.declared.until.UntilState.TheVariants.{Begin}
use Rattle.combine_until.proofs.UntilCalls.{ReachesBlock}
use Rattle.combine_until.proofs.UntilErrors.{LeadsTo}
use Rattle.combine_until.proofs.until.take_blocks.Given as goal

abbrev pub invariant-turns : goal.invariant-turns
invariant-turns g l = record {
  lawful : g.N.Parser.lawful l.parser;
  valid : g.N.Parser.valid l.running;
  same : MeansSame (g.N.Parser.meaning l.fn.parser) (g.N.Parser.meaning l.parser);
  passes : Passes (g.Input.StreamOnce.marks l.fn.input) (g.Input.StreamOnce.marks l.input) (g.Input.StreamOnce.failures l.fn.input) (g.Input.StreamOnce.failures l.input);
  cleared : l.state ≡ Begin;
  there : (at : View _ _) × (g.Input.ResetStream.stands l.input l.place at) × (ReachesBlock
      (world g.Input.StreamOnce.step g.Input.Error.ParseError.observers g.Input.StreamOnce.counts_failures g.N.PartialState.Default.is_default)
      g.Input.Error.ParseError.observers
      (some_appended g.F.Append.held g.F.Append.none g.F.Append.more g.F.Append.heapless)
      (g.N.Parser.meaning l.fn.parser)
      (g.M.ParseMode.first l.fn.mode) l.fn.state (g.Input.StreamOnce.view l.fn.input) (g.Input.StreamOnce.failures l.fn.input)
      (g.M.ParseMode.first l.fn.mode) l.running at (g.Input.StreamOnce.view l.input) (g.Input.StreamOnce.failures l.input)
      (blocks_so_far g.F.Append.held l.blocks));
  errors : LeadsTo g.Input.StreamOnce.step g.Input.Error.ParseError.observers
      (some_appended g.F.Append.held g.F.Append.none g.F.Append.more g.F.Append.heapless)
      (g.N.Parser.meaning l.fn.parser)
      (g.M.ParseMode.first l.fn.mode) l.fn.state (g.Input.StreamOnce.view l.fn.input)
      (g.M.ParseMode.first l.fn.mode) l.running l.blocks.took_before (g.Input.StreamOnce.view l.input);
}

abbrev pub decreases-turns : goal.decreases-turns
decreases-turns g l = length (g.Input.StreamOnce.view l.input).unread + (if l.blocks.took_before then 1 else 0)
