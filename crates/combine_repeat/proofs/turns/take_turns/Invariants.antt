use Rattle.combine_repeat.specs.declared.turns.Earlier.TheVariants.{Nothing}
use Rattle.std.proofs.Common.{◌≡◌, ◌+◌, length, true}
use Rattle.combine_base.specs.Parser.Answer.{world}
use Rattle.combine_base.specs.Stream.Calls.{Passes}
use Rattle.combine_repeat.specs.Turns.SoundValues.{sound_at}
use Rattle.combine_repeat.specs.Turns.Turn.{TurnsSame, called, started}
use Rattle.combine_repeat.specs.Turns.Bounds.{bounded, gathered, fresh_turns, so_far, turns_from, bounded_is_rule}
use Rattle.combine_repeat.proofs.TurnCalls.{ReachesTurn}
use Rattle.combine_repeat.proofs.RepeatCalls.{idle_turns}
use Rattle.combine_repeat.proofs.TurnRefusals.{LeadsRefusals}
use Rattle.combine_repeat.proofs.turns.take_turns.Given as goal

abbrev pub invariant-turns : goal.invariant-turns
invariant-turns g l = record {
  lawful : g.P.TurnParser.lawful l.parser;
  valid : g.P.TurnParser.valid l.state.running;
  fresh : g.P.Running.Default.is_default l.state.running;
  same : TurnsSame (g.P.TurnParser.meaning l.fn.parser) (g.P.TurnParser.again l.fn.parser) (g.P.TurnParser.meaning l.parser) (g.P.TurnParser.again l.parser);
  passes : Passes (g.Input.StreamOnce.marks l.fn.input) (g.Input.StreamOnce.marks l.input) (g.Input.StreamOnce.failures l.fn.input) (g.Input.StreamOnce.failures l.input);
  cleared : l.state.earlier ≡ Nothing;
  sound : sound_at (λ k i. g.G.Gather.sound k (g.G.Gather.held i)) l.turns;
  reaches : ReachesTurn
      (world g.Input.StreamOnce.step g.Input.Error.ParseError.observers g.Input.StreamOnce.counts_failures g.P.Running.Default.is_default)
      (fresh_turns g.P.Running.Default.is_default)
      (bounded (g.B.TurnBounds.bounds l.fn.bounds) g.P.TurnParser.ending) (bounded_is_rule (g.B.TurnBounds.bounds l.fn.bounds) g.P.TurnParser.ending)
      (gathered g.G.Gather.held g.G.Gather.none g.G.Gather.more g.G.Gather.heapless)
      (λ _. (g.P.TurnParser.again l.fn.parser).reads)
      (called (g.P.TurnParser.meaning l.fn.parser) (g.P.TurnParser.again l.fn.parser) l.later)
      (turns_from g.Input.StreamOnce.step g.Input.Error.ParseError.observers (g.B.TurnBounds.bounds l.fn.bounds) g.P.TurnParser.ending (gathered g.G.Gather.held g.G.Gather.none g.G.Gather.more g.G.Gather.heapless) (so_far g.G.Gather.held l.fn.start) (g.P.TurnParser.meaning l.fn.parser) (g.P.TurnParser.again l.fn.parser))
      (g.M.ParseMode.first l.fn.mode) l.fn.state (g.Input.StreamOnce.view l.fn.input) (g.Input.StreamOnce.failures l.fn.input)
      true l.state.running (g.Input.StreamOnce.view l.input) (g.Input.StreamOnce.failures l.input)
      (so_far g.G.Gather.held l.turns);
  leads : LeadsRefusals
      g.Input.StreamOnce.step g.Input.Error.ParseError.observers (g.B.TurnBounds.bounds l.fn.bounds) g.P.TurnParser.ending
      (gathered g.G.Gather.held g.G.Gather.none g.G.Gather.more g.G.Gather.heapless) (so_far g.G.Gather.held l.fn.start)
      (g.P.TurnParser.meaning l.fn.parser) (g.P.TurnParser.again l.fn.parser)
      (g.M.ParseMode.first l.fn.mode) l.fn.state (g.Input.StreamOnce.view l.fn.input)
      (started (called (g.P.TurnParser.meaning l.fn.parser) (g.P.TurnParser.again l.fn.parser) l.later) true l.state.running)
      l.turns.index l.turns.committed (g.Input.StreamOnce.view l.input);
}

abbrev pub decreases-turns : goal.decreases-turns
decreases-turns g l = length (g.Input.StreamOnce.view l.input).unread + idle_turns (g.B.TurnBounds.bounds l.fn.bounds) l.turns.index
