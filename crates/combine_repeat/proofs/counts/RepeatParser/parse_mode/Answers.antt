use Rattle.combine_repeat.specs.Repeat.Repeated.{repeated_means_same}
use Rattle.combine_repeat.specs.Repeat.RepeatParsers.{repeat_bounds}
use Rattle.combine_repeat.proofs.counts.RepeatParser.parse_mode.Goals as goal

pub returns-clause-same : goal.returns-clause-same
returns-clause-same g c = repeated_means_same _ g.Input.Error.ParseError.observers (g.B.TurnBounds.bounds (repeat_bounds c.args.self.now)) _ _ _ c.take_turns.ensures.same.meaning

pub returns-clause-answers : goal.returns-clause-answers
returns-clause-answers g c = rw (c.none_yet.ensures, c.in-Ok.ensures) at c.take_turns.ensures.answers

pub returns-clause-refuses : goal.returns-clause-refuses
returns-clause-refuses g c = rw (c.none_yet.ensures, c.in-Ok.ensures) at c.take_turns.ensures.refuses

pub take_turns-requires-clause-sound : goal.take_turns-requires-clause-sound
take_turns-requires-clause-sound g c = (λ t e. g.met.G.Collect.holds_any _ _, g.met.G.Collect.holds_any _ _)
