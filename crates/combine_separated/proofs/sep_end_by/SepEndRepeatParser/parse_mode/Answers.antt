use Rattle.std.specs.Prelude.{is_none}
use Rattle.combine_separated.specs.SepEndParsers.{sep_end_bounds}
use Rattle.combine_repeat.specs.Turns.Bounds.{turns_means_same}
use Rattle.combine_separated.proofs.sep_end_by.SepEndRepeatParser.parse_mode.Goals as goal

pub returns-clause-same : goal.returns-clause-same
returns-clause-same g c = turns_means_same _ _ (g.B.TurnBounds.bounds (sep_end_bounds c.args.self.now)) is_none _ _ _ _ _ _ c.take_turns.ensures.same

pub returns-clause-answers : goal.returns-clause-answers
returns-clause-answers g c = rw (c.none_yet-start.ensures, c.empty.ensures) at c.take_turns.ensures.answers

pub returns-clause-refuses : goal.returns-clause-refuses
returns-clause-refuses g c = rw (c.none_yet-start.ensures, c.empty.ensures) at c.take_turns.ensures.refuses
