use Rattle.combine_separated.specs.SeparatedParsers.{sep_bounds}
use Rattle.combine_repeat.specs.Turns.Bounds.{turns_means_same}
use Rattle.combine_repeat.specs.Repeat.Repeated.{no_value_ends}
use Rattle.combine_separated.specs.Separators.{any_given}
use Rattle.combine_separated.proofs.sep_by.SepRepeatParser.parse_mode.Goals as goal

pub returns-clause-same : goal.returns-clause-same
returns-clause-same g c = turns_means_same _ _ (g.B.TurnBounds.bounds (sep_bounds c.args.self.now)) no_value_ends _ _ _ _ _ _ c.take_turns.ensures.same

pub returns-clause-answers : goal.returns-clause-answers
returns-clause-answers g c = rw (c.none_yet-start.ensures, c.empty.ensures) at c.take_turns.ensures.answers

pub take_turns-requires-clause-lawful : goal.take_turns-requires-clause-lawful
take_turns-requires-clause-lawful g c = (any_given, c.requires.lawful.0, c.requires.lawful.1)

pub returns-clause-refuses : goal.returns-clause-refuses
returns-clause-refuses g c = rw (c.none_yet-start.ensures, c.empty.ensures) at c.take_turns.ensures.refuses
