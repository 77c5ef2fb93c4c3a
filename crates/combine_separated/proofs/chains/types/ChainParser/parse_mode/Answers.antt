use Rattle.std.proofs.Common.{None, false, subst, sym}
use Rattle.combine_base.proofs.Errors.CallReasons.{reasons_err, reasons_peek_err}
use Rattle.combine_base.proofs.Errors.MeantRefusals.{reasoned_accepted, reasoned_peeked}
use Rattle.combine_base.proofs.Parsers.ValueMap.{mapped_err, mapped_ok, mapped_peek_err, mapped_peek_ok}
use Rattle.combine_base.specs.Parser.ValueMap.{mapped_means_same}
use Rattle.combine_repeat.specs.Turns.Bounds.{turns_means_same}
use Rattle.combine_repeat.specs.Repeat.Repeated.{no_value_ends}
use Rattle.combine_repeat.specs.declared.bounds.Bounds.TheVariants.{OwnFirst}
use Rattle.combine_separated.proofs.FoldRight.{at_least_one}
use Rattle.combine_separated.proofs.chains.types.ChainParser.parse_mode.Goals as goal

pub returns-in-CommitOk-clause-same : goal.returns-in-CommitOk-clause-same
returns-in-CommitOk-clause-same g c = mapped_means_same _ _ _ (turns_means_same _ _ (OwnFirst 1 None) no_value_ends _ _ _ _ _ _ c.take_turns.ensures.same)

pub returns-in-PeekOk-clause-same : goal.returns-in-PeekOk-clause-same
returns-in-PeekOk-clause-same g c = mapped_means_same _ _ _ (turns_means_same _ _ (OwnFirst 1 None) no_value_ends _ _ _ _ _ _ c.take_turns.ensures.same)

pub returns-in-CommitErr-clause-same : goal.returns-in-CommitErr-clause-same
returns-in-CommitErr-clause-same g c = mapped_means_same _ _ _ (turns_means_same _ _ (OwnFirst 1 None) no_value_ends _ _ _ _ _ _ c.take_turns.ensures.same)

pub returns-in-PeekErr-clause-same : goal.returns-in-PeekErr-clause-same
returns-in-PeekErr-clause-same g c = mapped_means_same _ _ _ (turns_means_same _ _ (OwnFirst 1 None) no_value_ends _ _ _ _ _ _ c.take_turns.ensures.same)

pub returns-in-CommitErr-clause-answers : goal.returns-in-CommitErr-clause-answers
returns-in-CommitErr-clause-answers g c = mapped_err _ _ _ _ _ (rw (c.none_yet-start.ensures, c.start.ensures) at c.in-CommitErr.ensures.answers)

pub returns-in-PeekErr-clause-answers : goal.returns-in-PeekErr-clause-answers
returns-in-PeekErr-clause-answers g c = mapped_peek_err _ _ _ _ _ (rw (c.none_yet-start.ensures, c.start.ensures) at c.in-PeekErr.ensures.answers)

pub returns-in-CommitOk-clause-answers : goal.returns-in-CommitOk-clause-answers
returns-in-CommitOk-clause-answers g c = mapped_ok _ _ _ _ _ _ c.fold.ensures (rw (c.none_yet-start.ensures, c.start.ensures) at c.in-CommitOk.ensures.answers)

pub returns-in-PeekOk-clause-answers : goal.returns-in-PeekOk-clause-answers
returns-in-PeekOk-clause-answers g c = mapped_peek_ok _ _ _ _ _ _ c.fold-in-PeekOk.ensures (rw (c.none_yet-start.ensures, c.start.ensures) at c.in-PeekOk.ensures.answers)

pub returns-in-CommitOk-clause-valid : goal.returns-in-CommitOk-clause-valid
returns-in-CommitOk-clause-valid g c = (c.take_turns.ensures.valid, c.take_turns.ensures.sound.kept)

pub returns-in-PeekOk-clause-valid : goal.returns-in-PeekOk-clause-valid
returns-in-PeekOk-clause-valid g c = (c.take_turns.ensures.valid, c.take_turns.ensures.sound.kept)

pub returns-in-CommitErr-clause-valid : goal.returns-in-CommitErr-clause-valid
returns-in-CommitErr-clause-valid g c = (c.take_turns.ensures.valid, c.take_turns.ensures.sound.kept)

pub returns-in-PeekErr-clause-valid : goal.returns-in-PeekErr-clause-valid
returns-in-PeekErr-clause-valid g c = (c.take_turns.ensures.valid, c.take_turns.ensures.sound.kept)

pub fold-requires : goal.fold-requires
fold-requires g c = at_least_one _ _ c.in-CommitOk.ensures.sound.value

pub fold-requires-in-PeekOk : goal.fold-requires-in-PeekOk
fold-requires-in-PeekOk g c = at_least_one _ _ c.in-PeekOk.ensures.sound.value

pub returns-in-CommitOk-clause-refuses : goal.returns-in-CommitOk-clause-refuses
returns-in-CommitOk-clause-refuses g c = reasoned_accepted _

pub returns-in-PeekOk-clause-refuses : goal.returns-in-PeekOk-clause-refuses
returns-in-PeekOk-clause-refuses g c = reasoned_peeked _

pub returns-in-CommitErr-clause-refuses : goal.returns-in-CommitErr-clause-refuses
returns-in-CommitErr-clause-refuses g c = reasons_err _ _ _ _ (rw (c.none_yet-start.ensures, c.start.ensures) at c.in-CommitErr.ensures.refuses)

pub returns-in-PeekErr-clause-refuses : goal.returns-in-PeekErr-clause-refuses
returns-in-PeekErr-clause-refuses g c = reasons_peek_err _ _ _ _ (rw (c.none_yet-start.ensures, c.start.ensures) at c.in-PeekErr.ensures.refuses)

pub take_turns-requires-clause-able : goal.take_turns-requires-clause-able
take_turns-requires-clause-able g c = g.met.D.Direction.takes_operators

pub take_turns-requires-clause-sound : goal.take_turns-requires-clause-sound
take_turns-requires-clause-sound g c = (c.requires.valid.1, rw c.none_yet-start.ensures (subst (λ h. g.D.Gather.sound false h) (sym c.start.ensures) g.met.D.Gather.keeps_sound.begins))
