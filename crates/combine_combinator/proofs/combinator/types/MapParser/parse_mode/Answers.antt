use Rattle.combine_base.proofs.Parsers.GivenValues.{good_ok, good_peek_ok}
use Rattle.combine_base.proofs.Parsers.ValueMap.{mapped_err, mapped_ok, mapped_peek_err, mapped_peek_ok}
use Rattle.combine_base.specs.Parser.ValueMap.{mapped_means_same}
use Rattle.combine_base.proofs.Errors.CallReasons.{reasons_err, reasons_peek_err}
use Rattle.combine_combinator.proofs.combinator.types.MapParser.parse_mode.Goals as goal

pub call-requires : goal.call-requires
call-requires g c = good_ok _ _ _ _ _ _ c.requires.lawful.1 c.requires.valid c.in-CommitOk.ensures.answers

pub call-requires-in-PeekOk : goal.call-requires-in-PeekOk
call-requires-in-PeekOk g c = good_peek_ok _ _ _ _ _ _ c.requires.lawful.1 c.requires.valid c.in-PeekOk.ensures.answers

pub returns-in-CommitOk-clause-same : goal.returns-in-CommitOk-clause-same
returns-in-CommitOk-clause-same g c = mapped_means_same _ _ _ c.parse_mode.ensures.same

pub returns-in-PeekOk-clause-same : goal.returns-in-PeekOk-clause-same
returns-in-PeekOk-clause-same g c = mapped_means_same _ _ _ c.parse_mode.ensures.same

pub returns-in-CommitErr-clause-same : goal.returns-in-CommitErr-clause-same
returns-in-CommitErr-clause-same g c = mapped_means_same _ _ _ c.parse_mode.ensures.same

pub returns-in-PeekErr-clause-same : goal.returns-in-PeekErr-clause-same
returns-in-PeekErr-clause-same g c = mapped_means_same _ _ _ c.parse_mode.ensures.same

pub returns-in-CommitErr-clause-answers : goal.returns-in-CommitErr-clause-answers
returns-in-CommitErr-clause-answers g c = mapped_err _ _ _ _ _ c.in-CommitErr.ensures.answers

pub returns-in-PeekErr-clause-answers : goal.returns-in-PeekErr-clause-answers
returns-in-PeekErr-clause-answers g c = mapped_peek_err _ _ _ _ _ c.in-PeekErr.ensures.answers

pub returns-in-CommitErr-clause-refuses : goal.returns-in-CommitErr-clause-refuses
returns-in-CommitErr-clause-refuses g c = reasons_err _ _ _ _ c.in-CommitErr.ensures.refuses

pub returns-in-PeekErr-clause-refuses : goal.returns-in-PeekErr-clause-refuses
returns-in-PeekErr-clause-refuses g c = reasons_peek_err _ _ _ _ c.in-PeekErr.ensures.refuses

pub returns-in-CommitOk-clause-answers : goal.returns-in-CommitOk-clause-answers
returns-in-CommitOk-clause-answers g c = mapped_ok _ _ _ _ _ _ c.call.ensures c.in-CommitOk.ensures.answers

pub returns-in-PeekOk-clause-answers : goal.returns-in-PeekOk-clause-answers
returns-in-PeekOk-clause-answers g c = mapped_peek_ok _ _ _ _ _ _ c.call-in-PeekOk.ensures c.in-PeekOk.ensures.answers

pub returns-in-CommitOk-clause-refuses : goal.returns-in-CommitOk-clause-refuses
returns-in-CommitOk-clause-refuses g c = λ committed e h. absurd h.is

pub returns-in-PeekOk-clause-refuses : goal.returns-in-PeekOk-clause-refuses
returns-in-PeekOk-clause-refuses g c = λ committed e h. absurd h.is
