use Rattle.std.proofs.Common.{refl, ◌∙◌}
use Rattle.combine_base.specs.declared.stream.Kind.TheVariants as kinds
use Rattle.combine_base.proofs.Errors.CallErrors.{refusal_unreset}
use Rattle.combine_choice.specs.Choice.Optional.{optional_means_same}
use Rattle.combine_choice.proofs.Choices.Optionals.{optional_ok, optional_peek_ok, optional_err, optional_none, optional_reasons}
use Rattle.combine_base.proofs.Errors.CallReasons.{reasons_ok, reasons_peek_ok, reasons_fault}
use Rattle.combine_choice.proofs.or.types.OptionalParser.parse_mode.Goals as goal

pub returns-in-CommitOk-clause-answers : goal.returns-in-CommitOk-clause-answers
returns-in-CommitOk-clause-answers g c = optional_ok _ _ _ _ c.in-CommitOk.ensures.answers

pub returns-in-PeekOk-clause-answers : goal.returns-in-PeekOk-clause-answers
returns-in-PeekOk-clause-answers g c = optional_peek_ok _ _ _ _ c.in-PeekOk.ensures.answers

pub returns-in-CommitErr-clause-answers : goal.returns-in-CommitErr-clause-answers
returns-in-CommitErr-clause-answers g c = optional_err _ _ _ _ c.in-CommitErr.ensures.answers

pub returns-in-Ok-clause-answers : goal.returns-in-Ok-clause-answers
returns-in-Ok-clause-answers g c =
    let n = c.in-Ok.ensures.to.is in
    let stands = g.met.Input.ResetStream.lasts _ _ _ _ c.parse_mode.ensures.passes.marks c.checkpoint-start.ensures.stands in
    optional_none _ _ _ _ _ _ (n.0 _ stands) n.1 c.in-PeekErr.ensures.answers

pub returns-clause-answers : goal.returns-clause-answers
returns-clause-answers g c = refusal_unreset _ _ _ _ _ _ _ c.in-PeekErr.ensures.answers _ c.in-Err.ensures.to.is c.parse_mode.ensures.passes.resets refl refl (λ s. s) _ c.new_error.ensures.kind

pub returns-in-CommitOk-clause-same : goal.returns-in-CommitOk-clause-same
returns-in-CommitOk-clause-same g c = optional_means_same _ _ c.parse_mode.ensures.same

pub returns-in-PeekOk-clause-same : goal.returns-in-PeekOk-clause-same
returns-in-PeekOk-clause-same g c = optional_means_same _ _ c.parse_mode.ensures.same

pub returns-in-CommitErr-clause-same : goal.returns-in-CommitErr-clause-same
returns-in-CommitErr-clause-same g c = optional_means_same _ _ c.parse_mode.ensures.same

pub returns-in-Ok-clause-same : goal.returns-in-Ok-clause-same
returns-in-Ok-clause-same g c = optional_means_same _ _ c.parse_mode.ensures.same

pub returns-clause-same : goal.returns-clause-same
returns-clause-same g c = optional_means_same _ _ c.parse_mode.ensures.same

pub returns-in-CommitOk-clause-refuses : goal.returns-in-CommitOk-clause-refuses
returns-in-CommitOk-clause-refuses g c = reasons_ok _ _ _ _

pub returns-in-PeekOk-clause-refuses : goal.returns-in-PeekOk-clause-refuses
returns-in-PeekOk-clause-refuses g c = reasons_peek_ok _ _ _ _

pub returns-in-CommitErr-clause-refuses : goal.returns-in-CommitErr-clause-refuses
returns-in-CommitErr-clause-refuses g c = optional_reasons g.Input.Error.ParseError.observers.kind _ (g.P.Parser.meaning c.args.self.now.0) (g.M.ParseMode.first c.args.mode) c.args.state.now _ _ _ c.in-CommitErr.ensures.refuses

pub returns-in-Ok-clause-refuses : goal.returns-in-Ok-clause-refuses
returns-in-Ok-clause-refuses g c = reasons_peek_ok _ _ _ _

pub returns-clause-refuses : goal.returns-clause-refuses
returns-clause-refuses g c = reasons_fault _ _ _ _ kinds.Reset (c.new_error.ensures.kind ∙ c.in-Err.ensures.to.is.0) tt
