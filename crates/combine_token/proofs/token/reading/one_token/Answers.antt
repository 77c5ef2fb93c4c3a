use Rattle.std.proofs.Common.{rules, sym, ◌∙◌}
use Rattle.combine_token.proofs.Tokens.OneToken.{accepts_end, needs_token, token_not_put_back}
use Rattle.combine_base.specs.declared.stream.Kind.TheVariants as kinds
use Rattle.combine_base.proofs.Errors.CallReasons.{reasons_ok, reasons_peek_ok, reasons_fault, reasons_need}
use Rattle.combine_token.proofs.Tokens.TokenReasons.{refused_token, refused_end}
use Rattle.combine_token.proofs.token.reading.one_token.Goals as goal

pub returns-then-is_partial-clause-reads : goal.returns-then-is_partial-clause-reads
returns-then-is_partial-clause-reads g c =
    needs_token _ _ _ _ _ _ _ (rw c.in-Err-End.field-0-is at c.in-Err-End.ensures.read) (sym c.is_partial.ensures ∙ c.if-is_partial.true) c.new_error-then-is_partial.ensures.kind

pub returns-in-Some-test-clause-reads : goal.returns-in-Some-test-clause-reads
returns-in-Some-test-clause-reads g c =
    accepts_end _ _ _ _ _ _ _ (rw c.in-Err-End.field-0-is at c.in-Err-End.ensures.read) (sym c.is_partial.ensures ∙ c.if-is_partial.false) c.in-Some-test.ensures

pub returns-in-Ok-reset-clause-reads : goal.returns-in-Ok-reset-clause-reads
returns-in-Ok-reset-clause-reads g c =
    let t = g.met.Input.ResetStream.lasts _ _ _ _ c.uncons.ensures.passes.marks c.checkpoint-start.ensures.stands in
    search rules

pub returns-in-Ok-reset-clause-back : goal.returns-in-Ok-reset-clause-back
returns-in-Ok-reset-clause-back g c =
    let t = g.met.Input.ResetStream.lasts _ _ _ _ c.uncons.ensures.passes.marks c.checkpoint-start.ensures.stands in
    c.in-Ok-reset.ensures.to.is.0 _ t

pub returns-in-Err-reset-clause-reads : goal.returns-in-Err-reset-clause-reads
returns-in-Err-reset-clause-reads g c =
    token_not_put_back _ _ _ _ _ _ _ _ _ _ _ _ c.in-Ok.ensures.read c.in-Err-reset.ensures.to c.in-Ok.ensures.passes.resets c.new_error-in-Err-reset.ensures.kind

pub returns-in-Some-clause-refuses : goal.returns-in-Some-clause-refuses
returns-in-Some-clause-refuses g c = reasons_ok _ _ _ _

pub returns-in-Ok-reset-clause-refuses : goal.returns-in-Ok-reset-clause-refuses
returns-in-Ok-reset-clause-refuses g c =
    let t = g.met.Input.ResetStream.lasts _ _ _ _ c.uncons.ensures.passes.marks c.checkpoint-start.ensures.stands in
    refused_token _ _ _ _ _ c.in-Ok.ensures.read.is.unread _ (rw (c.from.ensures, ← c.position-position.ensures) c.new_error.ensures) (c.in-Ok-reset.ensures.to.is.0 _ t)

pub returns-in-Err-reset-clause-refuses : goal.returns-in-Err-reset-clause-refuses
returns-in-Err-reset-clause-refuses g c = reasons_fault _ _ _ _ kinds.Reset (c.new_error-in-Err-reset.ensures.kind ∙ c.in-Err-reset.ensures.to.is.0) tt

pub returns-then-is_partial-clause-refuses : goal.returns-then-is_partial-clause-refuses
returns-then-is_partial-clause-refuses g c = reasons_need _ _ _ _ c.new_error-then-is_partial.ensures.kind (sym c.is_partial.ensures ∙ c.if-is_partial.true)

pub returns-in-Some-test-clause-refuses : goal.returns-in-Some-test-clause-refuses
returns-in-Some-test-clause-refuses g c = reasons_peek_ok _ _ _ _

pub returns-in-None-test-clause-refuses : goal.returns-in-None-test-clause-refuses
returns-in-None-test-clause-refuses g c =
    let r = rw c.in-Err-End.field-0-is at c.in-Err-End.ensures.read in
    refused_end _ _ _ r.is.unread r.is.same _ c.no_token.ensures.refuses (rw c.position-position.ensures at c.no_token.ensures.says)
