use Rattle.std.proofs.Common.{false, true, inl, inr, refl, sym, ◌∙◌}
use Rattle.combine_base.proofs.Errors.MeantRefusals.{refusal_is_meant, refusal_meant}
use Rattle.combine_base.specs.declared.error.result.ParseResult.TheVariants.{CommitErr, PeekErr}
use Rattle.combine_until.specs.UntilTurn.{TakesNothing}
use Rattle.combine_until.proofs.UntilTurn.{accepts_value, needs_more, unreset_by}
use Rattle.combine_until.proofs.until.one_block.Goals as goal
use Rattle.combine_until.proofs.until.one_block.Goals.{in-CommitOk, in-PeekOk}

pub returns-then-needs_more-clause-turned : goal.returns-then-needs_more-clause-turned
returns-then-needs_more-clause-turned g c =
    let since = g.met.Input.ResetStream.lasts _ _ _ _ c.parse_explained.ensures.passes.marks c.checkpoint-since.ensures.stands in
    record { is = needs_more _ _ _ _ _ _ _ _ (c.needs_more.ensures.0 c.if-needs_more.true) c.in-CommitErr.ensures.answers (λ n t. c.cut.ensures n _ since t) }

pub returns-then-not-is_block-clause-turned : goal.returns-then-not-is_block-clause-turned
returns-then-not-is_block-clause-turned g c =
    let since = g.met.Input.ResetStream.lasts _ _ _ _ c.parse_explained.ensures.passes.marks c.checkpoint-since.ensures.stands in
    elim c.match-parse_explained.branch [
      | in-CommitOk w ↦
          let p = accepts_value w.value-is c.in-Some.is w.in-CommitOk.ensures.answers.is in
          record { is = TakesNothing c.in-Some.value c.match-parse_explained.value.1 p (sym (c.is_block.ensures p.count _ since p.taken) ∙ c.if-not-is_block.true) c.refusal_saying-error.ensures.told }
      | in-PeekOk w ↦
          let p = accepts_value w.value-is c.in-Some.is w.in-PeekOk.ensures.answers.is in
          record { is = TakesNothing c.in-Some.value c.match-parse_explained.value.1 p (sym (c.is_block.ensures p.count _ since p.taken) ∙ c.if-not-is_block.true) c.refusal_saying-error.ensures.told }
    ]

pub returns-in-Ok-clause-turned : goal.returns-in-Ok-clause-turned
returns-in-Ok-clause-turned g c =
    let n = c.in-Ok.ensures.to.is in
    elim c.match-parse_explained.branch [
      | in-CommitOk w ↦
          let p = accepts_value w.value-is c.in-None.is w.in-CommitOk.ensures.answers.is in
          record { is = record { count = p.count; committed = c.match-parse_explained.value.1; meant = p.meant; state = p.state; failures = λ s. n.1 s ∙ p.failures s; back = λ v i. n.0 v (g.met.Input.ResetStream.lasts _ _ _ _ c.parse_explained.ensures.passes.marks i); blocks = c.or_committed.ensures } }
      | in-PeekOk w ↦
          let p = accepts_value w.value-is c.in-None.is w.in-PeekOk.ensures.answers.is in
          record { is = record { count = p.count; committed = c.match-parse_explained.value.1; meant = p.meant; state = p.state; failures = λ s. n.1 s ∙ p.failures s; back = λ v i. n.0 v (g.met.Input.ResetStream.lasts _ _ _ _ c.parse_explained.ensures.passes.marks i); blocks = c.or_committed.ensures } }
    ]

pub returns-in-Err-clause-turned : goal.returns-in-Err-clause-turned
returns-in-Err-clause-turned g c =
    elim c.match-parse_explained.branch [
      | in-CommitOk w ↦ record { is = unreset_by (accepts_value w.value-is c.in-None.is w.in-CommitOk.ensures.answers.is) _ c.in-Err.ensures.to.is c.parse_explained.ensures.passes.resets _ c.new_error.ensures.kind }
      | in-PeekOk w ↦ record { is = unreset_by (accepts_value w.value-is c.in-None.is w.in-PeekOk.ensures.answers.is) _ c.in-Err.ensures.to.is c.parse_explained.ensures.passes.resets _ c.new_error.ensures.kind }
    ]

pub returns-in-Ok-add-clause-turned : goal.returns-in-Ok-add-clause-turned
returns-in-Ok-add-clause-turned g c =
    let since = g.met.Input.ResetStream.lasts _ _ _ _ c.parse_explained.ensures.passes.marks c.checkpoint-since.ensures.stands in
    let b = rw c.or_committed-in-Some.ensures at c.in-Ok-add.ensures in
    elim c.match-parse_explained.branch [
      | in-CommitOk w ↦
          let p = accepts_value w.value-is c.in-Some.is w.in-CommitOk.ensures.answers.is in
          record { is = record { value = c.in-Some.value; committed = c.match-parse_explained.value.1; accepts = p; takes = sym (c.is_block.ensures p.count _ since p.taken) ∙ c.if-not-is_block.false; held = _; more = refl; blocks = b } }
      | in-PeekOk w ↦
          let p = accepts_value w.value-is c.in-Some.is w.in-PeekOk.ensures.answers.is in
          record { is = record { value = c.in-Some.value; committed = c.match-parse_explained.value.1; accepts = p; takes = sym (c.is_block.ensures p.count _ since p.taken) ∙ c.if-not-is_block.false; held = _; more = refl; blocks = b } }
    ]

pub returns-then-not-is_block-clause-refuses : goal.returns-then-not-is_block-clause-refuses
returns-then-not-is_block-clause-refuses g c =
    let since = g.met.Input.ResetStream.lasts _ _ _ _ c.parse_explained.ensures.passes.marks c.checkpoint-since.ensures.stands in
    elim c.match-parse_explained.branch [
      | in-CommitOk w ↦
          let p = accepts_value w.value-is c.in-Some.is w.in-CommitOk.ensures.answers.is in
          record { is = λ i. inr (record { value = c.in-Some.value; count = p.count; commits = c.match-parse_explained.value.1; accepted = p.meant; idle = sym (c.is_block.ensures p.count _ since p.taken) ∙ c.if-not-is_block.true; says = rw c.position-position.ensures at c.refusal_saying-error.ensures.says }) }
      | in-PeekOk w ↦
          let p = accepts_value w.value-is c.in-Some.is w.in-PeekOk.ensures.answers.is in
          record { is = λ i. inr (record { value = c.in-Some.value; count = p.count; commits = c.match-parse_explained.value.1; accepted = p.meant; idle = sym (c.is_block.ensures p.count _ since p.taken) ∙ c.if-not-is_block.true; says = rw c.position-position.ensures at c.refusal_saying-error.ensures.says }) }
    ]

pub returns-in-PeekErr-clause-refuses : goal.returns-in-PeekErr-clause-refuses
returns-in-PeekErr-clause-refuses g c = record { is = refusal_meant (refusal_is_meant (PeekErr _) c.in-PeekErr.ensures.answers false _ refl) c.in-PeekErr.ensures.explained.is }

pub returns-in-CommitErr-clause-refuses : goal.returns-in-CommitErr-clause-refuses
returns-in-CommitErr-clause-refuses g c = record { is = λ i. inl (record { meant = refusal_is_meant (CommitErr _) c.in-CommitErr.ensures.answers true _ (refl, i); error = c.in-CommitErr.ensures.explained.is i }) }
