use Rattle.std.proofs.Common.{refl, true}
use Rattle.combine_base.proofs.Errors.MeantRefusals.{reasoned_meant}
use Rattle.combine_base.proofs.Parsers.SameMeanings.{passes_more}
use Rattle.combine_repeat.specs.Turns.Bounds.{Idle, Own}
use Rattle.combine_repeat.proofs.OneTurn.{turn_put_back}
use Rattle.combine_repeat.specs.IteratorTurn.{InTurn, TakesNothing}
use Rattle.combine_repeat.proofs.IteratorBlocks.{iter_turn_judged_by, block_commits, iter_turn_not_put_back}
use Rattle.combine_repeat.proofs.iter.iter_step.Goals as goal
use Rattle.combine_repeat.proofs.iter.iter_step.Goals.{in-CommitOk, in-PeekOk}

pub returns-in-PeekErr : goal.returns-in-PeekErr
returns-in-PeekErr g c =
    let call = c.parse_mode.ensures in
    let n = c.in_default.ensures.to.is in
    let e = n.0 _ (g.met.Input.ResetStream.lasts _ _ _ _ call.passes.marks c.checkpoint-checkpoint.ensures.stands) in
    record { lawful = call.lawful; valid = call.valid; same = call.same; passes = passes_more call.passes c.in_default.ensures.passes; turned = record { is = record { refused = turn_put_back c.in-PeekErr.ensures.answers e n.1; view = e } }; refuses = tt }

pub returns-in-Err : goal.returns-in-Err
returns-in-Err g c =
    let call = c.parse_mode.ensures in
    record { lawful = call.lawful; valid = call.valid; same = call.same; passes = passes_more call.passes c.in-Err.ensures.passes; turned = record { is = iter_turn_not_put_back c.in-PeekErr.ensures.answers _ c.in-Err.ensures.to.is call.passes.resets _ c.new_error.ensures.kind }; refuses = λ i. absurd (rw (c.new_error.ensures.kind, c.in-Err.ensures.to.is.0) at i) }

pub returns-in-CommitErr : goal.returns-in-CommitErr
returns-in-CommitErr g c =
    let call = c.parse_mode.ensures in
    record { lawful = call.lawful; valid = call.valid; same = call.same; passes = call.passes; turned = record { is = InTurn c.in-CommitErr.ensures.answers }; refuses = λ i. Own refl (reasoned_meant c.in-CommitErr.ensures.answers c.in-CommitErr.ensures.refuses true _ (record { is = (refl, i) })) }

pub returns-then-not-is_block : goal.returns-then-not-is_block
returns-then-not-is_block g c =
    let call = c.parse_mode.ensures in
    let since = g.met.Input.ResetStream.lasts _ _ _ _ call.passes.marks c.checkpoint-checkpoint.ensures.stands in
    let said = rw c.position-position.ensures at c.refusal_saying.ensures.says in
    elim c.match-parse_mode.branch [
      | in-CommitOk w ↦ let j = (iter_turn_judged_by w.value-is w.in-CommitOk.ensures.answers.is (λ n t. rw (← c.is_first.ensures) (c.is_block.ensures n _ since t)) c.if-not-is_block.true) in record { lawful = call.lawful; valid = call.valid; same = call.same; passes = call.passes; turned = record { is = TakesNothing _ _ j c.refusal_saying.ensures.told }; refuses = λ i. Idle refl _ j.accepts.count _ j.accepts.meant refl j.says said }
      | in-PeekOk w ↦ let j = (iter_turn_judged_by w.value-is w.in-PeekOk.ensures.answers.is (λ n t. rw (← c.is_first.ensures) (c.is_block.ensures n _ since t)) c.if-not-is_block.true) in record { lawful = call.lawful; valid = call.valid; same = call.same; passes = call.passes; turned = record { is = TakesNothing _ _ j c.refusal_saying.ensures.told }; refuses = λ i. Idle refl _ j.accepts.count _ j.accepts.meant refl j.says said }
    ]

pub returns : goal.returns
returns g c =
    let call = c.parse_mode.ensures in
    let since = g.met.Input.ResetStream.lasts _ _ _ _ call.passes.marks c.checkpoint-checkpoint.ensures.stands in
    elim c.match-parse_mode.branch [
      | in-CommitOk w ↦ record { lawful = call.lawful; valid = call.valid; same = call.same; passes = call.passes; turned = record { is = block_commits _ (iter_turn_judged_by w.value-is w.in-CommitOk.ensures.answers.is (λ n t. rw (← c.is_first.ensures) (c.is_block.ensures n _ since t)) c.if-not-is_block.false) }; refuses = tt }
      | in-PeekOk w ↦ record { lawful = call.lawful; valid = call.valid; same = call.same; passes = call.passes; turned = record { is = block_commits _ (iter_turn_judged_by w.value-is w.in-PeekOk.ensures.answers.is (λ n t. rw (← c.is_first.ensures) (c.is_block.ensures n _ since t)) c.if-not-is_block.false) }; refuses = tt }
    ]
