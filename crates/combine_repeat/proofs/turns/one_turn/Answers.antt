use Rattle.std.proofs.Common.{false, true, refl, sym, ◌∙◌}
use Rattle.combine_base.proofs.Errors.MeantRefusals.{reasoned_meant}
use Rattle.combine_repeat.specs.Turns.OneTurn.{EndedByValue, TakesNothing, ValueUnstored}
use Rattle.combine_repeat.specs.Turns.Bounds.{Idle, Own}
use Rattle.combine_repeat.proofs.OneTurn.{accepts_by, gathered_on, goes_by, idle_by, needs_on, no_value_then}
use Rattle.combine_repeat.proofs.SoundValues.{turn_able}
use Rattle.combine_repeat.proofs.turns.one_turn.Goals as goal
use Rattle.combine_repeat.proofs.turns.one_turn.Goals.{in-CommitOk, in-PeekOk}

pub returns-in-PeekErr-clause-turned : goal.returns-in-PeekErr-clause-turned
returns-in-PeekErr-clause-turned g c =
    let a = c.in-PeekErr.ensures in
    let since = g.met.Input.ResetStream.lasts _ _ _ _ a.passes.marks c.checkpoint-since.ensures.stands in
    record { is = c.judge_refusal.ensures.halted c.args.parser.now c.args.later _ (record { begun_at = since; new = refl; failures = refl; resets = a.passes.resets }) a.answers }

pub returns-then-needs_more-clause-turned : goal.returns-then-needs_more-clause-turned
returns-then-needs_more-clause-turned g c =
    let a = c.in-CommitErr.ensures in
    let since = g.met.Input.ResetStream.lasts _ _ _ _ a.passes.marks c.checkpoint-since.ensures.stands in
    record { is = needs_on _ _ _ _ _ _ _ since _ _ _ (c.needs_more.ensures.0 c.if-needs_more.true) a.answers c.cut.ensures }

pub returns-then-is_last-clause-turned : goal.returns-then-is_last-clause-turned
returns-then-is_last-clause-turned g c =
    elim c.match-parse_turn.branch [
      | in-CommitOk w ↦ record { is = EndedByValue c.match-parse_turn.value (accepts_by w.value-is w.in-CommitOk.ensures.answers.is) (sym c.is_last.ensures ∙ c.if-is_last.true) c.or_committed.ensures }
      | in-PeekOk w ↦ record { is = EndedByValue c.match-parse_turn.value (accepts_by w.value-is w.in-PeekOk.ensures.answers.is) (sym c.is_last.ensures ∙ c.if-is_last.true) c.or_committed.ensures }
    ]

pub returns-in_default-clause-turned : goal.returns-in_default-clause-turned
returns-in_default-clause-turned g c =
    let since = g.met.Input.ResetStream.lasts _ _ _ _ c.parse_turn.ensures.passes.marks c.checkpoint-since.ensures.stands in
    let on = sym c.is_last.ensures ∙ c.if-is_last.false in
    elim c.match-parse_turn.branch [
      | in-CommitOk w ↦ record { is = TakesNothing _ (idle_by {b = g.B.TurnBounds.bounds c.args.bounds} {ending = g.P.TurnParser.ending} {index = c.args.turns.index} w.value-is w.in-CommitOk.ensures.answers.is on (λ i t. c.next.ensures i _ since t) (no_value_then _ c.in_default.not-Some)) c.refusal_saying-error.ensures.told }
      | in-PeekOk w ↦ record { is = TakesNothing _ (idle_by {b = g.B.TurnBounds.bounds c.args.bounds} {ending = g.P.TurnParser.ending} {index = c.args.turns.index} w.value-is w.in-PeekOk.ensures.answers.is on (λ i t. c.next.ensures i _ since t) (no_value_then _ c.in_default.not-Some)) c.refusal_saying-error.ensures.told }
    ]

pub gather_turn-requires : goal.gather_turn-requires
gather_turn-requires g c =
    let able = turn_able _ g.P.TurnParser.valid _ _ g.P.TurnParser.gives g.G.Gather.able (g.met.P.TurnParser.gives_only _ c.requires.lawful) c.requires.able c.args.later _ c.requires.valid in
    elim c.match-parse_turn.branch [
      | in-CommitOk w ↦ able _ _ (accepts_by w.value-is w.in-CommitOk.ensures.answers.is)
      | in-PeekOk w ↦ able _ _ (accepts_by w.value-is w.in-PeekOk.ensures.answers.is)
    ]

pub returns-in-Ok-clause-turned : goal.returns-in-Ok-clause-turned
returns-in-Ok-clause-turned g c =
    let since = g.met.Input.ResetStream.lasts _ _ _ _ c.parse_turn.ensures.passes.marks c.checkpoint-since.ensures.stands in
    let on = sym c.is_last.ensures ∙ c.if-is_last.false in
    elim c.match-parse_turn.branch [
      | in-CommitOk w ↦
          let j = (goes_by {b = g.B.TurnBounds.bounds c.args.bounds} {ending = g.P.TurnParser.ending} {index = c.args.turns.index} w.value-is w.in-CommitOk.ensures.answers.is on (λ i t. c.next.ensures i _ since t) c.in-Some.next c.in-Some.is) in
          let more = gathered_on g.G.Gather.held g.G.Gather.more (g.B.TurnBounds.bounds c.args.bounds) c.args.turns _ _ _ _ c.match-parse_turn.value.1 c.in-Ok.ensures c.or_committed-2.ensures j.1 in
          record { is = record { turn = _; judged = j.0; held = _; more = more.0; turns = more.1 } }
      | in-PeekOk w ↦
          let j = (goes_by {b = g.B.TurnBounds.bounds c.args.bounds} {ending = g.P.TurnParser.ending} {index = c.args.turns.index} w.value-is w.in-PeekOk.ensures.answers.is on (λ i t. c.next.ensures i _ since t) c.in-Some.next c.in-Some.is) in
          let more = gathered_on g.G.Gather.held g.G.Gather.more (g.B.TurnBounds.bounds c.args.bounds) c.args.turns _ _ _ _ c.match-parse_turn.value.1 c.in-Ok.ensures c.or_committed-2.ensures j.1 in
          record { is = record { turn = _; judged = j.0; held = _; more = more.0; turns = more.1 } }
    ]

pub returns-in-Err-clause-turned : goal.returns-in-Err-clause-turned
returns-in-Err-clause-turned g c =
    elim c.match-parse_turn.branch [
      | in-CommitOk w ↦ record { is = ValueUnstored _ (accepts_by w.value-is w.in-CommitOk.ensures.answers.is) c.new_error.ensures.kind c.in-Err.ensures }
      | in-PeekOk w ↦ record { is = ValueUnstored _ (accepts_by w.value-is w.in-PeekOk.ensures.answers.is) c.new_error.ensures.kind c.in-Err.ensures }
    ]

pub returns-in_default-clause-refuses : goal.returns-in_default-clause-refuses
returns-in_default-clause-refuses g c =
    let since = g.met.Input.ResetStream.lasts _ _ _ _ c.parse_turn.ensures.passes.marks c.checkpoint-since.ensures.stands in
    let on = sym c.is_last.ensures ∙ c.if-is_last.false in
    let said = rw c.position-position.ensures at c.refusal_saying-error.ensures.says in
    elim c.match-parse_turn.branch [
      | in-CommitOk w ↦ let j = (idle_by {b = g.B.TurnBounds.bounds c.args.bounds} {ending = g.P.TurnParser.ending} {index = c.args.turns.index} w.value-is w.in-CommitOk.ensures.answers.is on (λ i t. c.next.ensures i _ since t) (no_value_then _ c.in_default.not-Some)) in record { is = record { is = λ i. Idle refl _ j.accepts.count _ j.accepts.meant j.on (sym j.says) said } }
      | in-PeekOk w ↦ let j = (idle_by {b = g.B.TurnBounds.bounds c.args.bounds} {ending = g.P.TurnParser.ending} {index = c.args.turns.index} w.value-is w.in-PeekOk.ensures.answers.is on (λ i t. c.next.ensures i _ since t) (no_value_then _ c.in_default.not-Some)) in record { is = record { is = λ i. Idle refl _ j.accepts.count _ j.accepts.meant j.on (sym j.says) said } }
    ]

pub returns-in-PeekErr-clause-refuses : goal.returns-in-PeekErr-clause-refuses
returns-in-PeekErr-clause-refuses g c =
    let judged = c.judge_refusal.ensures.refuses c.args.parser.now c.args.later in
    record { is = judged.is (g.M.ParseMode.first c.args.mode) c.args.running.now _ (sym c.position-position.ensures) (reasoned_meant c.in-PeekErr.ensures.answers c.in-PeekErr.ensures.refuses false _ (record { is = refl })) }

pub returns-in-CommitErr-clause-refuses : goal.returns-in-CommitErr-clause-refuses
returns-in-CommitErr-clause-refuses g c = record { is = record { is = λ i. Own refl (reasoned_meant c.in-CommitErr.ensures.answers c.in-CommitErr.ensures.refuses true _ (record { is = (refl, i) })) } }
