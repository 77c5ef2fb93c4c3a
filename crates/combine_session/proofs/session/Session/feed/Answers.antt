use Rattle.std.proofs.Common.{◌≡◌, ◌+◌, length, true, sym, arith, ◌∙◌}
use Rattle.combine_base.specs.Stream.Fed.{fed_view}
use Rattle.combine_session.specs.Sessions.{admits, session_answer, course_of, stage_after}
use Rattle.combine_session.proofs.Sessions.{admits_fewer, answers_feed, fed_ok, session_runs, keeps_none, leaves_few}
use Rattle.combine_session.proofs.session.Session.feed.Goals as goal

pub feed-requires-clause-is_open : goal.feed-requires-clause-is_open
feed-requires-clause-is_open g c κs l = c.self.invariant.is_open (session_runs c.self.inside.stage c.in_ok-check.field-0 (sym c.check.ensures ∙ c.in_ok-check.was))

pub invariant_of-self-2 : goal.invariant_of-self-2
invariant_of-self-2 g c =
    let running = session_runs c.self.inside.stage c.in_ok-check.field-0 (sym c.check.ensures ∙ c.in_ok-check.was) in
    let e = fed_ok (fed_view c.self.inside.stream) (fed_view c.feed.new.self) c.args.piece.now c.feed.result c.feed.ensures (sym c.if-is_err.ensures.value) (c.self.invariant.is_open running) in
    let within : admits c.self.inside.limit (length (fed_view c.self.inside.stream).unread + length c.args.piece.now) ≡ true = rw (← c.unread.ensures) (sym c.is_within.ensures ∙ c.if-not-is_within.false) in
    let answer = session_answer (fed_view c.advance-parsed.new.stream) c.advance-parsed.result in
    let parses = c.advance-parsed.ensures.parses (fed_view c.self.inside.stream) c.args.piece.now true c.self.inside.stage c.self.inside.limit e in
    let fewer = leaves_few _ _ _ _ _ _ answer parses in
    rw c.settle.ensures.stage (record {
      lawful = c.advance-parsed.ensures.lawful;
      valid = c.advance-parsed.ensures.valid;
      is_open = c.advance-parsed.ensures.is_open;
      found = c.advance-parsed.ensures.found;
      kept = keeps_none _ _ _ _ _ _ answer parses;
      few = admits_fewer c.self.inside.limit _ _ fewer within;
    })

pub returns : goal.returns
returns g c =
    let running = session_runs c.self.inside.stage c.in_ok-check.field-0 (sym c.check.ensures ∙ c.in_ok-check.was) in
    let e = fed_ok (fed_view c.self.inside.stream) (fed_view c.feed.new.self) c.args.piece.now c.feed.result c.feed.ensures (sym c.if-is_err.ensures.value) (c.self.invariant.is_open running) in
    let within : admits c.self.inside.limit (length (fed_view c.self.inside.stream).unread + length c.args.piece.now) ≡ true = rw (← c.unread.ensures) (sym c.is_within.ensures ∙ c.if-not-is_within.false) in
    let answer = session_answer (fed_view c.advance-parsed.new.stream) c.advance-parsed.result in
    let new = course_of c.advance-parsed.new.parser c.advance-parsed.new.state c.advance-parsed.new.stream (stage_after answer) c.self.inside.limit in
    rw (← c.self.view_is, c.settle.ensures.stage) (answers_feed _ _ _ new running c.args.piece.now (omega arith, within) answer _ c.settle.ensures.passes (c.advance-parsed.ensures.parses _ c.args.piece.now true _ c.self.inside.limit e))
