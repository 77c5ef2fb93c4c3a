use Rattle.std.proofs.Common.{[], false, sym, arith, ◌∙◌, rules}
use Rattle.combine_base.specs.Stream.Fed.{fed_view}
use Rattle.combine_session.specs.Sessions.{session_answer, course_of, stage_after}
use Rattle.combine_session.proofs.Sessions.{admits_fewer, answers_end, session_runs, keeps_none, leaves_few}
use Rattle.combine_session.proofs.session.Session.end.Goals as goal

pub invariant_of-self : goal.invariant_of-self
invariant_of-self g c =
    let answer = session_answer (fed_view c.advance-parsed.new.stream) c.advance-parsed.result in
    let parses = c.advance-parsed.ensures.parses (fed_view c.self.inside.stream) [] false c.self.inside.stage c.self.inside.limit (search rules) in
    let fewer = leaves_few _ _ _ _ _ _ answer parses in
    rw c.settle.ensures.stage (record {
      lawful = c.advance-parsed.ensures.lawful;
      valid = c.advance-parsed.ensures.valid;
      is_open = c.advance-parsed.ensures.is_open;
      found = c.advance-parsed.ensures.found;
      kept = keeps_none _ _ _ _ _ _ answer parses;
      few = admits_fewer c.self.inside.limit _ _ (omega (arith, fewer)) c.self.invariant.few;
    })

pub returns : goal.returns
returns g c =
    let running = session_runs c.self.inside.stage c.in_ok-check.field-0 (sym c.check.ensures ∙ c.in_ok-check.was) in
    let answer = session_answer (fed_view c.advance-parsed.new.stream) c.advance-parsed.result in
    let new = course_of c.advance-parsed.new.parser c.advance-parsed.new.state c.advance-parsed.new.stream (stage_after answer) c.self.inside.limit in
    let parses = c.advance-parsed.ensures.parses (fed_view c.self.inside.stream) [] false c.self.inside.stage c.self.inside.limit (search rules) in
    rw (← c.self.view_is, c.settle.ensures.stage) (answers_end _ _ _ new running answer _ c.settle.ensures.passes parses)
