use Rattle.std.proofs.Common.{refl, sym, arith, ◌∙◌}
use Rattle.std.proofs.lemmas.Bool.{false≢true}
use Rattle.combine_base.specs.Stream.Fed.{fed_view}
use Rattle.combine_session.specs.Sessions.{Course, session_answer, course_of, stage_after}
use Rattle.combine_session.specs.declared.session.Stage.TheVariants as stages
use Rattle.combine_session.proofs.Sessions.{admits_fewer, answers_again, session_begins, blank, keeps_none, leaves_few}
use Rattle.combine_session.proofs.session.Session.begin_again.Goals as goal

pub invariant_of-self : goal.invariant_of-self
invariant_of-self g c =
    let was = fed_view c.self.inside.stream in
    let answer = session_answer (fed_view c.start-parsed.new.stream) c.start-parsed.result in
    let parses = c.start-parsed.ensures.parses blank was.unread was.is_open stages.Running c.self.inside.limit c.begin_again.ensures.begun in
    let fewer = leaves_few _ _ _ _ _ _ answer parses in
    rw c.settle.ensures.stage (record {
      lawful = c.start-parsed.ensures.lawful;
      valid = c.start-parsed.ensures.valid;
      is_open = c.start-parsed.ensures.is_open;
      found = c.start-parsed.ensures.found;
      kept = keeps_none _ _ _ _ _ _ answer parses;
      few = admits_fewer c.self.inside.limit _ _ (omega (arith, fewer)) c.self.invariant.few;
    })

pub returns : goal.returns
returns g c =
    let limit = c.self.inside.limit in
    let begun : Course g.row.P.Denot g.row.T.Denot g.row.P-PartialState.Denot = record { parser = c.args.parser; state = c.default.result; seen = blank; stage = stages.Running; limit = limit } in
    let at_first = session_begins g.P.Parser.meaning g.P.Parser.valid begun _ (g.met.P.Parser.laws _ c.requires) c.default.ensures refl g.P.Parser.determined (g.met.P.Parser.single _ c.requires) refl in
    let was = fed_view c.self.inside.stream in
    let answer = session_answer (fed_view c.start-parsed.new.stream) c.start-parsed.result in
    let new = course_of c.start-parsed.new.parser c.start-parsed.new.state c.start-parsed.new.stream (stage_after answer) limit in
    let parses = c.start-parsed.ensures.parses blank was.unread was.is_open stages.Running limit c.begin_again.ensures.begun in
    rw (← c.self.view_is, c.settle.ensures.stage) (answers_again _ _ _ _ _ new begun at_first (λ e. false≢true (rw e at (sym c.if-eq.false ∙ c.eq.ensures))) (c.begin_again.ensures.short, c.self.invariant.few) answer _ c.settle.ensures.passes parses)
