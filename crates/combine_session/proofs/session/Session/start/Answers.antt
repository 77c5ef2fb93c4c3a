use Rattle.std.proofs.Common.{refl, subst, sym, ◌∙◌}
use Rattle.combine_session.specs.Sessions.{Course, ParsesPiece, session_answer, stage_after}
use Rattle.combine_base.specs.Stream.Fed.{fed_view}
use Rattle.combine_session.proofs.Sessions.{session_judged}
use Rattle.combine_base.proofs.Parsers.CallStarts.{at_rest}
use Rattle.combine_session.proofs.session.Session.start.Goals as goal

pub returns-clause-parses : goal.returns-clause-parses
returns-clause-parses g c seen piece more stage limit e =
    let call = c.parse_first-parsed in
    let law = g.met.P.Parser.laws _ c.requires.lawful in
    let left = fed_view call.new.input in
    let old : Course g.row.P.Denot g.row.T.Denot g.row.P-PartialState.Denot = record { parser = c.args.parser.now; state = c.args.state.now; seen = seen; stage = stage; limit = limit } in
    let new : Course g.row.P.Denot g.row.T.Denot g.row.P-PartialState.Denot = record { parser = call.new.self; state = call.new.state; seen = left; stage = stage_after (session_answer left call.result); limit = limit } in
    subst (λ v. ParsesPiece g.P.Parser.meaning g.P.Parser.valid old (record { parser = call.new.self; state = call.new.state; seen = v; stage = stage_after (session_answer v call.result); limit = limit }) piece more (session_answer v call.result)) (sym c.put.ensures)
    (session_judged _ g.P.Parser.meaning g.P.Parser.valid old new (g.met.P.Parser.default_valid _ c.requires.fresh) call.ensures.same piece more _ (c.take-input.ensures.taken ∙ e) (law.found _ _ c.requires.fresh) _ (at_rest _ _ _ law _ (λ i. c.requires.fresh) _ call.ensures.answers) left.position (session_answer left call.result) refl refl refl refl)
