use Rattle.std.proofs.Common.{sym, ◌∙◌}
use Rattle.combine_base.specs.Sequence.Places.{begins_valid}
use Rattle.combine_base.specs.Sequence.Tuples.{followed, followed_is_meaning}
use Rattle.combine_base.proofs.Sequences.SequenceCalls.{last_called, sequence_called}
use Rattle.combine_base.proofs.sequence.tuple.longer.more.parse_with_four_more.Goals as goal

pub returns-in-Before-clause-follows : goal.returns-in-Before-clause-follows
returns-in-Before-clause-follows g c =
    let first = c.parse_with_three_more-answer.ensures.follows in
    sequence_called g.S.TupleState.place g.Y.Push.pushed c.requires.fresh (begins_valid g.N.TupleState.place g.G.Parser.valid (begins_valid g.L.TupleState.place g.F.Parser.valid (begins_valid g.K.TupleState.place g.E.Parser.valid g.met.Q.Front.fresh_valid))) (followed_is_meaning g.Input.StreamOnce.step g.Input.Error.ParseError.observers g.N.TupleState.place g.W.Push.pushed (followed_is_meaning g.Input.StreamOnce.step g.Input.Error.ParseError.observers g.L.TupleState.place g.V.Push.pushed (followed_is_meaning g.Input.StreamOnce.step g.Input.Error.ParseError.observers g.K.TupleState.place g.T.Push.pushed (g.met.Q.Front.laws c.args.before.now c.requires.lawful.0) (g.met.E.Parser.laws c.args.e.now c.requires.lawful.1)) (g.met.F.Parser.laws c.args.f.now c.requires.lawful.2)) (g.met.G.Parser.laws c.args.g.now c.requires.lawful.3)) (g.met.H.Parser.laws c.args.h.now c.requires.lawful.4) (sym c.into_place.ensures ∙ c.in-Before.is) c.requires.valid first.valid first.same first.passes first.answers first.refuses c.parse_rest.ensures

pub returns-in-Last-clause-lent : goal.returns-in-Last-clause-lent
returns-in-Last-clause-lent g c = g.met.Q.Front.unchanged c.args.before.now

pub returns-in-Last-clause-follows : goal.returns-in-Last-clause-follows
returns-in-Last-clause-follows g c = last_called g.S.TupleState.place g.Y.Push.pushed c.requires.fresh (followed g.Input.StreamOnce.step g.Input.Error.ParseError.observers g.N.TupleState.place g.W.Push.pushed (followed g.Input.StreamOnce.step g.Input.Error.ParseError.observers g.L.TupleState.place g.V.Push.pushed (followed g.Input.StreamOnce.step g.Input.Error.ParseError.observers g.K.TupleState.place g.T.Push.pushed (g.Q.Front.meaning c.args.before.now) (g.E.Parser.meaning c.args.e.now)) (g.F.Parser.meaning c.args.f.now)) (g.G.Parser.meaning c.args.g.now)) (begins_valid g.N.TupleState.place g.G.Parser.valid (begins_valid g.L.TupleState.place g.F.Parser.valid (begins_valid g.K.TupleState.place g.E.Parser.valid g.met.Q.Front.fresh_valid))) (sym c.into_place.ensures ∙ c.in-Last.is) c.resume_last.ensures
