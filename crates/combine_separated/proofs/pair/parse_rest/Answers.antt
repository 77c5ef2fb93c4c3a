use Rattle.combine_separated.proofs.pair.parse_rest.Goals as goal
use Rattle.combine_separated.proofs.pair.parse_rest.Goals.{in-CommitOk, in-PeekOk}

pub parse_part-requires-clause-ready : goal.parse_part-requires-clause-ready
parse_part-requires-clause-ready g c = record { lawful = c.requires.lawful; valid = g.met.P.Parser.default_valid _ c.default-kept.ensures }

pub returns : goal.returns
returns g c =
    let call = c.parse_part.ensures in
    elim c.match-answer.branch [
      | in-CommitOk w ↦ rw w.in-CommitOk.is (record { lawful = call.lawful; same = call.same; passes = call.passes; goes_on = record { is = record { state = _; afresh = c.default-kept.ensures; runs = rw w.value-is at call.runs } } })
      | in-PeekOk w ↦ rw w.in-PeekOk.is (record { lawful = call.lawful; same = call.same; passes = call.passes; goes_on = record { is = record { state = _; afresh = c.default-kept.ensures; runs = rw w.value-is at call.runs } } })
    ]
