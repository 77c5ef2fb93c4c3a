use Rattle.combine_choice.specs.Choice.Alternatives.{both_merged}
use Rattle.combine_choice.proofs.Choices.HalfCalls.{ended_chose, gone_chose, is_no_fault, ready}
use Rattle.combine_choice.proofs.Choices.LaterAlternatives.{first_is_valid}
use Rattle.combine_choice.proofs.Choices.MergedRefusals.{merged_kinds}
use Rattle.combine_choice.proofs.or.alternatives.Tuple2Alternatives.choose.Goals as goal

pub choose_first_half-requires-clause-valid : goal.choose_first_half-requires-clause-valid
choose_first_half-requires-clause-valid g c = first_is_valid g.L.Alternatives.valid g.R.Alternatives.valid c.args.state.now c.requires.valid

pub returns-in-Done-clause-chose : goal.returns-in-Done-clause-chose
returns-in-Done-clause-chose g c =
    let l = c.requires.lawful in
    let h = (g.met.L.Alternatives.laws _ l.0) in
    let k = (g.met.R.Alternatives.laws _ l.1) in
    ended_chose g.Input.StreamOnce.step g.Input.Error.ParseError.observers g.Input.StreamOnce.counts_failures (both_merged g.Input.Error.ParseError.observers g.Input.Position.Ord.cmp) h k _ _ _ _ _ _ _ l.1 _ c.in-Done.ensures.tried

pub choose_second_half-requires-clause-valid : goal.choose_second_half-requires-clause-valid
choose_second_half-requires-clause-valid g c =
    let l = c.requires.lawful in
    let h = (g.met.L.Alternatives.laws _ l.0) in
    let k = (g.met.R.Alternatives.laws _ l.1) in
    ready g.Input.StreamOnce.step g.Input.Error.ParseError.observers g.Input.StreamOnce.counts_failures (both_merged g.Input.Error.ParseError.observers g.Input.Position.Ord.cmp) h k _ _ _ _ _ _ _ _ _ c.in-RunsLater.ensures.tried g.met.R.Alternatives.default_valid c.requires.valid

pub choose_second_half-requires-clause-refused : goal.choose_second_half-requires-clause-refused
choose_second_half-requires-clause-refused g c =
    let l = c.requires.lawful in
    let h = (g.met.L.Alternatives.laws _ l.0) in
    let k = (g.met.R.Alternatives.laws _ l.1) in
    is_no_fault g.Input.StreamOnce.step g.Input.Error.ParseError.observers g.Input.StreamOnce.counts_failures (both_merged g.Input.Error.ParseError.observers g.Input.Position.Ord.cmp) h k _ _ _ _ _ _ _ _ _ c.in-RunsLater.ensures.tried

pub returns-in-RunsLater-clause-chose : goal.returns-in-RunsLater-clause-chose
returns-in-RunsLater-clause-chose g c =
    let l = c.requires.lawful in
    let h = (g.met.L.Alternatives.laws _ l.0) in
    let k = (g.met.R.Alternatives.laws _ l.1) in
    gone_chose g.Input.StreamOnce.step g.Input.Error.ParseError.observers g.Input.StreamOnce.counts_failures (both_merged g.Input.Error.ParseError.observers g.Input.Position.Ord.cmp) h k _ _ _ _ _ _ _ _ _ c.in-RunsLater.ensures.tried (merged_kinds _ g.Input.Position.Ord.cmp) _ _ _ _ c.choose_second_half.ensures.followed
