use Rattle.std.proofs.Common.{refl, rules}
use Rattle.combine_choice.proofs.Choices.HalfCalls.{ended_chose, ready}
use Rattle.combine_choice.proofs.Choices.LaterAlternatives.{first_is_valid}
use Rattle.combine_until.specs.Next.{second_alone}
use Rattle.combine_until.proofs.NextCalls.{next_chose, of_lent}
use Rattle.combine_until.proofs.next.choose_next.Goals as goal

pub choose_first_half-requires-clause-valid : goal.choose_first_half-requires-clause-valid
choose_first_half-requires-clause-valid g c = first_is_valid g.E.Parser.valid g.P.Parser.valid c.args.state.now c.requires.valid

pub returns-in-Done : goal.returns-in-Done
returns-in-Done g c =
    let l = c.requires.lawful in
    record { chose = of_lent g.E.Parser.lawful g.P.Parser.lawful g.E.Parser.meaning g.P.Parser.meaning (search rules) refl (ended_chose g.Input.StreamOnce.step g.Input.Error.ParseError.observers g.Input.StreamOnce.counts_failures second_alone (g.met.E.Parser.laws _ l.0) (g.met.P.Parser.laws _ l.1) _ _ _ _ _ _ _ l.1 _ c.in-Done.ensures.tried) }

pub choose_second_half-requires-clause-valid : goal.choose_second_half-requires-clause-valid
choose_second_half-requires-clause-valid g c =
    let l = c.requires.lawful in
    ready g.Input.StreamOnce.step g.Input.Error.ParseError.observers g.Input.StreamOnce.counts_failures second_alone (g.met.E.Parser.laws _ l.0) (g.met.P.Parser.laws _ l.1) _ _ _ _ _ _ _ _ _ c.in-RunsLater.ensures.tried g.met.P.Parser.default_valid c.requires.valid

pub returns-in-RunsLater : goal.returns-in-RunsLater
returns-in-RunsLater g c =
    let l = c.requires.lawful in
    record { chose = of_lent g.E.Parser.lawful g.P.Parser.lawful g.E.Parser.meaning g.P.Parser.meaning (search rules) (search rules) (next_chose g.Input.StreamOnce.step g.Input.Error.ParseError.observers g.Input.StreamOnce.counts_failures (g.met.E.Parser.laws _ l.0) (g.met.P.Parser.laws _ l.1) c.in-RunsLater.ensures.tried c.choose_second_half.ensures.followed) }
