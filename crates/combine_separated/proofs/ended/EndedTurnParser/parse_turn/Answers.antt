use Rattle.std.proofs.Common.{subst}
use Rattle.combine_choice.specs.Choice.Optional.{optional, optional_is_meaning, optional_means_same}
use Rattle.combine_base.proofs.Parsers.SameMeanings.{same_none}
use Rattle.combine_separated.specs.Pair.{pair, pair_begins, pair_is_meaning, pair_means_same}
use Rattle.combine_separated.specs.Ended.{after_separator, closer_of, ended_part, some_of}
use Rattle.combine_separated.specs.Separated.{runs_turn, then_same}
use Rattle.combine_separated.specs.declared.separated.TurnPlace.TheVariants.{First, Later}
use Rattle.combine_separated.proofs.SeparatedCalls.{first_runs, later_runs, later_runs_reasons}
use Rattle.combine_separated.proofs.ended.EndedTurnParser.parse_turn.Goals as goal

pub returns-in-First-clause-same : goal.returns-in-First-clause-same
returns-in-First-clause-same g c = then_same _ _ _ _ _ _ c.run_first.ensures.same (pair_means_same _ _ (same_none (g.S.Parser.meaning (closer_of c.args.self.now))) (optional_means_same _ _ c.run_first.ensures.same))

pub returns-in-First-clause-answers : goal.returns-in-First-clause-answers
returns-in-First-clause-answers g c =
    let runs = subst (λ x. runs_turn g.P.PartialState.Default.is_default (pair_begins g.S.PartialState.Default.is_default) c.args.later (g.M.ParseMode.first c.args.mode) x (First c.in-First.kept)) c.take.ensures.value c.in-First.ensures in
    first_runs _ (pair_begins g.S.PartialState.Default.is_default) (g.P.Parser.meaning (ended_part c.args.self.now)) (pair g.Input.StreamOnce.step g.Input.Error.ParseError.observers (g.S.Parser.meaning (closer_of c.args.self.now)) (optional (g.P.Parser.meaning (ended_part c.args.self.now)))) some_of after_separator _ _ c.take.ensures.after _ _ _ _ _ g.P.Parser.valid (g.met.P.Parser.laws _ c.requires.lawful.1) _ _ _ _ runs c.run_first.ensures.ran

pub returns-in-Later-clause-same : goal.returns-in-Later-clause-same
returns-in-Later-clause-same g c = then_same _ _ _ _ _ _ c.run_later.ensures.parts.1 c.run_later.ensures.same

pub returns-in-Later-clause-answers : goal.returns-in-Later-clause-answers
returns-in-Later-clause-answers g c =
    let runs = subst (λ x. runs_turn g.P.PartialState.Default.is_default (pair_begins g.S.PartialState.Default.is_default) c.args.later (g.M.ParseMode.first c.args.mode) x (Later c.in-Later.kept)) c.take.ensures.value c.in-Later.ensures in
    later_runs _ (pair_begins g.S.PartialState.Default.is_default) (g.P.Parser.meaning (ended_part c.args.self.now)) (pair g.Input.StreamOnce.step g.Input.Error.ParseError.observers (g.S.Parser.meaning (closer_of c.args.self.now)) (optional (g.P.Parser.meaning (ended_part c.args.self.now)))) some_of after_separator _ _ c.take.ensures.after _ _ _ _ _ _ _ (pair_is_meaning _ _ (g.met.S.Parser.laws _ c.requires.lawful.0) (optional_is_meaning _ g.P.Parser.valid _ (g.met.P.Parser.laws _ c.requires.lawful.1))) _ _ _ _ runs c.run_later.ensures.ran

pub returns-in-Later-clause-refuses : goal.returns-in-Later-clause-refuses
returns-in-Later-clause-refuses g c =
    let runs = subst (λ x. runs_turn g.P.PartialState.Default.is_default (pair_begins g.S.PartialState.Default.is_default) c.args.later (g.M.ParseMode.first c.args.mode) x (Later c.in-Later.kept)) c.take.ensures.value c.in-Later.ensures in
    later_runs_reasons _ (pair_begins g.S.PartialState.Default.is_default) (g.P.Parser.meaning (ended_part c.args.self.now)) (pair g.Input.StreamOnce.step g.Input.Error.ParseError.observers (g.S.Parser.meaning (closer_of c.args.self.now)) (optional (g.P.Parser.meaning (ended_part c.args.self.now)))) some_of after_separator _ _ c.take.ensures.after _ _ _ _ _ _ _ (pair_is_meaning _ _ (g.met.S.Parser.laws _ c.requires.lawful.0) (optional_is_meaning _ g.P.Parser.valid _ (g.met.P.Parser.laws _ c.requires.lawful.1))) _ _ _ _ runs c.run_later.ensures.ran
