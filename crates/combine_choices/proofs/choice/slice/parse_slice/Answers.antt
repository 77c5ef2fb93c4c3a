use Rattle.std.proofs.Common.{◌≡◌, ◌<◌, ◌≤◌, length, arith, rules, refl}
use Rattle.combine_base.specs.Parser.Answer.{world}
use Rattle.combine_base.specs.Parser.Meaning.{IsMeaning}
use Rattle.combine_choice.proofs.Choices.ChoiceOutcomes.{tries_answers}
use Rattle.combine_choices.specs.ListChoice.{chosen_same, every_all}
use Rattle.combine_choices.proofs.AlternativeLists.{drop_past, drop_within}
use Rattle.combine_choices.proofs.SliceCalls.{slice_afresh, begins_first, begins_kept}
use Rattle.combine_choices.specs.declared.choice.slice.SliceState.TheVariants.{Peek}
use Rattle.combine_base.proofs.Errors.CallReasons.{reasons_into}
use Rattle.combine_choices.proofs.MergedErrors.{empty_reasons, start_afresh, start_kept}
use Rattle.combine_choices.proofs.choice.slice.parse_slice.Goals as goal

pub returns-in-At-clause-same : goal.returns-in-At-clause-same
returns-in-At-clause-same g c = chosen_same g.Input.Error.ParseError.observers g.Input.Position.Ord.cmp g.P.Parser.meaning _ _ c.resume.ensures.same

pub returns-in-Peek-clause-same : goal.returns-in-Peek-clause-same
returns-in-Peek-clause-same g c = chosen_same g.Input.Error.ParseError.observers g.Input.Position.Ord.cmp g.P.Parser.meaning _ _ c.choose.ensures.same

pub returns-in-At-clause-lawful : goal.returns-in-At-clause-lawful
returns-in-At-clause-lawful g c = c.resume.ensures.lawful

pub returns-in-At-clause-valid : goal.returns-in-At-clause-valid
returns-in-At-clause-valid g c = c.resume.ensures.valid

pub returns-in-At-clause-passes : goal.returns-in-At-clause-passes
returns-in-At-clause-passes g c = c.resume.ensures.passes

pub returns-in-Peek-clause-lawful : goal.returns-in-Peek-clause-lawful
returns-in-Peek-clause-lawful g c = c.choose.ensures.lawful

pub returns-in-Peek-clause-valid : goal.returns-in-Peek-clause-valid
returns-in-Peek-clause-valid g c = c.choose.ensures.valid

pub returns-in-Peek-clause-passes : goal.returns-in-Peek-clause-passes
returns-in-Peek-clause-passes g c = c.choose.ensures.passes

pub returns-in-At-clause-answers : goal.returns-in-At-clause-answers
returns-in-At-clause-answers g c =
    let w = world g.Input.StreamOnce.step g.Input.Error.ParseError.observers g.Input.StreamOnce.counts_failures (λ s. s ≡ Peek) in
    let on = rw (c.in-At.is, c.replace-kept.ensures.value) at c.running.ensures.is in
    let z = begins_kept w g.Input.Error.ParseError.observers g.Input.Position.Ord.cmp g.P.Parser.meaning c.args.alternatives.now _ _ _ on.0 on.1 _ _ in
    tries_answers _ _ _ _ z refl refl refl _ c.resume.ensures.answers

pub returns-in-Peek-clause-answers : goal.returns-in-Peek-clause-answers
returns-in-Peek-clause-answers g c =
    let w = world g.Input.StreamOnce.step g.Input.Error.ParseError.observers g.Input.StreamOnce.counts_failures (λ s. s ≡ Peek) in
    let some : 0 < length c.args.alternatives.now = search (rules, arith) in
    let on = rw (c.in-Peek.is, c.replace-kept.ensures.value) at c.running.ensures.is in
    let h = every_all g.P.Parser.meaning g.P.Parser.lawful (IsMeaning g.P.PartialState.Default.is_default g.P.Parser.valid) g.met.P.Parser.laws c.args.alternatives.now c.requires.lawful in
    let z = begins_first w g.Input.Error.ParseError.observers g.Input.Position.Ord.cmp g.P.Parser.meaning c.args.alternatives.now _ _ h some _ c.default-begun.ensures _ _ (slice_afresh w g.Input.Error.ParseError.observers g.Input.Position.Ord.cmp g.P.Parser.meaning c.args.alternatives.now _ _ on) _ _ in
    tries_answers _ _ _ _ z refl refl refl _ c.choose.ensures.answers

pub returns-in-At-clause-refuses : goal.returns-in-At-clause-refuses
returns-in-At-clause-refuses g c =
    let on = rw (c.in-At.is, c.replace-kept.ensures.value) at c.running.ensures.is in
    let there = drop_within c.args.alternatives.now c.in-At.index on.2 in
    let call = rw c.default.ensures at c.resume.ensures.refuses in
    reasons_into _ _ _ _ _ (start_kept _ _ g.P.Parser.meaning _ _ _ _ _ _ _ there.0 there.1 on.0 on.1 there.2) call

pub returns-in-Peek-clause-refuses : goal.returns-in-Peek-clause-refuses
returns-in-Peek-clause-refuses g c =
    let on = rw (c.in-Peek.is, c.replace-kept.ensures.value) at c.running.ensures.is in
    reasons_into _ _ _ _ _ (start_afresh _ _ g.P.Parser.meaning _ _ _ _ _ on) c.choose.ensures.refuses

pub returns-then-is_empty-clause-refuses : goal.returns-then-is_empty-clause-refuses
returns-then-is_empty-clause-refuses g c =
    let few : length c.args.alternatives.now ≤ 0 = search (rules, arith) in
    let none = drop_past c.args.alternatives.now 0 few in
    empty_reasons g.Input.Error.ParseError.observers g.Input.Position.Ord.cmp g.P.Parser.meaning _ _ (g.M.ParseMode.first c.args.mode) c.args.state.now none _ c.no_alternative.ensures
