use Rattle.combine_base.proofs.Errors.MeantRefusals.{reasoned_in_mode}
use Rattle.combine_base.proofs.Parsers.SameMeanings.{passes_more}
use Rattle.combine_base.proofs.Parsers.CallStarts.{in_mode}
use Rattle.combine_base.specs.Error.Errors.{AddsNothing}
use Rattle.combine_base.specs.Parser.KeptParsers.{KeptOf}
use Rattle.combine_combinator.specs.MadeParsers.{MadeAt, by_factory, factory_maker, made_at_lasts, made_is_meaning, made_there}
use Rattle.combine_combinator.proofs.MadeAnswers.{begins_in_place, factory_makable, made_kept_valid, made_leaves_valid, makable_kept, reasons_in_place, resumes_made}
use Rattle.combine_combinator.proofs.lazy.types.FactoryParser.parse_mode.Goals as goal

pub resume_made-requires-clause-ready : goal.resume_made-requires-clause-ready
resume_made-requires-clause-ready g c =
    let makable = by_factory g.Input.StreamOnce.view g.Input.StreamOnce.marks g.Input.StreamOnce.failures g.F.MutFunction.callable g.F.MutFunction.returns g.N.Parser.lawful in
    let v = made_kept_valid (KeptOf g.N.Parser.lawful g.N.Parser.meaning makable) g.N.Parser.valid c.in-Kept.ensures.from c.requires.valid in
    record { lawful = v.0.is_lawful; valid = v.1 }

pub returns-in-Kept-clause-valid : goal.returns-in-Kept-clause-valid
returns-in-Kept-clause-valid g c =
    let view = g.Input.StreamOnce.view in
    let made_at = MadeAt view (g.F.MutFunction.returns (factory_maker c.args.self.now) tt) in
    let makable = by_factory view g.Input.StreamOnce.marks g.Input.StreamOnce.failures g.F.MutFunction.callable g.F.MutFunction.returns g.N.Parser.lawful in
    let v = made_kept_valid (KeptOf g.N.Parser.lawful g.N.Parser.meaning makable) g.N.Parser.valid c.in-Kept.ensures.from c.requires.valid in
    made_leaves_valid g.N.Parser g.Input.StreamOnce g.Input.Error.ParseError.observers g.N.PartialState.Default.is_default made_at makable AddsNothing v.0 c.resume_made.ensures

pub returns-in-Kept-clause-answers : goal.returns-in-Kept-clause-answers
returns-in-Kept-clause-answers g c =
    let view = g.Input.StreamOnce.view in
    let made_at = MadeAt view (g.F.MutFunction.returns (factory_maker c.args.self.now) tt) in
    let makable = by_factory view g.Input.StreamOnce.marks g.Input.StreamOnce.failures g.F.MutFunction.callable g.F.MutFunction.returns g.N.Parser.lawful in
    let lasts = made_at_lasts view (g.F.MutFunction.returns (factory_maker c.args.self.now) tt) in
    let from = c.in-Kept.ensures.from in
    let laws = made_is_meaning made_at makable g.N.Parser.meaning AddsNothing g.N.Parser.lawful lasts g.met.N.Parser.laws c.requires.lawful.2 in
    let v = made_kept_valid (KeptOf g.N.Parser.lawful g.N.Parser.meaning makable) g.N.Parser.valid from c.requires.valid in
    in_mode _ _ _ laws _ _ _ _ from _ _ _ _ _ (resumes_made g.N.Parser g.Input.StreamOnce g.Input.Error.ParseError.observers g.N.PartialState.Default.is_default made_at makable AddsNothing v.0 c.resume_made.ensures)

pub make_and_run-requires-clause-lawful : goal.make_and_run-requires-clause-lawful
make_and_run-requires-clause-lawful g c = λ n m. c.requires.lawful.2 _ n m

pub returns-clause-valid : goal.returns-clause-valid
returns-clause-valid g c =
    let view = g.Input.StreamOnce.view in
    let made_at = MadeAt view (g.F.MutFunction.returns (factory_maker c.args.self.now) tt) in
    let makable = by_factory view g.Input.StreamOnce.marks g.Input.StreamOnce.failures g.F.MutFunction.callable g.F.MutFunction.returns g.N.Parser.lawful in
    let every = c.requires.lawful.2 in
    let run = c.make_and_run.ensures in
    let made = made_there view (g.F.MutFunction.returns (factory_maker c.args.self.now) tt) _ _ _ run.made in
    let kept = makable_kept g.N.Parser g.Input.StreamOnce g.Input.Error.ParseError.observers g.N.PartialState.Default.is_default made_at makable AddsNothing run.parser (every _ _ made) (factory_makable view g.Input.StreamOnce.marks g.Input.StreamOnce.failures g.F.MutFunction.callable g.F.MutFunction.returns g.N.Parser.lawful (factory_maker c.args.self.now) c.requires.lawful.0 c.requires.lawful.1 every _ _ made) in
    made_leaves_valid g.N.Parser g.Input.StreamOnce g.Input.Error.ParseError.observers g.N.PartialState.Default.is_default made_at makable AddsNothing kept run.called

pub returns-clause-answers : goal.returns-clause-answers
returns-clause-answers g c =
    let view = g.Input.StreamOnce.view in
    let made_at = MadeAt view (g.F.MutFunction.returns (factory_maker c.args.self.now) tt) in
    let makable = by_factory view g.Input.StreamOnce.marks g.Input.StreamOnce.failures g.F.MutFunction.callable g.F.MutFunction.returns g.N.Parser.lawful in
    let lasts = made_at_lasts view (g.F.MutFunction.returns (factory_maker c.args.self.now) tt) in
    let from = c.in_default.ensures.from in
    let every = c.requires.lawful.2 in
    let laws = made_is_meaning made_at makable g.N.Parser.meaning AddsNothing g.N.Parser.lawful lasts g.met.N.Parser.laws every in
    let run = c.make_and_run.ensures in
    let made = made_there view (g.F.MutFunction.returns (factory_maker c.args.self.now) tt) _ _ _ run.made in
    let lawful = every _ _ made in
    let kept = makable_kept g.N.Parser g.Input.StreamOnce g.Input.Error.ParseError.observers g.N.PartialState.Default.is_default made_at makable AddsNothing run.parser lawful (factory_makable view g.Input.StreamOnce.marks g.Input.StreamOnce.failures g.F.MutFunction.callable g.F.MutFunction.returns g.N.Parser.lawful (factory_maker c.args.self.now) c.requires.lawful.0 c.requires.lawful.1 every _ _ made) in
    in_mode _ _ _ laws _ _ _ _ from _ _ _ _ _ (begins_in_place g.N.Parser g.Input.StreamOnce g.Input.Error.ParseError.observers g.N.PartialState.Default.is_default made_at makable AddsNothing kept run.called (view c.args.input.now) (g.Input.StreamOnce.failures c.args.input.now) run.view run.failures lasts (g.met.N.Parser.laws _ lawful) run.is_default made)

pub returns-clause-passes : goal.returns-clause-passes
returns-clause-passes g c = let run = c.make_and_run.ensures in passes_more run.passes run.called.passes

pub returns-in-Kept-clause-refuses : goal.returns-in-Kept-clause-refuses
returns-in-Kept-clause-refuses g c =
    let view = g.Input.StreamOnce.view in
    let made_at = MadeAt view (g.F.MutFunction.returns (factory_maker c.args.self.now) tt) in
    let makable = by_factory view g.Input.StreamOnce.marks g.Input.StreamOnce.failures g.F.MutFunction.callable g.F.MutFunction.returns g.N.Parser.lawful in
    let lasts = made_at_lasts view (g.F.MutFunction.returns (factory_maker c.args.self.now) tt) in
    let laws = made_is_meaning made_at makable g.N.Parser.meaning AddsNothing g.N.Parser.lawful lasts g.met.N.Parser.laws c.requires.lawful.2 in
    reasoned_in_mode laws g.Input.Error.ParseError.observers c.in-Kept.ensures.from c.resume_made.ensures.refuses

pub returns-clause-refuses : goal.returns-clause-refuses
returns-clause-refuses g c =
    let view = g.Input.StreamOnce.view in
    let made_at = MadeAt view (g.F.MutFunction.returns (factory_maker c.args.self.now) tt) in
    let makable = by_factory view g.Input.StreamOnce.marks g.Input.StreamOnce.failures g.F.MutFunction.callable g.F.MutFunction.returns g.N.Parser.lawful in
    let lasts = made_at_lasts view (g.F.MutFunction.returns (factory_maker c.args.self.now) tt) in
    let every = c.requires.lawful.2 in
    let laws = made_is_meaning made_at makable g.N.Parser.meaning AddsNothing g.N.Parser.lawful lasts g.met.N.Parser.laws every in
    let run = c.make_and_run.ensures in
    let made = made_there view (g.F.MutFunction.returns (factory_maker c.args.self.now) tt) _ _ _ run.made in
    let lawful = every _ _ made in
    let kept = makable_kept g.N.Parser g.Input.StreamOnce g.Input.Error.ParseError.observers g.N.PartialState.Default.is_default made_at makable AddsNothing run.parser lawful (factory_makable view g.Input.StreamOnce.marks g.Input.StreamOnce.failures g.F.MutFunction.callable g.F.MutFunction.returns g.N.Parser.lawful (factory_maker c.args.self.now) c.requires.lawful.0 c.requires.lawful.1 every _ _ made) in
    reasoned_in_mode laws g.Input.Error.ParseError.observers c.in_default.ensures.from (reasons_in_place g.N.Parser g.Input.StreamOnce g.Input.Error.ParseError.observers g.N.PartialState.Default.is_default made_at makable AddsNothing kept run.called (view c.args.input.now) run.view (g.met.N.Parser.laws _ lawful) run.is_default made)
