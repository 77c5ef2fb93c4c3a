use Rattle.combine_base.proofs.Errors.MeantRefusals.{reasoned_in_mode}
use Rattle.combine_base.proofs.Parsers.CallStarts.{in_mode}
use Rattle.combine_base.specs.Parser.KeptParsers.{KeptOf}
use Rattle.combine_combinator.specs.MadeParsers.{Adds, MadeBySome, at_any, at_any_lasts, lazy_maker, made_is_meaning}
use Rattle.combine_combinator.proofs.MadeAnswers.{begins_made, makable_kept, made_kept_valid, made_leaves_valid, reasons_made, resumes_made}
use Rattle.combine_combinator.proofs.lazy.types.LazyParser.parse_mode.Goals as goal

pub resume_made-requires-clause-ready : goal.resume_made-requires-clause-ready
resume_made-requires-clause-ready g c = let v = made_kept_valid (KeptOf g.N.Parser.lawful g.N.Parser.meaning (MadeBySome g.F.Maker.callable g.F.Maker.returns g.N.Parser.lawful)) g.N.Parser.valid c.in-Kept.ensures.from c.requires.valid in record { lawful = v.0.is_lawful; valid = v.1 }

pub returns-in-Kept-clause-valid : goal.returns-in-Kept-clause-valid
returns-in-Kept-clause-valid g c =
    let makable = MadeBySome g.F.Maker.callable g.F.Maker.returns g.N.Parser.lawful in
    let answers = g.F.Maker.returns (lazy_maker c.args.self.now) in
    let v = made_kept_valid (KeptOf g.N.Parser.lawful g.N.Parser.meaning makable) g.N.Parser.valid c.in-Kept.ensures.from c.requires.valid in
    made_leaves_valid g.N.Parser g.Input.StreamOnce g.Input.Error.ParseError.observers g.N.PartialState.Default.is_default (at_any answers) makable (Adds answers g.N.Parser.meaning) v.0 c.resume_made.ensures

pub returns-in-Kept-clause-answers : goal.returns-in-Kept-clause-answers
returns-in-Kept-clause-answers g c =
    let makable = MadeBySome g.F.Maker.callable g.F.Maker.returns g.N.Parser.lawful in
    let answers = g.F.Maker.returns (lazy_maker c.args.self.now) in
    let from = c.in-Kept.ensures.from in
    let laws = made_is_meaning (at_any answers) makable g.N.Parser.meaning (Adds answers g.N.Parser.meaning) g.N.Parser.lawful (at_any_lasts answers) g.met.N.Parser.laws (λ v. c.requires.lawful.1) in
    in_mode _ _ _ laws _ _ _ _ from _ _ _ _ _ (resumes_made g.N.Parser g.Input.StreamOnce g.Input.Error.ParseError.observers g.N.PartialState.Default.is_default (at_any answers) makable (Adds answers g.N.Parser.meaning) (made_kept_valid (KeptOf g.N.Parser.lawful g.N.Parser.meaning makable) g.N.Parser.valid from c.requires.valid).0 c.resume_made.ensures)

pub returns-clause-valid : goal.returns-clause-valid
returns-clause-valid g c =
    let makable = MadeBySome g.F.Maker.callable g.F.Maker.returns g.N.Parser.lawful in
    let answers = g.F.Maker.returns (lazy_maker c.args.self.now) in
    let every = c.requires.lawful.1 in
    let kept = makable_kept g.N.Parser g.Input.StreamOnce g.Input.Error.ParseError.observers g.N.PartialState.Default.is_default (at_any answers) makable (Adds answers g.N.Parser.meaning) c.make-parser.result (every c.make-parser.result c.make-parser.ensures) (record { maker = lazy_maker c.args.self.now; is_callable = c.requires.lawful.0; all = every; made = c.make-parser.ensures }) in
    made_leaves_valid g.N.Parser g.Input.StreamOnce g.Input.Error.ParseError.observers g.N.PartialState.Default.is_default (at_any answers) makable (Adds answers g.N.Parser.meaning) kept c.run_made.ensures

pub returns-clause-answers : goal.returns-clause-answers
returns-clause-answers g c =
    let makable = MadeBySome g.F.Maker.callable g.F.Maker.returns g.N.Parser.lawful in
    let answers = g.F.Maker.returns (lazy_maker c.args.self.now) in
    let from = c.in_default.ensures.from in
    let every = c.requires.lawful.1 in
    let laws = made_is_meaning (at_any answers) makable g.N.Parser.meaning (Adds answers g.N.Parser.meaning) g.N.Parser.lawful (at_any_lasts answers) g.met.N.Parser.laws (λ v. every) in
    let lawful = every c.make-parser.result c.make-parser.ensures in
    let kept = makable_kept g.N.Parser g.Input.StreamOnce g.Input.Error.ParseError.observers g.N.PartialState.Default.is_default (at_any answers) makable (Adds answers g.N.Parser.meaning) c.make-parser.result lawful (record { maker = lazy_maker c.args.self.now; is_callable = c.requires.lawful.0; all = every; made = c.make-parser.ensures }) in
    in_mode _ _ _ laws _ _ _ _ from _ _ _ _ _ (begins_made g.N.Parser g.Input.StreamOnce g.Input.Error.ParseError.observers g.N.PartialState.Default.is_default (at_any answers) makable (Adds answers g.N.Parser.meaning) kept c.run_made.ensures (at_any_lasts answers) (g.met.N.Parser.laws _ lawful) c.default.ensures c.make-parser.ensures)

pub returns-in-Kept-clause-refuses : goal.returns-in-Kept-clause-refuses
returns-in-Kept-clause-refuses g c =
    let makable = MadeBySome g.F.Maker.callable g.F.Maker.returns g.N.Parser.lawful in
    let answers = g.F.Maker.returns (lazy_maker c.args.self.now) in
    let laws = made_is_meaning (at_any answers) makable g.N.Parser.meaning (Adds answers g.N.Parser.meaning) g.N.Parser.lawful (at_any_lasts answers) g.met.N.Parser.laws (λ v. c.requires.lawful.1) in
    reasoned_in_mode laws g.Input.Error.ParseError.observers c.in-Kept.ensures.from c.resume_made.ensures.refuses

pub returns-clause-refuses : goal.returns-clause-refuses
returns-clause-refuses g c =
    let makable = MadeBySome g.F.Maker.callable g.F.Maker.returns g.N.Parser.lawful in
    let answers = g.F.Maker.returns (lazy_maker c.args.self.now) in
    let every = c.requires.lawful.1 in
    let laws = made_is_meaning (at_any answers) makable g.N.Parser.meaning (Adds answers g.N.Parser.meaning) g.N.Parser.lawful (at_any_lasts answers) g.met.N.Parser.laws (λ v. every) in
    let lawful = every c.make-parser.result c.make-parser.ensures in
    let kept = makable_kept g.N.Parser g.Input.StreamOnce g.Input.Error.ParseError.observers g.N.PartialState.Default.is_default (at_any answers) makable (Adds answers g.N.Parser.meaning) c.make-parser.result lawful (record { maker = lazy_maker c.args.self.now; is_callable = c.requires.lawful.0; all = every; made = c.make-parser.ensures }) in
    reasoned_in_mode laws g.Input.Error.ParseError.observers c.in_default.ensures.from (reasons_made g.N.Parser g.Input.StreamOnce g.Input.Error.ParseError.observers g.N.PartialState.Default.is_default (at_any answers) makable (Adds answers g.N.Parser.meaning) kept c.run_made.ensures (g.met.N.Parser.laws _ lawful) c.default.ensures c.make-parser.ensures)
