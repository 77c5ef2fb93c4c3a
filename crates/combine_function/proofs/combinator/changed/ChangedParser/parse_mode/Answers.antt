use Rattle.combine_base.specs.Parser.GivenValues.{GivesOnly}
use Rattle.combine_base.proofs.Parsers.GivenValues.{good_ok, good_peek_ok}
use Rattle.combine_function.specs.Changes.{changed_means_same, spares}
use Rattle.combine_function.specs.ChangeParsers.{change_part, changed_part}
use Rattle.combine_function.proofs.Changes.{changed_err, changed_peek_err, commit_denial, commit_value, gives_same, part_error, part_refusal, peek_denial, peek_value, value_error, value_refusal}
use Rattle.combine_function.proofs.combinator.changed.ChangedParser.parse_mode.Goals as goal

pub change-requires : goal.change-requires
change-requires g c = good_ok _ _ _ _ _ _ c.requires.lawful.1 c.requires.valid c.in-CommitOk.ensures.answers

pub change-requires-in-PeekOk : goal.change-requires-in-PeekOk
change-requires-in-PeekOk g c = good_peek_ok _ _ _ _ _ _ c.requires.lawful.1 c.requires.valid c.in-PeekOk.ensures.answers

pub returns-in-Ok-clause-same : goal.returns-in-Ok-clause-same
returns-in-Ok-clause-same g c =
    let k = change_part c.args.self.now in
    let same = c.parse_mode.ensures.same in
    changed_means_same g.Input.StreamOnce.step (g.C.ValueChange.gives k) (g.C.ValueChange.denies k) (g.C.ValueChange.says k) (gives_same g.P.Parser.valid (spares (g.C.ValueChange.starves k)) _ _ same) same

pub returns-in-Err-clause-same : goal.returns-in-Err-clause-same
returns-in-Err-clause-same g c =
    let k = change_part c.args.self.now in
    let same = c.parse_mode.ensures.same in
    changed_means_same g.Input.StreamOnce.step (g.C.ValueChange.gives k) (g.C.ValueChange.denies k) (g.C.ValueChange.says k) (gives_same g.P.Parser.valid (spares (g.C.ValueChange.starves k)) _ _ same) same

pub returns-in-Ok-change-clause-same : goal.returns-in-Ok-change-clause-same
returns-in-Ok-change-clause-same g c =
    let k = change_part c.args.self.now in
    let same = c.parse_mode.ensures.same in
    changed_means_same g.Input.StreamOnce.step (g.C.ValueChange.gives k) (g.C.ValueChange.denies k) (g.C.ValueChange.says k) (gives_same g.P.Parser.valid (spares (g.C.ValueChange.starves k)) _ _ same) same

pub returns-in-Err-change-clause-same : goal.returns-in-Err-change-clause-same
returns-in-Err-change-clause-same g c =
    let k = change_part c.args.self.now in
    let same = c.parse_mode.ensures.same in
    changed_means_same g.Input.StreamOnce.step (g.C.ValueChange.gives k) (g.C.ValueChange.denies k) (g.C.ValueChange.says k) (gives_same g.P.Parser.valid (spares (g.C.ValueChange.starves k)) _ _ same) same

pub returns-in-CommitErr-clause-same : goal.returns-in-CommitErr-clause-same
returns-in-CommitErr-clause-same g c =
    let k = change_part c.args.self.now in
    let same = c.parse_mode.ensures.same in
    changed_means_same g.Input.StreamOnce.step (g.C.ValueChange.gives k) (g.C.ValueChange.denies k) (g.C.ValueChange.says k) (gives_same g.P.Parser.valid (spares (g.C.ValueChange.starves k)) _ _ same) same

pub returns-in-PeekErr-clause-same : goal.returns-in-PeekErr-clause-same
returns-in-PeekErr-clause-same g c =
    let k = change_part c.args.self.now in
    let same = c.parse_mode.ensures.same in
    changed_means_same g.Input.StreamOnce.step (g.C.ValueChange.gives k) (g.C.ValueChange.denies k) (g.C.ValueChange.says k) (gives_same g.P.Parser.valid (spares (g.C.ValueChange.starves k)) _ _ same) same

pub returns-in-CommitErr-clause-answers : goal.returns-in-CommitErr-clause-answers
returns-in-CommitErr-clause-answers g c =
    let k = change_part c.args.self.now in
    changed_err _ g.P.Parser.valid (g.C.ValueChange.gives k) (g.C.ValueChange.denies k) (g.C.ValueChange.starves k) (g.C.ValueChange.says k) _ _ _ c.in-CommitErr.ensures.answers

pub returns-in-PeekErr-clause-answers : goal.returns-in-PeekErr-clause-answers
returns-in-PeekErr-clause-answers g c =
    let k = change_part c.args.self.now in
    changed_peek_err _ g.P.Parser.valid (g.C.ValueChange.gives k) (g.C.ValueChange.denies k) (g.C.ValueChange.starves k) (g.C.ValueChange.says k) _ _ _ c.in-PeekErr.ensures.answers

pub returns-in-Ok-clause-lawful : goal.returns-in-Ok-clause-lawful
returns-in-Ok-clause-lawful g c =
    let k = change_part c.args.self.now in
    (c.parse_mode.ensures.lawful, (gives_same g.P.Parser.valid (g.C.ValueChange.callable k) _ _ c.parse_mode.ensures.same).0 c.requires.lawful.1)

pub returns-in-Err-clause-lawful : goal.returns-in-Err-clause-lawful
returns-in-Err-clause-lawful g c =
    let k = change_part c.args.self.now in
    (c.parse_mode.ensures.lawful, (gives_same g.P.Parser.valid (g.C.ValueChange.callable k) _ _ c.parse_mode.ensures.same).0 c.requires.lawful.1)

pub returns-in-Ok-change-clause-lawful : goal.returns-in-Ok-change-clause-lawful
returns-in-Ok-change-clause-lawful g c =
    let k = change_part c.args.self.now in
    (c.parse_mode.ensures.lawful, (gives_same g.P.Parser.valid (g.C.ValueChange.callable k) _ _ c.parse_mode.ensures.same).0 c.requires.lawful.1)

pub returns-in-Err-change-clause-lawful : goal.returns-in-Err-change-clause-lawful
returns-in-Err-change-clause-lawful g c =
    let k = change_part c.args.self.now in
    (c.parse_mode.ensures.lawful, (gives_same g.P.Parser.valid (g.C.ValueChange.callable k) _ _ c.parse_mode.ensures.same).0 c.requires.lawful.1)

pub returns-in-CommitErr-clause-lawful : goal.returns-in-CommitErr-clause-lawful
returns-in-CommitErr-clause-lawful g c =
    let k = change_part c.args.self.now in
    (c.parse_mode.ensures.lawful, (gives_same g.P.Parser.valid (g.C.ValueChange.callable k) _ _ c.parse_mode.ensures.same).0 c.requires.lawful.1)

pub returns-in-PeekErr-clause-lawful : goal.returns-in-PeekErr-clause-lawful
returns-in-PeekErr-clause-lawful g c =
    let k = change_part c.args.self.now in
    (c.parse_mode.ensures.lawful, (gives_same g.P.Parser.valid (g.C.ValueChange.callable k) _ _ c.parse_mode.ensures.same).0 c.requires.lawful.1)

pub returns-in-Ok-clause-answers : goal.returns-in-Ok-clause-answers
returns-in-Ok-clause-answers g c =
    let k = change_part c.args.self.now in
    commit_value g.Input.Error.ParseError.observers _ _ _ g.P.Parser.valid (g.C.ValueChange.gives k) (g.C.ValueChange.denies k) (g.C.ValueChange.starves k) (g.C.ValueChange.says k) _ _ _ _ c.change.ensures.view c.change.ensures.failures _ _ _ c.in-CommitOk.ensures.answers c.in-Ok.ensures.changes

pub returns-in-Ok-change-clause-answers : goal.returns-in-Ok-change-clause-answers
returns-in-Ok-change-clause-answers g c =
    let k = change_part c.args.self.now in
    peek_value g.Input.Error.ParseError.observers _ _ _ g.P.Parser.valid (g.C.ValueChange.gives k) (g.C.ValueChange.denies k) (g.C.ValueChange.starves k) (g.C.ValueChange.says k) _ _ _ _ c.change-in-PeekOk.ensures.view c.change-in-PeekOk.ensures.failures _ _ _ c.in-PeekOk.ensures.answers c.in-Ok-change.ensures.changes

pub returns-in-Err-clause-answers : goal.returns-in-Err-clause-answers
returns-in-Err-clause-answers g c =
    let k = change_part c.args.self.now in
    commit_denial g.Input.Error.ParseError.observers _ _ _ g.P.Parser.valid (g.C.ValueChange.gives k) (g.C.ValueChange.denies k) (g.C.ValueChange.starves k) (g.C.ValueChange.says k) _ _ _ _ c.change.ensures.view c.change.ensures.failures _ _ c.requires.valid _ c.in-CommitOk.ensures.answers c.in-Err.ensures.changes

pub returns-in-Err-change-clause-answers : goal.returns-in-Err-change-clause-answers
returns-in-Err-change-clause-answers g c =
    let k = change_part c.args.self.now in
    let refused = rw c.from.ensures at c.peeked.ensures in
    peek_denial g.Input.Error.ParseError.observers _ _ _ g.P.Parser.valid (g.C.ValueChange.gives k) (g.C.ValueChange.denies k) (g.C.ValueChange.starves k) (g.C.ValueChange.says k) _ _ _ _ c.change-in-PeekOk.ensures.view c.change-in-PeekOk.ensures.failures _ _ c.requires.valid _ _ c.in-PeekOk.ensures.answers c.in-Err-change.ensures.changes refused

pub returns-in-CommitErr-clause-refuses : goal.returns-in-CommitErr-clause-refuses
returns-in-CommitErr-clause-refuses g c =
    let k = change_part c.args.self.now in
    let m = g.P.Parser.meaning (changed_part c.args.self.now) in
    part_error g.Input.Error.ParseError.observers g.Input.StreamOnce.step (g.C.ValueChange.gives k) (g.C.ValueChange.denies k) (g.C.ValueChange.says k) (GivesOnly g.P.Parser.valid m (spares (g.C.ValueChange.starves k))) m _ _ _ _ _ c.in-CommitErr.ensures.answers c.in-CommitErr.ensures.refuses

pub returns-in-PeekErr-clause-refuses : goal.returns-in-PeekErr-clause-refuses
returns-in-PeekErr-clause-refuses g c =
    let k = change_part c.args.self.now in
    let m = g.P.Parser.meaning (changed_part c.args.self.now) in
    part_refusal g.Input.Error.ParseError.observers g.Input.StreamOnce.step (g.C.ValueChange.gives k) (g.C.ValueChange.denies k) (g.C.ValueChange.says k) (GivesOnly g.P.Parser.valid m (spares (g.C.ValueChange.starves k))) m _ _ _ _ _ c.in-PeekErr.ensures.answers c.in-PeekErr.ensures.refuses

pub returns-in-Err-clause-refuses : goal.returns-in-Err-clause-refuses
returns-in-Err-clause-refuses g c =
    let k = change_part c.args.self.now in
    let m = g.P.Parser.meaning (changed_part c.args.self.now) in
    value_error g.Input.Error.ParseError.observers g.Input.StreamOnce.step (g.C.ValueChange.gives k) (g.C.ValueChange.denies k) (g.C.ValueChange.says k) (GivesOnly g.P.Parser.valid m (spares (g.C.ValueChange.starves k))) m _ _ _ _ _ _ _ _ _ _ c.change.ensures.view _ _ _ _ _ (rw c.position-began.ensures at c.in-Err.ensures.changes) c.in-CommitOk.ensures.answers

pub returns-in-Err-change-clause-refuses : goal.returns-in-Err-change-clause-refuses
returns-in-Err-change-clause-refuses g c =
    let k = change_part c.args.self.now in
    let m = g.P.Parser.meaning (changed_part c.args.self.now) in
    let refused = rw c.from.ensures at c.peeked.ensures in
    value_refusal g.Input.Error.ParseError.observers g.Input.StreamOnce.step (g.C.ValueChange.gives k) (g.C.ValueChange.denies k) (g.C.ValueChange.says k) (GivesOnly g.P.Parser.valid m (spares (g.C.ValueChange.starves k))) m _ _ _ _ _ _ _ _ _ _ c.change-in-PeekOk.ensures.view _ _ _ _ _ (rw c.position-began.ensures at c.in-Err-change.ensures.changes) c.in-PeekOk.ensures.answers _ refused
