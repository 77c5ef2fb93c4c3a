use Rattle.std.proofs.Common.{◌≡◌, ◌+◌, ◌∙◌, ap, length, arith, refl}
use Rattle.std.specs.Prelude.{Ok}
use Rattle.std.proofs.lemmas.Result.{err_from_is_err_and}
use Rattle.combine_base.proofs.Parsers.SameMeanings.{same_none, same_more}
use Rattle.combine_session.proofs.CutRuns.{before_any_cut, decided_at_cut, stops_by, asked_at_cut, decided_after_cuts, ends_by, cut_within, fits_last, fits_in_tokens, window_same}
use Rattle.combine_session.proofs.cuts.parse_cuts.Goals as goal

pub loop-cut-init : goal.loop-cut-init
loop-cut-init g c =
    let law = g.met.P.Parser.laws _ c.requires.lawful in
    record {
      lawful = c.requires.lawful;
      valid = g.met.P.Parser.default_valid _ c.default-state.ensures;
      same = same_none _;
      asked = refl;
      place = c.start-place.ensures.place;
      index = c.start-place.ensures.none;
      position = ap (λ v. v.position) c.new-stream.ensures ∙ g.met.S.DefaultPositioned.counts c.args.whole 0 (omega arith);
      so_far = before_any_cut _ _ _ _ _ _ _ _ _ _ law c.default-state.ensures;
    }

pub parse_window-next-requires-clause-to : goal.parse_window-next-requires-clause-to
parse_window-next-requires-clause-to g c = c.requires.fit.placed c.loop-cut.cut-index c.loop-cut-test.true

pub parse_window-next-requires-clause-position : goal.parse_window-next-requires-clause-position
parse_window-next-requires-clause-position g c = c.loop-cut.invariant.position

pub parse_window-next-requires-clause-order : goal.parse_window-next-requires-clause-order
parse_window-next-requires-clause-order g c =
    let law = (g.met.P.Parser.laws _ c.requires.lawful).whole in
    let fit = fits_in_tokens _ _ _ _ (g.met.S.Windowed.rises c.args.whole) c.requires.fit in
    let within = cut_within _ _ _ _ _ _ _ law fit _ _ _ c.loop-cut.invariant.so_far c.loop-cut-test.true in
    let to = c.requires.fit.placed c.loop-cut.cut-index c.loop-cut-test.true in
    g.met.S.Windowed.ordered c.args.whole _ _ c.loop-cut.invariant.place to (let i = c.loop-cut.invariant.index in let l = within.0 in omega arith)

pub returns-in_err-answer-clause-runs : goal.returns-in_err-answer-clause-runs
returns-in_err-answer-clause-runs g c =
    let law = (g.met.P.Parser.laws _ c.requires.lawful).whole in
    let fit = fits_in_tokens _ _ _ _ (g.met.S.Windowed.rises c.args.whole) c.requires.fit in
    let p = window_same c.loop-cut.invariant.same c.parse_window-next.ensures.parses in
    let e = err_from_is_err_and c.from_residual.result c.from_residual.ensures.1 in
    rw (e.1, e.2) (stops_by _ _ _ _ _ _ _ law fit _ _ _ c.loop-cut.invariant.so_far c.loop-cut-test.true _ _ _ _ _ _ c.in_err-answer.was p)

pub returns-in_default : goal.returns-in_default
returns-in_default g c =
    let law = (g.met.P.Parser.laws _ c.requires.lawful).whole in
    let fit = fits_in_tokens _ _ _ _ (g.met.S.Windowed.rises c.args.whole) c.requires.fit in
    let p = window_same c.loop-cut.invariant.same c.parse_window-next.ensures.parses in
    record {
      lawful = c.parse_window-next.ensures.lawful;
      same = same_more _ _ _ c.loop-cut.invariant.same c.parse_window-next.ensures.same;
      single = λ d. (g.met.P.Parser.single _ c.requires.lawful d).whole;
      runs = decided_at_cut _ _ _ _ _ _ _ law fit _ _ _ c.loop-cut.invariant.so_far c.loop-cut-test.true _ _ _ _ c.loop-cut.asked c.loop-cut.invariant.asked _ _ c.in_default.not-More c.in_ok-answer.was p;
    }

pub loop-cut-preserved : goal.loop-cut-preserved
loop-cut-preserved g c =
    let law = (g.met.P.Parser.laws _ c.requires.lawful).whole in
    let fit = fits_in_tokens _ _ _ _ (g.met.S.Windowed.rises c.args.whole) c.requires.fit in
    let p = window_same c.loop-cut.invariant.same c.parse_window-next.ensures.parses in
    record {
      lawful = c.parse_window-next.ensures.lawful;
      valid = c.parse_window-next.ensures.valid;
      same = same_more _ _ _ c.loop-cut.invariant.same c.parse_window-next.ensures.same;
      asked = ap (λ n. n + 1) c.loop-cut.invariant.asked;
      place = c.parse_window-next.ensures.place;
      index = c.parse_window-next.ensures.index;
      position = c.parse_window-next.ensures.position;
      so_far = asked_at_cut _ _ _ _ _ _ _ law fit _ _ _ c.loop-cut.invariant.so_far c.loop-cut-test.true _ _ _ _ _ (c.in_ok-answer.was ∙ ap Ok c.in-More.is) p;
    }

pub parse_window-run-requires-clause-to : goal.parse_window-run-requires-clause-to
parse_window-run-requires-clause-to g c = c.end-end.ensures.place

pub parse_window-run-requires-clause-position : goal.parse_window-run-requires-clause-position
parse_window-run-requires-clause-position g c = c.loop-cut.invariant.position

pub parse_window-run-requires-clause-order : goal.parse_window-run-requires-clause-order
parse_window-run-requires-clause-order g c =
    let law = (g.met.P.Parser.laws _ c.requires.lawful).whole in
    let fit = fits_in_tokens _ _ _ _ (g.met.S.Windowed.rises c.args.whole) c.requires.fit in
    let within = fits_last _ _ _ _ _ _ _ law fit _ _ c.loop-cut.cut-index (omega arith) c.loop-cut.invariant.so_far in
    g.met.S.Windowed.ordered c.args.whole _ _ c.loop-cut.invariant.place c.end-end.ensures.place (let i = c.loop-cut.invariant.index in let n = c.end-end.ensures.all in omega arith)

pub returns-in_err-parsed-clause-runs : goal.returns-in_err-parsed-clause-runs
returns-in_err-parsed-clause-runs g c =
    let law = (g.met.P.Parser.laws _ c.requires.lawful).whole in
    let fit = fits_in_tokens _ _ _ _ (g.met.S.Windowed.rises c.args.whole) c.requires.fit in
    let p = window_same c.loop-cut.invariant.same c.parse_window-run.ensures.parses in
    let e = err_from_is_err_and c.from_residual-in_err-parsed.result c.from_residual-in_err-parsed.ensures.1 in
    rw (e.1, e.2) (ends_by _ _ _ _ _ _ _ law fit _ _ c.loop-cut.cut-index (omega arith) c.loop-cut.invariant.so_far _ _ _ _ _ _ c.in_err-parsed.was (rw c.end-end.ensures.all at p))

pub returns-clause-runs : goal.returns-clause-runs
returns-clause-runs g c =
    let law = (g.met.P.Parser.laws _ c.requires.lawful).whole in
    let fit = fits_in_tokens _ _ _ _ (g.met.S.Windowed.rises c.args.whole) c.requires.fit in
    let p = window_same c.loop-cut.invariant.same c.parse_window-run.ensures.parses in
    let all : c.loop-cut.cut-index ≡ length c.args.cuts.now = omega arith in
    decided_after_cuts _ _ _ _ _ _ _ law fit _ _ c.loop-cut.cut-index (omega arith) c.loop-cut.invariant.so_far _ _ _ _ all c.loop-cut.asked c.loop-cut.invariant.asked _ _ c.in_ok-parsed.was (rw c.end-end.ensures.all at p)

pub returns-in_err-answer-clause-single : goal.returns-in_err-answer-clause-single
returns-in_err-answer-clause-single g c = λ d. (g.met.P.Parser.single _ c.requires.lawful d).whole

pub returns-in_err-parsed-clause-single : goal.returns-in_err-parsed-clause-single
returns-in_err-parsed-clause-single g c = λ d. (g.met.P.Parser.single _ c.requires.lawful d).whole

pub returns-clause-single : goal.returns-clause-single
returns-clause-single g c = λ d. (g.met.P.Parser.single _ c.requires.lawful d).whole
