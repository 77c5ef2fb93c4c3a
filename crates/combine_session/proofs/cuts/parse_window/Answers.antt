use Rattle.std.proofs.Common.{◌≤◌, ◌∙◌, ap, arith}
use Rattle.combine_stream.specs.MaybePartial.{marked}
use Rattle.combine_session.proofs.Windows.{widened, window_left, parsed_window}
use Rattle.combine_session.proofs.cuts.parse_window.Goals as goal

pub count_to-taken-requires-clause-order : goal.count_to-taken-requires-clause-order
count_to-taken-requires-clause-order g c =
    let bounds = g.met.S.Windowed.rises c.args.whole c.args.run.place c.args.to c.requires.place c.requires.to c.requires.order in
    let whole = g.S.DefaultPositioned.whole c.args.whole in
    let from = c.args.run.taken in
    let to = g.S.Windowed.index c.args.whole c.args.to in
    let i = c.requires.index in
    let l : from ≤ to = omega arith in
    let e = widened g.S.Located.StreamOnce.step whole.position whole.unread from to _ c.args.is_open _ _ _ (ap (marked c.args.is_open) c.window.ensures) (c.position-position.ensures ∙ c.requires.position) i l (g.met.S.DefaultPositioned.counts c.args.whole from (omega arith)) in
    let left = window_left _ _ _ whole.position whole.unread from to c.args.is_open _ e bounds.1 l c.parse_partial-parsed.ensures.answers in
    let placed = c.place_before-place.ensures left.0 left.1.within left.1.unread in
    let since = left.1.since in
    g.met.S.Windowed.ordered c.args.whole c.args.run.place c.place_before-place.result c.requires.place placed.0 (let k = placed.2 in omega arith)

pub returns-clause-position : goal.returns-clause-position
returns-clause-position g c =
    let bounds = g.met.S.Windowed.rises c.args.whole c.args.run.place c.args.to c.requires.place c.requires.to c.requires.order in
    let whole = g.S.DefaultPositioned.whole c.args.whole in
    let from = c.args.run.taken in
    let to = g.S.Windowed.index c.args.whole c.args.to in
    let i = c.requires.index in
    let l : from ≤ to = omega arith in
    let e = widened g.S.Located.StreamOnce.step whole.position whole.unread from to _ c.args.is_open _ _ _ (ap (marked c.args.is_open) c.window.ensures) (c.position-position.ensures ∙ c.requires.position) i l (g.met.S.DefaultPositioned.counts c.args.whole from (omega arith)) in
    let left = window_left _ _ _ whole.position whole.unread from to c.args.is_open _ e bounds.1 l c.parse_partial-parsed.ensures.answers in
    let placed = c.place_before-place.ensures left.0 left.1.within left.1.unread in
    let within = left.1.within in
    left.1.position ∙ g.met.S.DefaultPositioned.counts c.args.whole left.0 (let b = bounds.1 in omega arith) ∙ ap (g.S.DefaultPositioned.behind c.args.whole) (let k = placed.2 in let n = c.count_to-taken.ensures in omega arith)

pub returns-clause-parses : goal.returns-clause-parses
returns-clause-parses g c =
    let bounds = g.met.S.Windowed.rises c.args.whole c.args.run.place c.args.to c.requires.place c.requires.to c.requires.order in
    let whole = g.S.DefaultPositioned.whole c.args.whole in
    let from = c.args.run.taken in
    let to = g.S.Windowed.index c.args.whole c.args.to in
    let i = c.requires.index in
    let l : from ≤ to = omega arith in
    let e = widened g.S.Located.StreamOnce.step whole.position whole.unread from to _ c.args.is_open _ _ _ (ap (marked c.args.is_open) c.window.ensures) (c.position-position.ensures ∙ c.requires.position) i l (g.met.S.DefaultPositioned.counts c.args.whole from (omega arith)) in
    let left = window_left _ _ _ whole.position whole.unread from to c.args.is_open _ e bounds.1 l c.parse_partial-parsed.ensures.answers in
    let placed = c.place_before-place.ensures left.0 left.1.within left.1.unread in
    parsed_window _ _ _ _ _ _ _ _ _ _ _ _ _ left.0 _ _ _ _ _ _ e (g.met.S.Windowed.never_fails _ _) left.1 (let k = placed.2 in let n = c.count_to-taken.ensures in omega arith) c.judge-answer.ensures c.parse_partial-parsed.ensures.answers c.parse_partial-parsed.ensures.refuses
