use Rattle.std.proofs.Common.{◌≡◌, false, sym, refl, ◌∙◌, arith}
use Rattle.combine_base.specs.Error.Errors.{AddsNothing}
use Rattle.combine_base.proofs.Parsers.Progress.{moves_more, takes_open}
use Rattle.combine_range.proofs.KeptDistance.{breaks}
use Rattle.combine_range.specs.RangeReasons.{RefusesKept, RefusesMissing}
use Rattle.combine_range.specs.Range.UntilRange.{until_range}
use Rattle.combine_range.specs.WantedRanges.{equal_range}
use Rattle.combine_range.proofs.RangeReasons.{kept_inside, kept_own, kept_reasons, reasons_broke, reasons_ended, reasons_handed, reasons_keeping, reasons_unpassed}
use Rattle.combine_range.proofs.UntilRange.{stopped_before, stops_at_none, until_hands, until_keeps, until_range_ends}
use Rattle.combine_range.proofs.range.until.TakeUntilRangeRangeParser.parse_mode.Goals as goal

pub returns-then-is_partial-clause-answers : goal.returns-then-is_partial-clause-answers
returns-then-is_partial-clause-answers g c =
    let s = (rw c.if-found.false at c.in-Ok.ensures.seeks).is in
    let z = stopped_before c.in_default.ensures.over s.0 in
    let p = c.pass_items.ensures.passes in
    let q = c.seek.ensures.passes in
    let k = g.Input.StreamOnce.failures c.seek.new.input in
    let stands = g.met.Input.ResetStream.lasts _ _ _ _ c.seek.ensures.passes.marks (g.met.Input.ResetStream.lasts _ _ _ _ c.pass_items.ensures.passes.marks c.checkpoint-start.ensures.stands) in
    until_keeps _ _ g.met.Input.RangeStream.filled _ _ _ _ _ _ (rw c.is_first.ensures at c.begin-distance.ensures.begun) _ k z (stops_at_none c.in_default.ensures.over s.1) _ _ (c.keep_distance.ensures.keeps _ z.to stands z.taken) c.begin-distance.ensures.left (let a = p.reads in let b = q.reads in omega arith) (let a = p.resets in let b = q.resets in omega arith) (sym c.is_partial.ensures ∙ c.if-is_partial.true)

pub returns-else-is_partial-clause-answers : goal.returns-else-is_partial-clause-answers
returns-else-is_partial-clause-answers g c =
    let s = (rw c.if-found.false at c.in-Ok.ensures.seeks).is in
    let z = stopped_before c.in_default.ensures.over s.0 in
    let p = c.pass_items.ensures.passes in
    let q = c.seek.ensures.passes in
    let k = g.Input.StreamOnce.failures c.seek.new.input in
    until_range_ends _ _ g.met.Input.RangeStream.filled _ _ _ _ _ _ (rw c.is_first.ensures at c.begin-distance.ensures.begun) _ k z (stops_at_none c.in_default.ensures.over s.1) _ c.no_token.ensures.refuses (sym c.is_partial.ensures ∙ c.if-is_partial.false) refl c.begin-distance.ensures.left (λ a. refl)

pub returns-then-found-clause-answers : goal.returns-then-found-clause-answers
returns-then-found-clause-answers g c =
    let s = (rw c.if-found.true at c.in-Ok.ensures.seeks).is in
    let z = stopped_before c.in_default.ensures.over s.0 in
    let p = c.pass_items.ensures.passes in
    let q = c.seek.ensures.passes in
    let k = g.Input.StreamOnce.failures c.seek.new.input in
    let stands = g.met.Input.ResetStream.lasts _ _ _ _ c.seek.ensures.passes.marks (g.met.Input.ResetStream.lasts _ _ _ _ c.pass_items.ensures.passes.marks c.checkpoint-start.ensures.stands) in
    until_hands _ _ g.met.Input.RangeStream.filled _ _ _ _ _ _ (rw c.is_first.ensures at c.begin-distance.ensures.begun) _ k z s.1 _ (c.hand_out.ensures.hands _ z.to stands z.taken) c.begin-distance.ensures.left (let a = p.reads in let b = q.reads in omega arith) (let a = p.resets in let b = q.resets in omega arith)

pub returns-in-Err-seek-clause-answers : goal.returns-in-Err-seek-clause-answers
returns-in-Err-seek-clause-answers g c =
    let s = c.in-Err-seek.ensures.seeks.is in
    let u = c.in_default.ensures.over.is in
    let p = c.pass_items.ensures.passes in
    breaks _ _ _ _ _ _ _ (rw c.is_first.ensures at c.begin-distance.ensures.begun) _ _ (g.Input.StreamOnce.failures c.pass_items.new.input) c.new_error.ensures.kind s.0 p.reads p.resets (moves_more _ _ _ _ _ u.2.taken s.1) c.begin-distance.ensures.left

pub returns-in-Err-clause-refuses : goal.returns-in-Err-clause-refuses
returns-in-Err-clause-refuses g c =
    let observers = g.Input.Error.ParseError.observers in
    let size = g.Input.RangeStream.size in
    let spells = g.Input.RangeStream.spells in
    let wanted = equal_range g.Input.Range.Range.count g.Input.Range.PartialEq.eq c.args.self.now.wanted in
    let own = RefusesMissing observers size spells wanted in
    let d = c.begin-distance.result in
    let old = g.Input.StreamOnce.view c.args.input.now in
    let new = g.Input.StreamOnce.view c.pass_items.new.input in
    let said = reasons_unpassed observers (RefusesKept observers size own d old new) old.position _ _ size _ old new _ _ d (kept_inside observers size own d old new) _ _ c.in-Err.ensures.over c.not_passed.ensures.answers (rw c.position-position.ensures at c.not_passed.ensures.says) in
    kept_reasons size (until_range size spells wanted) AddsNothing (RefusesKept observers size own) d (g.M.ParseMode.first c.args.mode) c.args.state.now (rw c.is_first.ensures at c.begin-distance.ensures.begun) old new said

pub returns-then-found-clause-refuses : goal.returns-then-found-clause-refuses
returns-then-found-clause-refuses g c =
    let s = (rw c.if-found.true at c.in-Ok.ensures.seeks).is in
    let z = stopped_before c.in_default.ensures.over s.0 in
    let stands = g.met.Input.ResetStream.lasts _ _ _ _ c.seek.ensures.passes.marks (g.met.Input.ResetStream.lasts _ _ _ _ c.pass_items.ensures.passes.marks c.checkpoint-start.ensures.stands) in
    reasons_handed _ _ (c.hand_out.ensures.hands _ z.to stands z.taken)

pub returns-then-is_partial-clause-refuses : goal.returns-then-is_partial-clause-refuses
returns-then-is_partial-clause-refuses g c =
    let s = (rw c.if-found.false at c.in-Ok.ensures.seeks).is in
    let z = stopped_before c.in_default.ensures.over s.0 in
    let stands = g.met.Input.ResetStream.lasts _ _ _ _ c.seek.ensures.passes.marks (g.met.Input.ResetStream.lasts _ _ _ _ c.pass_items.ensures.passes.marks c.checkpoint-start.ensures.stands) in
    reasons_keeping _ _ (c.keep_distance.ensures.keeps _ z.to stands z.taken) (sym (takes_open _ z.to _ _ z.taken) ∙ sym c.is_partial.ensures ∙ c.if-is_partial.true)

pub returns-else-is_partial-clause-refuses : goal.returns-else-is_partial-clause-refuses
returns-else-is_partial-clause-refuses g c =
    let s = (rw c.if-found.false at c.in-Ok.ensures.seeks).is in
    let z = stopped_before c.in_default.ensures.over s.0 in
    let k = g.Input.StreamOnce.failures c.seek.new.input in
    let m = stops_at_none c.in_default.ensures.over s.1 in
    let observers = g.Input.Error.ParseError.observers in
    let size = g.Input.RangeStream.size in
    let spells = g.Input.RangeStream.spells in
    let wanted = equal_range g.Input.Range.Range.count g.Input.Range.PartialEq.eq c.args.self.now.wanted in
    let own = RefusesMissing observers size spells wanted in
    let d = c.begin-distance.result in
    let old = g.Input.StreamOnce.view c.args.input.now in
    let new = g.Input.StreamOnce.view c.seek.new.input in
    let over : old.is_open ≡ false = sym (takes_open _ z.to _ _ z.taken) ∙ sym c.is_partial.ensures ∙ c.if-is_partial.false in
    let said = reasons_ended observers (RefusesKept observers size own d old new) old.position _ _ c.no_token.ensures.refuses (rw c.position-position.ensures at c.no_token.ensures.says)
    (λ e h. kept_own observers size own d old new false e (record { peeked = refl; missing = m; ended = over; says = h })) in
    kept_reasons size (until_range size spells wanted) AddsNothing (RefusesKept observers size own) d (g.M.ParseMode.first c.args.mode) c.args.state.now (rw c.is_first.ensures at c.begin-distance.ensures.begun) old new said

pub returns-in-Err-seek-clause-refuses : goal.returns-in-Err-seek-clause-refuses
returns-in-Err-seek-clause-refuses g c = reasons_broke _ _ _ _ _ _ _ c.new_error.ensures.kind c.in-Err-seek.ensures.seeks.is.0
