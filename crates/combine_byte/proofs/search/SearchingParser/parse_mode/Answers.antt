use Rattle.std.proofs.Common.{sym, subst, refl, ◌≡◌, ◌∙◌, ◌+◌, arith}
use Rattle.std.proofs.lemmas.Bool.{false≢true}
use Rattle.combine_base.specs.Error.Errors.{AddsNothing}
use Rattle.combine_base.specs.Parser.Answer.{CallRecord, World, world}
use Rattle.combine_base.specs.Stream.View.{Takes}
use Rattle.combine_base.proofs.Parsers.Progress.{moves_more, takes_more, takes_open}
use Rattle.combine_range.specs.declared.distance.Distance.{Distance}
use Rattle.combine_range.proofs.KeptDistance.{breaks}
use Rattle.combine_base.proofs.Errors.CallReasons.{reasons_ok, reasons_peek_ok}
use Rattle.combine_range.proofs.RangeReasons.{kept_reasons, reasons_broke, reasons_handed, reasons_keeping, reasons_none, reasons_unpassed}
use Rattle.combine_byte.specs.Search.SearchReasons.{RefusesSearch}
use Rattle.combine_byte.specs.Search.Searches.{Split, searching}
use Rattle.combine_byte.proofs.SearchCalls.{found_commits, found_hands, found_none, found_peeks, found_says, found_waits, missing_keeps, missing_refuses, missing_says}
use Rattle.combine_byte.proofs.SearchReasons.{reasons_absent}
use Rattle.combine_byte.proofs.search.SearchingParser.parse_mode.Goals as goal

pub returns-then-distance-gt0-clause-answers : goal.returns-then-distance-gt0-clause-answers
returns-then-distance-gt0-clause-answers g c =
    let e = rw c.is_first.ensures at c.begin-distance.ensures.begun in
    let o = c.in_default.ensures.over in
    let u = c.in-Ok.ensures.read in
    let z = c.in-Found.ensures (g.Input.StreamOnce.view c.pass_items.new.input).unread c.range-unread.ensures in
    let p = c.pass_items.ensures.passes in
    let q = c.uncons_range.ensures.passes in
    let stands = g.met.Input.ResetStream.lasts _ _ _ _ q.marks (g.met.Input.ResetStream.lasts _ _ _ _ p.marks c.checkpoint-start.ensures.stands) in
    found_hands _ _ g.met.Input.RangeStream.filled _ _ _ _ _ _ e _ _ _ _ o _ z _ _ _ u _ (λ t. c.hand_out.ensures.hands _ (o.is.0 + u.is.0) stands t) c.begin-distance.ensures.left (let a = p.reads in let b = q.reads in omega arith) (let a = p.resets in let b = q.resets in omega arith)

pub returns-then-items-gt0-clause-answers : goal.returns-then-items-gt0-clause-answers
returns-then-items-gt0-clause-answers g c =
    let e = rw c.is_first.ensures at c.begin-distance.ensures.begun in
    let z = c.in-Found.ensures (g.Input.StreamOnce.view c.pass_items.new.input).unread c.range-unread.ensures in
    found_commits _ _ g.met.Input.RangeStream.filled _ _ _ _ _ _ e _ _ _ _ c.in_default.ensures.over _ z _ _ _ c.in-Ok.ensures.read c.if-distance-gt0.false c.if-items-gt0.true refl refl c.begin-distance.ensures.left

pub returns-else-items-gt0-clause-answers : goal.returns-else-items-gt0-clause-answers
returns-else-items-gt0-clause-answers g c =
    let e = rw c.is_first.ensures at c.begin-distance.ensures.begun in
    let z = c.in-Found.ensures (g.Input.StreamOnce.view c.pass_items.new.input).unread c.range-unread.ensures in
    found_peeks _ _ g.met.Input.RangeStream.filled _ _ _ _ _ _ e _ _ _ _ c.in_default.ensures.over _ z _ _ _ c.in-Ok.ensures.read c.if-distance-gt0.false c.if-items-gt0.false refl refl c.begin-distance.ensures.left

pub returns-then-may_grow-clause-answers : goal.returns-then-may_grow-clause-answers
returns-then-may_grow-clause-answers g c =
    let e = rw c.is_first.ensures at c.begin-distance.ensures.begun in
    let z = c.in-Found.ensures (g.Input.StreamOnce.view c.pass_items.new.input).unread c.range-unread.ensures in
    let o = c.in_default.ensures.over in
    let p = c.pass_items.ensures.passes in
    let q = c.uncons_range.ensures.passes in
    let stands = g.met.Input.ResetStream.lasts _ _ _ _ q.marks (g.met.Input.ResetStream.lasts _ _ _ _ p.marks c.checkpoint-start.ensures.stands) in
    let m = c.may_grow.ensures.0 c.if-may_grow.true in
    found_waits _ _ g.met.Input.RangeStream.filled _ _ _ _ _ _ e _ _ _ _ o _ z _ _ _ c.in-Err-uncons_range.ensures.read _ _ m.0 m.1 (λ t. c.keep_distance.ensures.keeps _ o.is.0 stands t) c.begin-distance.ensures.left (let a = p.reads in let b = q.reads in omega arith) (let a = p.resets in let b = q.resets in omega arith)

pub returns-else-may_grow-clause-answers : goal.returns-else-may_grow-clause-answers
returns-else-may_grow-clause-answers g c =
    let e = rw c.is_first.ensures at c.begin-distance.ensures.begun in
    let z = c.in-Found.ensures (g.Input.StreamOnce.view c.pass_items.new.input).unread c.range-unread.ensures in
    found_none _ _ g.met.Input.RangeStream.filled _ _ _ _ _ _ e _ _ _ _ c.in_default.ensures.over _ z _ _ _ c.in-Err-uncons_range.ensures.read _ (λ k o. false≢true (sym c.if-may_grow.false ∙ c.may_grow.ensures.1 (k, o))) refl refl c.begin-distance.ensures.left c.no_range.ensures.answers c.pass_items.ensures.passes.reads

pub returns-then-not-is_partial-clause-answers : goal.returns-then-not-is_partial-clause-answers
returns-then-not-is_partial-clause-answers g c =
    let e = rw c.is_first.ensures at c.begin-distance.ensures.begun in
    let z = c.in-NotFound.ensures (g.Input.StreamOnce.view c.pass_items.new.input).unread c.range-unread.ensures in
    let m = g.met.Input.RangeStream.measured _ _ c.range-unread.ensures in
    missing_refuses _ _ g.met.Input.RangeStream.filled _ _ _ _ _ _ e _ _ _ _ c.in_default.ensures.over _ z c.is_nothing.result ((λ i. let a = c.is_nothing.ensures.0 i in (a.0, sym m ∙ a.1)), (λ a. c.is_nothing.ensures.1 (a.0, m ∙ a.1))) (sym c.is_partial.ensures ∙ c.if-not-is_partial.true) refl refl c.begin-distance.ensures.left _ c.not_found.ensures.refuses

pub returns-in-Ok-pass_up_to-clause-answers : goal.returns-in-Ok-pass_up_to-clause-answers
returns-in-Ok-pass_up_to-clause-answers g c =
    let e = rw c.is_first.ensures at c.begin-distance.ensures.begun in
    let z = c.in-NotFound.ensures (g.Input.StreamOnce.view c.pass_items.new.input).unread c.range-unread.ensures in
    let o = c.in_default.ensures.over in
    let u = c.in-Ok-pass_up_to.ensures.over.is in
    let p = c.pass_items.ensures.passes in
    let q = c.pass_up_to.ensures.passes in
    let stands = g.met.Input.ResetStream.lasts _ _ _ _ q.marks (g.met.Input.ResetStream.lasts _ _ _ _ p.marks c.checkpoint-start.ensures.stands) in
    missing_keeps _ _ g.met.Input.RangeStream.filled _ _ _ _ _ _ e _ _ _ _ o _ z _ _ u _ _ (λ t. c.keep_distance-in-Ok-pass_up_to.ensures.keeps _ (o.is.0 + u.count) stands t) c.begin-distance.ensures.left (let a = p.reads in let b = q.reads in omega arith) (let a = p.resets in let b = q.resets in omega arith) (sym c.is_partial.ensures ∙ c.if-not-is_partial.false)

pub returns-in-Err-pass_up_to-clause-answers : goal.returns-in-Err-pass_up_to-clause-answers
returns-in-Err-pass_up_to-clause-answers g c =
    let s = c.in-Err-pass_up_to.ensures.over.is in
    let u = c.in_default.ensures.over.is in
    let p = c.pass_items.ensures.passes in
    breaks _ _ _ _ _ _ _ (rw c.is_first.ensures at c.begin-distance.ensures.begun) _ _ (g.Input.StreamOnce.failures c.pass_items.new.input) c.new_error.ensures.kind s.0 p.reads p.resets (moves_more _ _ _ _ _ u.2.taken s.1) c.begin-distance.ensures.left

pub returns-in-Err-clause-refuses : goal.returns-in-Err-clause-refuses
returns-in-Err-clause-refuses g c =
    let e = rw c.is_first.ensures at c.begin-distance.ensures.begun in
    let observers = g.Input.Error.ParseError.observers in
    let size = g.Input.RangeStream.size in
    let spells = g.Input.RangeStream.spells in
    let step = g.Input.StreamOnce.step in
    let finds = g.S.Searcher.search c.args.self.now.searcher in
    let says = RefusesSearch observers step size spells finds in
    let d = c.begin-distance.result in
    let old = g.Input.StreamOnce.view c.args.input.now in
    let new = g.Input.StreamOnce.view c.pass_items.new.input in
    let said = reasons_unpassed observers (says d old new) old.position _ _ size _ old new _ _ d (λ q i x n. record { unfit = Split i refl; leaves = q; says = n }) _ _ c.in-Err.ensures.over c.not_passed.ensures.answers (rw c.position-position.ensures at c.not_passed.ensures.says) in
    kept_reasons size (searching size spells finds) AddsNothing says d (g.M.ParseMode.first c.args.mode) c.args.state.now e old new said

pub returns-then-distance-gt0-clause-refuses : goal.returns-then-distance-gt0-clause-refuses
returns-then-distance-gt0-clause-refuses g c =
    let o = c.in_default.ensures.over in
    let u = c.in-Ok.ensures.read in
    let stands = g.met.Input.ResetStream.lasts _ _ _ _ c.uncons_range.ensures.passes.marks (g.met.Input.ResetStream.lasts _ _ _ _ c.pass_items.ensures.passes.marks c.checkpoint-start.ensures.stands) in
    reasons_handed _ _ (c.hand_out.ensures.hands _ (o.is.0 + u.is.0) stands (takes_more _ _ _ _ _ _ o.is.2.taken u.is.2.taken))

pub returns-then-items-gt0-clause-refuses : goal.returns-then-items-gt0-clause-refuses
returns-then-items-gt0-clause-refuses g c = reasons_ok _ _ _ _

pub returns-else-items-gt0-clause-refuses : goal.returns-else-items-gt0-clause-refuses
returns-else-items-gt0-clause-refuses g c = reasons_peek_ok _ _ _ _

pub returns-then-may_grow-clause-refuses : goal.returns-then-may_grow-clause-refuses
returns-then-may_grow-clause-refuses g c =
    let o = c.in_default.ensures.over in
    let stands = g.met.Input.ResetStream.lasts _ _ _ _ c.uncons_range.ensures.passes.marks (g.met.Input.ResetStream.lasts _ _ _ _ c.pass_items.ensures.passes.marks c.checkpoint-start.ensures.stands) in
    let m = c.may_grow.ensures.0 c.if-may_grow.true in
    let u = (rw m.0 at c.in-Err-uncons_range.ensures.read).is in
    let t = subst (Takes g.Input.StreamOnce.step o.is.0 (g.Input.StreamOnce.view c.args.input.now)) (sym u.1.same) o.is.2.taken in
    reasons_keeping _ _ (c.keep_distance.ensures.keeps _ o.is.0 stands t) (sym (takes_open _ o.is.0 _ _ t) ∙ m.1)

pub returns-else-may_grow-clause-refuses : goal.returns-else-may_grow-clause-refuses
returns-else-may_grow-clause-refuses g c =
    let e = rw c.is_first.ensures at c.begin-distance.ensures.begun in
    let z = c.in-Found.ensures (g.Input.StreamOnce.view c.pass_items.new.input).unread c.range-unread.ensures in
    let observers = g.Input.Error.ParseError.observers in
    let size = g.Input.RangeStream.size in
    let spells = g.Input.RangeStream.spells in
    let step = g.Input.StreamOnce.step in
    let finds = g.S.Searcher.search c.args.self.now.searcher in
    let says = RefusesSearch observers step size spells finds in
    let d = c.begin-distance.result in
    let old = g.Input.StreamOnce.view c.args.input.now in
    let mid = g.Input.StreamOnce.view c.pass_items.new.input in
    let new = g.Input.StreamOnce.view c.uncons_range.new.self in
    let run : CallRecord _ _ Distance = record { first = g.M.ParseMode.first c.args.mode; state = c.args.state.now; left = c.begin-distance.new.state; old = old; new = mid; before = g.Input.StreamOnce.failures c.args.input.now; after = g.Input.StreamOnce.failures c.pass_items.new.input } in
    let around : World _ _ Distance _ = world step observers g.Input.StreamOnce.counts_failures (λ s. s.items ≡ 0) in
    let said = reasons_none observers (says d old new) old.position _ _ size _ mid new _ _ _
    (λ q u x h. found_says around size g.met.Input.RangeStream.filled spells finds AddsNothing says run d e _ _ _ _ c.in_default.ensures.over _ z observers new q u x h)
    _ _ c.in-Err-uncons_range.ensures.read c.no_range.ensures.answers (rw c.position-position.ensures at c.no_range.ensures.says) in
    kept_reasons size (searching size spells finds) AddsNothing says d (g.M.ParseMode.first c.args.mode) c.args.state.now e old new said

pub returns-then-not-is_partial-clause-refuses : goal.returns-then-not-is_partial-clause-refuses
returns-then-not-is_partial-clause-refuses g c =
    let e = rw c.is_first.ensures at c.begin-distance.ensures.begun in
    let z = c.in-NotFound.ensures (g.Input.StreamOnce.view c.pass_items.new.input).unread c.range-unread.ensures in
    let observers = g.Input.Error.ParseError.observers in
    let size = g.Input.RangeStream.size in
    let spells = g.Input.RangeStream.spells in
    let step = g.Input.StreamOnce.step in
    let finds = g.S.Searcher.search c.args.self.now.searcher in
    let says = RefusesSearch observers step size spells finds in
    let d = c.begin-distance.result in
    let old = g.Input.StreamOnce.view c.args.input.now in
    let mid = g.Input.StreamOnce.view c.pass_items.new.input in
    let new = mid in
    let m = g.met.Input.RangeStream.measured _ _ c.range-unread.ensures in
    let run : CallRecord _ _ Distance = record { first = g.M.ParseMode.first c.args.mode; state = c.args.state.now; left = c.begin-distance.new.state; old = old; new = mid; before = g.Input.StreamOnce.failures c.args.input.now; after = g.Input.StreamOnce.failures c.pass_items.new.input } in
    let around : World _ _ Distance _ = world step observers g.Input.StreamOnce.counts_failures (λ s. s.items ≡ 0) in
    let said = reasons_absent observers (says d old new) old.position _ _
    (λ k x b h. missing_says around size g.met.Input.RangeStream.filled spells finds AddsNothing says run d e _ _ _ _ c.in_default.ensures.over _ z c.is_nothing.result ((λ i. let a = c.is_nothing.ensures.0 i in (a.0, sym m ∙ a.1)), (λ a. c.is_nothing.ensures.1 (a.0, m ∙ a.1))) (sym c.is_partial.ensures ∙ c.if-not-is_partial.true) refl refl c.begin-distance.ensures.left observers k x b h)
    _ c.not_found.ensures.refuses (rw c.position-position.ensures at c.not_found.ensures.says) in
    kept_reasons size (searching size spells finds) AddsNothing says d (g.M.ParseMode.first c.args.mode) c.args.state.now e old new said

pub returns-in-Ok-pass_up_to-clause-refuses : goal.returns-in-Ok-pass_up_to-clause-refuses
returns-in-Ok-pass_up_to-clause-refuses g c =
    let o = c.in_default.ensures.over in
    let u = c.in-Ok-pass_up_to.ensures.over.is in
    let stands = g.met.Input.ResetStream.lasts _ _ _ _ c.pass_up_to.ensures.passes.marks (g.met.Input.ResetStream.lasts _ _ _ _ c.pass_items.ensures.passes.marks c.checkpoint-start.ensures.stands) in
    let t = takes_more _ _ _ _ _ _ o.is.2.taken u.taken in
    reasons_keeping _ _ (c.keep_distance-in-Ok-pass_up_to.ensures.keeps _ (o.is.0 + u.count) stands t) (sym (takes_open _ o.is.0 _ _ o.is.2.taken) ∙ sym c.is_partial.ensures ∙ c.if-not-is_partial.false)

pub returns-in-Err-pass_up_to-clause-refuses : goal.returns-in-Err-pass_up_to-clause-refuses
returns-in-Err-pass_up_to-clause-refuses g c = reasons_broke _ _ _ _ _ _ _ c.new_error.ensures.kind c.in-Err-pass_up_to.ensures.over.is.0
