use Rattle.std.proofs.Common.{◌≡◌, false, ap, drop, sym, refl, ◌∙◌, arith}
use Rattle.std.proofs.lemmas.Bool.{false≢true}
use Rattle.combine_base.specs.Error.Errors.{AddsNothing}
use Rattle.combine_base.specs.Stream.View.{View, advanced}
use Rattle.combine_base.proofs.Parsers.Progress.{moves_more, takes_open}
use Rattle.combine_base.proofs.Errors.CallReasons.{reasons_fault, reasons_ok, reasons_peek_ok}
use Rattle.combine_base.specs.declared.stream.Kind.TheVariants as kinds
use Rattle.combine_range.specs.Range.Beginnings.{Split, beginning}
use Rattle.combine_range.proofs.KeptDistance.{unpassed, breaks, broke_read}
use Rattle.combine_range.specs.RangeReasons.{RefusesKept, refuses_beginning}
use Rattle.combine_range.proofs.RangeReasons.{kept_inside, kept_own, kept_reasons, reached_none, reasons_empty, reasons_handed, reasons_keeping, reasons_unpassed}
use Rattle.combine_range.proofs.BeginningCalls.{walked, direct, some_before, beginning_hands, beginning_keeps, beginning_commits, beginning_peeks, beginning_refuses, some_walked, none_taken}
use Rattle.combine_range.proofs.range.beginnings.take_beginning.Goals as goal

pub returns-in-Err-clause-answers : goal.returns-in-Err-clause-answers
returns-in-Err-clause-answers g c =
    unpassed _ _ _ _ _ _ _ c.begin-distance.ensures.begun _ _ _ c.in-Err.ensures.over c.not_passed.ensures.answers c.begin-distance.ensures.left (λ i. (Split i, refl))

pub returns-then-is_undecided_end-clause-answers : goal.returns-then-is_undecided_end-clause-answers
returns-then-is_undecided_end-clause-answers g c =
    let z = walked c.in_default.ensures.over c.in-Ok.ensures.read in
    let stands = g.met.Input.ResetStream.lasts _ _ _ _ c.uncons_while.ensures.passes.marks (g.met.Input.ResetStream.lasts _ _ _ _ c.pass_items.ensures.passes.marks c.checkpoint-start.ensures.stands) in
    let o = c.is_undecided_end.ensures.0 c.if-is_undecided_end.true in
    let p = c.pass_items.ensures.passes in
    let q = c.uncons_while.ensures.passes in
    beginning_keeps _ _ g.met.Input.RangeStream.filled _ _ _ _ _ _ _ c.begin-distance.ensures.begun _ (g.Input.StreamOnce.failures c.uncons_while.new.self) z _ _ (c.keep_distance.ensures.keeps _ z.count stands z.taken) c.begin-distance.ensures.left (let a = p.reads in let b = q.reads in omega arith) (let a = p.resets in let b = q.resets in omega arith) o.0 o.1

pub returns-then-distance-gt0-clause-answers : goal.returns-then-distance-gt0-clause-answers
returns-then-distance-gt0-clause-answers g c =
    let z = walked c.in_default.ensures.over c.in-Ok.ensures.read in
    let stands = g.met.Input.ResetStream.lasts _ _ _ _ c.uncons_while.ensures.passes.marks (g.met.Input.ResetStream.lasts _ _ _ _ c.pass_items.ensures.passes.marks c.checkpoint-start.ensures.stands) in
    let b = some_before _ _ _ _ z.reaches.place (omega arith) in
    let i = z.reaches.count in
    let p = c.pass_items.ensures.passes in
    let q = c.uncons_while.ensures.passes in
    beginning_hands _ _ g.met.Input.RangeStream.filled _ _ _ _ _ _ _ c.begin-distance.ensures.begun _ (g.Input.StreamOnce.failures c.uncons_while.new.self) z (λ o n. false≢true (sym c.if-is_undecided_end.false ∙ c.is_undecided_end.ensures.1 (o, n))) _ (omega arith) (c.hand_out.ensures.hands _ z.count stands z.taken) c.begin-distance.ensures.left (let a = p.reads in let b = q.reads in omega arith) (let a = p.resets in let b = q.resets in omega arith)

pub returns-then-len-gt0-clause-answers : goal.returns-then-len-gt0-clause-answers
returns-then-len-gt0-clause-answers g c =
    let z = walked c.in_default.ensures.over c.in-Ok.ensures.read in
    let s = direct c.in_default.ensures.over c.in-Ok.ensures.read g.met.Input.RangeStream.filled (omega arith) in
    let l = some_walked z _ s g.met.Input.RangeStream.measured (let a = c.len.ensures in omega arith) in
    beginning_commits _ _ g.met.Input.RangeStream.filled _ _ _ _ _ _ _ c.begin-distance.ensures.begun _ _ z (λ o n. false≢true (sym c.if-is_undecided_end.false ∙ c.is_undecided_end.ensures.1 (o, n))) _ s l z.taken c.begin-distance.ensures.left z.failures

pub returns-then-some-clause-answers : goal.returns-then-some-clause-answers
returns-then-some-clause-answers g c =
    let z = walked c.in_default.ensures.over c.in-Ok.ensures.read in
    let s = direct c.in_default.ensures.over c.in-Ok.ensures.read g.met.Input.RangeStream.filled (omega arith) in
    let l = none_taken z _ s g.met.Input.RangeStream.measured g.met.Input.RangeStream.filled (let a = c.len.ensures in omega arith) in
    beginning_refuses _ _ g.met.Input.RangeStream.filled _ _ _ _ _ _ _ c.begin-distance.ensures.begun _ _ z (λ o n. false≢true (sym c.if-is_undecided_end.false ∙ c.is_undecided_end.ensures.1 (o, n))) _ c.refused_here.ensures.answers l c.if-some.true z.taken c.begin-distance.ensures.left z.failures

pub returns-else-some-clause-answers : goal.returns-else-some-clause-answers
returns-else-some-clause-answers g c =
    let z = walked c.in_default.ensures.over c.in-Ok.ensures.read in
    let s = direct c.in_default.ensures.over c.in-Ok.ensures.read g.met.Input.RangeStream.filled (omega arith) in
    let l = none_taken z _ s g.met.Input.RangeStream.measured g.met.Input.RangeStream.filled (let a = c.len.ensures in omega arith) in
    beginning_peeks _ _ g.met.Input.RangeStream.filled _ _ _ _ _ _ _ c.begin-distance.ensures.begun _ _ z (λ o n. false≢true (sym c.if-is_undecided_end.false ∙ c.is_undecided_end.ensures.1 (o, n))) _ s l c.if-some.false z.taken c.begin-distance.ensures.left z.failures

pub returns-in-Err-uncons_while-clause-answers : goal.returns-in-Err-uncons_while-clause-answers
returns-in-Err-uncons_while-clause-answers g c =
    let p = c.pass_items.ensures.passes in
    let u = c.in_default.ensures.over.is in
    let x = c.in-Err-uncons_while.ensures.read.is in
    breaks _ _ _ _ _ _ _ c.begin-distance.ensures.begun _ _ (g.Input.StreamOnce.failures c.pass_items.new.input) c.new_error.ensures.kind (broke_read _ (g.Input.StreamOnce.failures c.pass_items.new.input) _ x.0 x.1.rose) p.reads p.resets (moves_more _ _ _ _ _ u.2.taken (record { count = x.1.count; taken = x.1.taken })) c.begin-distance.ensures.left

pub returns-in-Err-clause-refuses : goal.returns-in-Err-clause-refuses
returns-in-Err-clause-refuses g c =
    let s = g.Input.Error.ParseError.observers in
    let size = g.Input.RangeStream.size in
    let answers = g.F.Function.returns c.args.test.now in
    let own = refuses_beginning s answers c.args.some in
    let d = c.begin-distance.result in
    let old = g.Input.StreamOnce.view c.args.input.now in
    let new = g.Input.StreamOnce.view c.pass_items.new.input in
    let said = reasons_unpassed s (RefusesKept s size own d old new) old.position _ _ size _ old new _ _ d (kept_inside s size own d old new) _ _ c.in-Err.ensures.over c.not_passed.ensures.answers (rw c.position-position.ensures at c.not_passed.ensures.says) in
    kept_reasons size (beginning size g.Input.RangeStream.spells answers c.args.some) AddsNothing (RefusesKept s size own) d c.args.first c.args.state.now c.begin-distance.ensures.begun old new said

pub returns-then-is_undecided_end-clause-refuses : goal.returns-then-is_undecided_end-clause-refuses
returns-then-is_undecided_end-clause-refuses g c =
    let z = walked c.in_default.ensures.over c.in-Ok.ensures.read in
    let stands = g.met.Input.ResetStream.lasts _ _ _ _ c.uncons_while.ensures.passes.marks (g.met.Input.ResetStream.lasts _ _ _ _ c.pass_items.ensures.passes.marks c.checkpoint-start.ensures.stands) in
    let o = c.is_undecided_end.ensures.0 c.if-is_undecided_end.true in
    reasons_keeping _ _ (c.keep_distance.ensures.keeps _ z.count stands z.taken) (sym (takes_open _ z.count _ _ z.taken) ∙ o.0)

pub returns-then-distance-gt0-clause-refuses : goal.returns-then-distance-gt0-clause-refuses
returns-then-distance-gt0-clause-refuses g c =
    let z = walked c.in_default.ensures.over c.in-Ok.ensures.read in
    let stands = g.met.Input.ResetStream.lasts _ _ _ _ c.uncons_while.ensures.passes.marks (g.met.Input.ResetStream.lasts _ _ _ _ c.pass_items.ensures.passes.marks c.checkpoint-start.ensures.stands) in
    reasons_handed _ _ (c.hand_out.ensures.hands _ z.count stands z.taken)

pub returns-then-len-gt0-clause-refuses : goal.returns-then-len-gt0-clause-refuses
returns-then-len-gt0-clause-refuses g c = reasons_ok _ _ _ _

pub returns-then-some-clause-refuses : goal.returns-then-some-clause-refuses
returns-then-some-clause-refuses g c =
    let z = walked c.in_default.ensures.over c.in-Ok.ensures.read in
    let d = direct c.in_default.ensures.over c.in-Ok.ensures.read g.met.Input.RangeStream.filled (omega arith) in
    let l = none_taken z _ d g.met.Input.RangeStream.measured g.met.Input.RangeStream.filled (let a = c.len.ensures in omega arith) in
    let s = g.Input.Error.ParseError.observers in
    let size = g.Input.RangeStream.size in
    let answers = g.F.Function.returns c.args.test.now in
    let own = refuses_beginning s answers c.args.some in
    let n = c.begin-distance.result in
    let old = g.Input.StreamOnce.view c.args.input.now in
    let new = g.Input.StreamOnce.view c.uncons_while.new.self in
    let same = ap (λ (v : View _ _). v.unread) z.taken.rest ∙ ap (λ n. drop n old.unread) l in
    let back : new ≡ old = z.taken.rest ∙ ap (λ n. advanced g.Input.StreamOnce.step n old) l in
    let says = RefusesKept s size own n old new in
    let said = reasons_empty s says old.position _ old.unread _ c.refused_here.ensures.answers (rw (c.position-position.ensures, same) at c.refused_here.ensures.says)
    (λ e h. kept_own s size own n old new false e (rw c.if-some.true (record { peeked = refl; back = back; first = omega arith; longest = reached_none _ _ _ _ _ z.reaches l; says = h }))) in
    kept_reasons size (beginning size g.Input.RangeStream.spells answers c.args.some) AddsNothing (RefusesKept s size own) n c.args.first c.args.state.now c.begin-distance.ensures.begun old new said

pub returns-else-some-clause-refuses : goal.returns-else-some-clause-refuses
returns-else-some-clause-refuses g c = reasons_peek_ok _ _ _ _

pub returns-in-Err-uncons_while-clause-refuses : goal.returns-in-Err-uncons_while-clause-refuses
returns-in-Err-uncons_while-clause-refuses g c = reasons_fault _ _ _ _ kinds.Read (c.new_error.ensures.kind ∙ c.in-Err-uncons_while.ensures.read.is.0) tt
