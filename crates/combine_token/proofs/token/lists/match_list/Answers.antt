use Rattle.std.proofs.Common.{rules, arith, refl, sym, ◌∙◌, lt-ltb, le-ltb}
use Rattle.std.proofs.lemmas.Bool.{false≢true}
use Rattle.combine_base.proofs.Parsers.SameMeanings.{passes_none, passes_more}
use Rattle.combine_token.specs.Token.Lists.IteratedLists.{iterated_ends_once}
use Rattle.combine_token.proofs.Lists.IteratorCalls.{iterator_after, reached_more, stands_there, list_ends, list_ends_early}
use Rattle.combine_token.proofs.Lists.Matches.{arrived_first, arrived_next}
use Rattle.combine_token.proofs.Lists.ListAnswers.{match_accepted, match_refused, match_put_back, match_unread, match_asks, mismatch_told}
use Rattle.combine_base.proofs.Errors.CallReasons.{reasons_fault, reasons_need}
use Rattle.combine_token.proofs.Lists.ListReasons.{accepted_reasons, mismatch_reasons, put_back_reasons, unread_reasons}
use Rattle.combine_base.specs.declared.stream.Kind.TheVariants as kinds
use Rattle.combine_token.proofs.token.lists.match_list.Goals as goal

pub fits-requires : goal.fits-requires
fits-requires g c = c.requires.callable _ _ _ (stands_there c.items.invariant.reached c.in-Some.ensures.steps)

pub items-init : goal.items-init
items-init g c =
    let i = c.into_iter-item-iterator.ensures.into_iter_gives in
    let z = c.in-Ok-pass_list_items.ensures.gave in
    let x = c.requires.list.ready _ _ c.in-Ok.ensures.cases c.into_iter-items.ensures.into_iter_gives in
    let y = c.in-Ok-pass_list_items.ensures.left in
    record {
      passes = passes_none _ _;
      cleared = c.begin-matched.ensures.left;
      reached = rw i (iterator_after _ c.in-Ok.ensures.cases c.into_iter-items.ensures.into_iter_gives z);
      few = rw i (omega (arith, x.2, y.2));
      arrived = arrived_first _ _ _ _ _ _ _ _ _ _ _ _ _ (rw c.is_first.ensures at c.begin-matched.ensures.matched);
    }

pub returns-in-Err-pass_list_items-clause-answers : goal.returns-in-Err-pass_list_items-clause-answers
returns-in-Err-pass_list_items-clause-answers g c =
    let z = c.in-Err-pass_list_items.ensures.gave in
    let a = arrived_first _ _ _ _ _ _ _ _ _ _ _ _ _ (rw c.is_first.ensures at c.begin-matched.ensures.matched) in
    match_accepted _ _ _ _ _ _ _ _ _ _ _ _ a c.begin-matched.ensures.left _ (omega (arith, z.0)) (list_ends_early _ c.in-Ok.ensures.cases c.into_iter-items.ensures.into_iter_gives z.1) refl refl _ (λ l. l.1) _ refl _ c.accepted.ensures

pub returns-then-matched-gt0-clause-passes : goal.returns-then-matched-gt0-clause-passes
returns-then-matched-gt0-clause-passes g c = passes_more c.items.invariant.passes c.uncons.ensures.passes

pub returns-then-matched-gt0-clause-answers : goal.returns-then-matched-gt0-clause-answers
returns-then-matched-gt0-clause-answers g c =
    let i = c.items.invariant in
    let there = stands_there i.reached c.in-Some.ensures.steps in
    let n = c.if-not-fits.ensures in
    match_refused _ _ _ _ _ _ _ _ _ _ _ _ i.arrived i.cleared (_, there) _ _ _ (_, there, n) c.in-Ok-uncons.ensures.read.is _ (sym (lt-ltb 0 _ c.if-matched-gt0.true)) (mismatch_told _ _ _ _ _ c.mismatch-error.ensures) refl refl

pub returns-then-not-fits-clause-passes : goal.returns-then-not-fits-clause-passes
returns-then-not-fits-clause-passes g c = passes_more c.items.invariant.passes (passes_more c.uncons.ensures.passes c.put_back.ensures.passes)

pub returns-then-not-fits-clause-answers : goal.returns-then-not-fits-clause-answers
returns-then-not-fits-clause-answers g c =
    let i = c.items.invariant in
    let there = stands_there i.reached c.in-Some.ensures.steps in
    let n = c.if-not-fits.ensures in
    let a = i.passes.resets in
    let b = c.uncons.ensures.passes.resets in
    let o = g.met.Input.ResetStream.lasts _ _ _ _ c.uncons.ensures.passes.marks (g.met.Input.ResetStream.lasts _ _ _ _ i.passes.marks c.checkpoint-start.ensures.stands) in
    match_put_back _ _ _ _ _ _ _ _ _ _ _ _ i.arrived i.cleared (_, there) _ _ _ (_, there, n) c.in-Ok-uncons.ensures.read.is _ (sym (le-ltb _ _ c.if-matched-gt0.false)) _ o (omega arith) c.put_back.ensures.back

-- found by a search, so that it holds too where a wrong body puts the stream back
pub returns-then-ends_open-clause-passes : goal.returns-then-ends_open-clause-passes
returns-then-ends_open-clause-passes g c =
    let p = c.items.invariant.passes in
    search (rules, passes_more)

pub returns-then-ends_open-clause-answers : goal.returns-then-ends_open-clause-answers
returns-then-ends_open-clause-answers g c =
    let i = c.items.invariant in
    let there = stands_there i.reached c.in-Some.ensures.steps in
    let k = c.ends_open.ensures.0 c.if-ends_open.true in
    match_asks _ _ _ _ _ _ _ _ _ _ _ _ i.arrived (_, there) refl (rw k.0 at c.in-Err-uncons.ensures.read.is) k.1 _ (c.new_error-then-ends_open.ensures.kind ∙ k.0)

pub returns-in-Err-uncons-clause-passes : goal.returns-in-Err-uncons-clause-passes
returns-in-Err-uncons-clause-passes g c = passes_more c.items.invariant.passes c.uncons.ensures.passes

pub returns-in-Err-uncons-clause-answers : goal.returns-in-Err-uncons-clause-answers
returns-in-Err-uncons-clause-answers g c =
    let i = c.items.invariant in
    let there = stands_there i.reached c.in-Some.ensures.steps in
    match_unread _ _ _ _ _ _ _ _ _ _ _ _ i.arrived i.cleared (_, there) _ refl _ _ c.in-Err-uncons.ensures.read.is i.passes.reads (λ z. false≢true (sym c.if-ends_open.false ∙ c.ends_open.ensures.1 z)) c.no_more.ensures.finds

pub items-preserved : goal.items-preserved
items-preserved g c =
    let i = c.items.invariant in
    let n = c.if-not-fits.ensures in
    let s = c.in-Some.ensures.steps in
    let there = stands_there i.reached s in
    record {
      passes = passes_more i.passes c.uncons.ensures.passes;
      cleared = i.cleared;
      reached = reached_more i.reached s;
      few = let o = c.in-Some.ensures.goes.on c.items.iterator.1 in let f = i.few in omega (arith, o.2);
      arrived = arrived_next _ _ _ _ _ _ _ _ (iterated_ends_once _ _ _ _ _ _ _ c.requires.list) _ _ _ _ _ _ _ _ _ i.arrived _ (_, there, n) (_, there) c.in-Ok-uncons.ensures.read.is;
    }

pub returns-clause-answers : goal.returns-clause-answers
returns-clause-answers g c =
    let i = c.items.invariant in
    match_accepted _ _ _ _ _ _ _ _ _ _ _ _ i.arrived i.cleared _ (omega arith) (list_ends i.reached c.in-None.ensures.steps) refl refl _ (λ l. l.1) _ refl _ c.accepted-2.ensures

pub returns-in-Err-clause-refuses : goal.returns-in-Err-clause-refuses
returns-in-Err-clause-refuses g c = reasons_fault _ _ _ _ kinds.Memory c.new_error.ensures.kind tt

pub returns-in-Err-pass_list_items-clause-refuses : goal.returns-in-Err-pass_list_items-clause-refuses
returns-in-Err-pass_list_items-clause-refuses g c = accepted_reasons _ _ _ _ _ _ _ c.accepted.ensures

pub returns-then-matched-gt0-clause-refuses : goal.returns-then-matched-gt0-clause-refuses
returns-then-matched-gt0-clause-refuses g c =
    let i = c.items.invariant in
    let there = stands_there i.reached c.in-Some.ensures.steps in
    let n = c.if-not-fits.ensures in
    mismatch_reasons _ _ _ _ _ _ _ _ _ _ _ _ _ _ _ i.arrived (_, there) _ _ _ _ (_, there, n) c.in-Ok-uncons.ensures.read.is _ (sym (lt-ltb 0 _ c.if-matched-gt0.true)) (rw c.position-position.ensures at c.mismatch-error.ensures)

pub returns-then-not-fits-clause-refuses : goal.returns-then-not-fits-clause-refuses
returns-then-not-fits-clause-refuses g c =
    let i = c.items.invariant in
    let there = stands_there i.reached c.in-Some.ensures.steps in
    let n = c.if-not-fits.ensures in
    let o = g.met.Input.ResetStream.lasts _ _ _ _ c.uncons.ensures.passes.marks (g.met.Input.ResetStream.lasts _ _ _ _ i.passes.marks c.checkpoint-start.ensures.stands) in
    put_back_reasons _ _ _ _ _ _ _ _ _ _ _ _ _ _ _ i.arrived (_, there) _ _ _ _ (_, there, n) c.in-Ok-uncons.ensures.read.is _ _ (sym (le-ltb _ _ c.if-matched-gt0.false)) _ o c.put_back.ensures.back (rw c.position-position.ensures at c.put_back.ensures.refuses)

pub returns-then-ends_open-clause-refuses : goal.returns-then-ends_open-clause-refuses
returns-then-ends_open-clause-refuses g c =
    let k = c.ends_open.ensures.0 c.if-ends_open.true in
    reasons_need _ _ _ _ (c.new_error-then-ends_open.ensures.kind ∙ k.0) k.1

pub returns-in-Err-uncons-clause-refuses : goal.returns-in-Err-uncons-clause-refuses
returns-in-Err-uncons-clause-refuses g c =
    let i = c.items.invariant in
    let there = stands_there i.reached c.in-Some.ensures.steps in
    unread_reasons _ _ _ _ _ _ _ _ _ _ _ _ _ _ _ i.arrived (_, there) _ _ _ refl _ _ c.in-Err-uncons.ensures.read.is (λ z. false≢true (sym c.if-ends_open.false ∙ c.ends_open.ensures.1 z)) c.no_more.ensures.finds (rw c.position-position.ensures at c.no_more.ensures.refuses)

pub returns-clause-refuses : goal.returns-clause-refuses
returns-clause-refuses g c = accepted_reasons _ _ _ _ _ _ _ c.accepted-2.ensures
