use Rattle.std.proofs.Common.{rules, ◌≡◌, arith, ap, sym, ◌∙◌, length-take-le}
use Rattle.combine_base.specs.declared.stream.Kind.TheVariants as kinds
use Rattle.combine_base.proofs.Streams.Distances.{takes_one_token}
use Rattle.combine_base.proofs.Parsers.Progress.{takes_more}
use Rattle.combine_base.proofs.Parsers.SameMeanings.{passes_more}
use Rattle.combine_byte.specs.WholeNumbers.{worth}
use Rattle.combine_byte.proofs.NumberCalls.{cut_reasons, number_cut, number_unread, take_next, number_unread_reasons}
use Rattle.combine_byte.proofs.whole.WholeNumberParser.parse_mode.Goals as goal

pub returns-then-eq-clause-answers : goal.returns-then-eq-clause-answers
returns-then-eq-clause-answers g c =
    let i = c.bytes.invariant in
    let stands = g.met.Input.ResetStream.lasts _ _ _ _ c.uncons.ensures.passes.marks (g.met.Input.ResetStream.lasts _ _ _ _ i.passes.marks c.checkpoint-start.ensures.stands) in
    let a = i.passes.resets in
    let b = c.uncons.ensures.passes.resets in
    let ended : c.in-Err.kind ≡ kinds.End = search rules in
    number_cut _ g.Input.Error.ParseError.observers _ _ g.N.Number.width (worth g.N.Number.of_sum g.O.Order.number) _ _ _ tt _ _ c.bytes.count _ _ _ _ _ _ i.taken (rw ended at c.in-Err.ensures.read).is (omega (arith, c.bytes-test.true, c.width-count-end.ensures.value)) i.failures _ _ _ stands (omega arith) c.too_few.ensures.back

pub returns-in-Err-clause-answers : goal.returns-in-Err-clause-answers
returns-in-Err-clause-answers g c =
    let i = c.bytes.invariant in
    let other : c.in-Err.kind ≡ kinds.End → ⊥ = search rules in
    number_unread _ g.Input.Error.ParseError.observers _ _ g.N.Number.width (worth g.N.Number.of_sum g.O.Order.number) _ _ _ tt _ _ c.bytes.count _ _ _ _ i.taken i.passes.reads _ c.in-Err.ensures.read.is other _ c.new_error.ensures.kind

pub returns-then-eq-clause-refuses : goal.returns-then-eq-clause-refuses
returns-then-eq-clause-refuses g c =
    let i = c.bytes.invariant in
    let stands = g.met.Input.ResetStream.lasts _ _ _ _ c.uncons.ensures.passes.marks (g.met.Input.ResetStream.lasts _ _ _ _ i.passes.marks c.checkpoint-start.ensures.stands) in
    cut_reasons g.Input.Error.ParseError.observers g.N.Number.width (worth g.N.Number.of_sum g.O.Order.number) (g.M.ParseMode.first c.args.mode) c.args.state.now _ _ _ _ _ _ _ _ _ _ stands c.position-position.ensures c.too_few.ensures.back

pub returns-in-Err-clause-refuses : goal.returns-in-Err-clause-refuses
returns-in-Err-clause-refuses g c =
    let other : c.in-Err.kind ≡ kinds.End → ⊥ = search rules in
    number_unread_reasons g.Input.Error.ParseError.observers g.N.Number.width (worth g.N.Number.of_sum g.O.Order.number) (g.M.ParseMode.first c.args.mode) c.args.state.now _ _ _ _ _ _ _ _ c.in-Err.ensures.read.is other _ c.new_error.ensures.kind

pub bytes-preserved : goal.bytes-preserved
bytes-preserved g c =
    let i = c.bytes.invariant in
    let t = c.in-Ok.ensures.read.is in
    let l = length-take-le c.bytes.count (g.Input.StreamOnce.view c.args.input.now).unread i.taken.enough in
    let d = ap (λ v. v.unread) (sym i.taken.rest) ∙ t.unread in
    record {
      passes = passes_more i.passes c.uncons.ensures.passes;
      taken = takes_more _ _ _ _ _ _ i.taken (takes_one_token _ _ _ _ _ _ _ t);
      failures = λ s. t.failures s ∙ i.failures s;
      value = c.push-sum.ensures.value _ l i.value ∙ ap g.O.Order.number (sym (take_next _ _ _ _ d));
      fits = c.push-sum.ensures.fits;
    }
