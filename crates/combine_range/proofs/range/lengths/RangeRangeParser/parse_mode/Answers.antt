use Rattle.std.proofs.Common.{◌∙◌}
use Rattle.combine_range.proofs.LengthCalls.{match_commits, match_none, match_refuses, match_stuck}
use Rattle.combine_base.proofs.Errors.CallReasons.{reasons_fault, reasons_ok}
use Rattle.combine_base.specs.declared.stream.Kind.TheVariants as kinds
use Rattle.combine_base.specs.Error.Errors.{Only}
use Rattle.combine_base.specs.Error.Items.{Expected, OfRange}
use Rattle.combine_range.specs.Range.Lengths.{matching_range}
use Rattle.combine_range.specs.RangeReasons.{RefusesDiffering}
use Rattle.combine_range.specs.WantedRanges.{equal_range}
use Rattle.combine_range.proofs.RangeReasons.{reasons_other, reasons_unmatched, range_stateless_reasons}
use Rattle.combine_range.proofs.range.lengths.RangeRangeParser.parse_mode.Goals as goal

pub returns-then-eq-clause-answers : goal.returns-then-eq-clause-answers
returns-then-eq-clause-answers g c = match_commits _ _ g.met.Input.RangeStream.filled _ _ _ _ _ _ _ c.len.ensures tt _ _ c.in-Ok.ensures.read c.eq.ensures c.if-eq.true

pub returns-in-Ok-reset-clause-answers : goal.returns-in-Ok-reset-clause-answers
returns-in-Ok-reset-clause-answers g c =
    let stands = g.met.Input.ResetStream.lasts _ _ _ _ c.uncons_range.ensures.passes.marks c.checkpoint-start.ensures.stands in
    let n = c.in-Ok-reset.ensures.to.is in
    match_refuses _ _ g.met.Input.RangeStream.filled _ _ _ _ _ _ _ c.len.ensures tt _ _ _ _ _ c.in-Ok.ensures.read c.eq.ensures c.if-eq.false (n.0 _ stands, n.1) (rw c.from.ensures c.new_error.ensures.kind)

pub returns-in-Err-reset-clause-answers : goal.returns-in-Err-reset-clause-answers
returns-in-Err-reset-clause-answers g c = match_stuck _ _ g.met.Input.RangeStream.filled _ _ _ _ _ _ _ c.len.ensures tt _ _ _ _ _ c.in-Ok.ensures.read c.uncons_range.ensures.passes.resets c.new_error-in-Err-reset.ensures.kind c.in-Err-reset.ensures.to.is

pub returns-in-Err-clause-answers : goal.returns-in-Err-clause-answers
returns-in-Err-clause-answers g c = match_none _ _ g.met.Input.RangeStream.filled _ _ _ _ _ _ _ c.len.ensures tt _ _ c.in-Err.ensures.read c.no_range.ensures.answers

pub returns-then-eq-clause-refuses : goal.returns-then-eq-clause-refuses
returns-then-eq-clause-refuses g c = reasons_ok _ _ _ _

pub returns-in-Ok-reset-clause-refuses : goal.returns-in-Ok-reset-clause-refuses
returns-in-Ok-reset-clause-refuses g c =
    let observers = g.Input.Error.ParseError.observers in
    let size = g.Input.RangeStream.size in
    let spells = g.Input.RangeStream.spells in
    let wanted = equal_range g.Input.Range.Range.count g.Input.Range.PartialEq.eq c.args.self.now.wanted in
    let old = g.Input.StreamOnce.view c.args.input.now in
    let stands = g.met.Input.ResetStream.lasts _ _ _ _ c.uncons_range.ensures.passes.marks c.checkpoint-start.ensures.stands in
    let said = reasons_other observers _ _ size spells old _ wanted _ c.len.ensures _ _ _ _ _ _ _ c.in-Ok.ensures.read c.eq.ensures c.if-eq.false (c.in-Ok-reset.ensures.to.is.0 _ stands) (rw (c.from.ensures, ← c.position-position.ensures) c.new_error.ensures) in
    range_stateless_reasons (matching_range size spells wanted) ⊥ (Unit {0}) (Only (Expected (OfRange c.args.self.now.wanted))) (RefusesDiffering observers size spells wanted) c.args.state.now old _ (g.M.ParseMode.first c.args.mode) said

pub returns-in-Err-reset-clause-refuses : goal.returns-in-Err-reset-clause-refuses
returns-in-Err-reset-clause-refuses g c = reasons_fault _ _ _ _ kinds.Reset (c.new_error-in-Err-reset.ensures.kind ∙ c.in-Err-reset.ensures.to.is.0) tt

pub returns-in-Err-clause-refuses : goal.returns-in-Err-clause-refuses
returns-in-Err-clause-refuses g c =
    let observers = g.Input.Error.ParseError.observers in
    let size = g.Input.RangeStream.size in
    let spells = g.Input.RangeStream.spells in
    let wanted = equal_range g.Input.Range.Range.count g.Input.Range.PartialEq.eq c.args.self.now.wanted in
    let old = g.Input.StreamOnce.view c.args.input.now in
    let said = reasons_unmatched observers _ _ size spells old _ wanted _ c.len.ensures _ _ _ _ c.in-Err.ensures.read c.no_range.ensures.answers (rw c.position-position.ensures at c.no_range.ensures.says) in
    range_stateless_reasons (matching_range size spells wanted) ⊥ (Unit {0}) (Only (Expected (OfRange c.args.self.now.wanted))) (RefusesDiffering observers size spells wanted) c.args.state.now old _ (g.M.ParseMode.first c.args.mode) said
