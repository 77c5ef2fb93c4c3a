use Rattle.std.proofs.Common.{◌∙◌}
use Rattle.combine_base.proofs.Parsers.Progress.{moves_more}
use Rattle.combine_until.proofs.UntilTurn.{stops_later}
use Rattle.combine_until.proofs.until.pass_to.Goals as goal

pub returns-in-Err-advance_by-clause-comes : goal.returns-in-Err-advance_by-clause-comes
returns-in-Err-advance_by-clause-comes g c =
    let a = c.in_default.ensures in
    let b = c.in-Err-advance_by.ensures.over.is in
    record { is = (stops_later g.Input.StreamOnce.counts_failures _ c.args.before c.args.beyond (g.Input.StreamOnce.view c.args.input.now) (g.Input.StreamOnce.view c.advance_by.new.self) (g.Input.StreamOnce.view c.advance_by-2.new.self) (g.Input.StreamOnce.failures c.args.input.now) (g.Input.StreamOnce.failures c.advance_by.new.self) (g.Input.StreamOnce.failures c.advance_by-2.new.self) _ a.over.is.0 a.passes.reads b.0, moves_more _ _ _ _ _ a.over.is.0 b.1) }

pub returns-clause-comes : goal.returns-clause-comes
returns-clause-comes g c =
    let a = c.in_default.ensures.over.is in
    let b = c.in_default-advance_by.ensures.over.is in
    record { is = record { at = _; first = a.0; stood = g.met.Input.ResetStream.lasts _ _ _ _ c.in_default-advance_by.ensures.passes.marks c.checkpoint-place.ensures.stands; then = b.0; failures = λ s. b.1 s ∙ a.1 s } }
