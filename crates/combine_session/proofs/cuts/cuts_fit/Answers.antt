use Rattle.std.proofs.Common.{sym, ◌∙◌}
use Rattle.combine_session.proofs.CutFits.{fit_none, fit_more, fit_falls, fit_misplaced, fit_all}
use Rattle.combine_session.proofs.cuts.cuts_fit.Goals as goal

pub loop-cut-init : goal.loop-cut-init
loop-cut-init g c = fit_none _ _

pub returns-then-cut-last : goal.returns-then-cut-last
returns-then-cut-last g c = fit_falls _ _ _ _ c.loop-cut.invariant c.loop-cut-test.true c.if-cut-last.true

pub returns-then-not-has_place : goal.returns-then-not-has_place
returns-then-not-has_place g c = fit_misplaced _ _ _ _ c.loop-cut.invariant c.loop-cut-test.true (λ p. let e = sym c.if-not-has_place.true ∙ c.has_place.ensures.1 p in cc)

pub loop-cut-preserved : goal.loop-cut-preserved
loop-cut-preserved g c = fit_more _ _ _ _ c.loop-cut.invariant c.if-cut-last.false (c.has_place.ensures.0 c.if-not-has_place.false)

pub returns : goal.returns
returns g c = fit_all _ _ _ _ c.loop-cut.invariant c.loop-cut-test.false
