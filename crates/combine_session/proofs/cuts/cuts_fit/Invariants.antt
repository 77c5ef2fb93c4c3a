use Rattle.combine_session.proofs.CutFits.{FitSoFar}
use Rattle.combine_session.proofs.cuts.cuts_fit.Given as goal

abbrev pub invariant-loop-cut : goal.invariant-loop-cut
invariant-loop-cut g l = FitSoFar (g.S.Windowed.places l.fn.whole) l.fn.cuts l.cut-index l.last
