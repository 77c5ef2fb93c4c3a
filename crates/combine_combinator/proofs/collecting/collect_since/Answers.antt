use Rattle.std.proofs.lemmas.Result.{err_from_is_err_and}
use Rattle.combine_base.proofs.Streams.Distances.{takes_ahead}
use Rattle.combine_combinator.proofs.TokenCollection.{collect_again, collect_unreset}
use Rattle.combine_combinator.proofs.collecting.collect_since.Goals as goal

pub returns-in_err-reset-clause-collects : goal.returns-in_err-reset-clause-collects
returns-in_err-reset-clause-collects g c n v m t =
    let p = err_from_is_err_and c.from_residual.result c.from_residual.ensures.1 in
    rw (p.1, p.2) (collect_unreset _ _ _ _ _ _ v _ _ _ _ n t _ c.in_err-reset.ensures.to.is)

pub returns-clause-collects : goal.returns-clause-collects
returns-clause-collects g c n v m t =
    let r = c.in_ok-reset.ensures.to.is in
    let e = r.0 v m in
    let p = c.reset.ensures.passes in
    let l = c.count_since-count.ensures n v m (takes_ahead _ t) in
    let o = t.enough in
    collect_again _ _ _ _ _ _ v _ _ _ _ _ n e r.1 p.reads p.resets _ (rw l at c.collect.ensures.collects (rw e o))
