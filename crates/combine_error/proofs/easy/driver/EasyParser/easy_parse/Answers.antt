use Rattle.combine_error.proofs.easy.driver.EasyParser.easy_parse.Goals as goal

pub returns-in-Ok-clause-results : goal.returns-in-Ok-clause-results
returns-in-Ok-clause-results g c = rw c.into_inner.ensures (rw c.new.ensures at c.in-Ok.ensures.results)

pub returns-in-Err-clause-results : goal.returns-in-Err-clause-results
returns-in-Err-clause-results g c =
    let r = c.in-Err.ensures.results in
    (r.0.inner, rw c.new.ensures at r.1)
