use Rattle.std.proofs.Common.{◌+◌, arith, refl, inr}
use Rattle.combine_base.specs.Stream.View.{Takes}
use Rattle.combine_base.proofs.Parsers.Progress.{moves_more, takes_more}
use Rattle.combine_until.proofs.until.keep.Goals as goal

pub returns-in-Err-clause-keeps : goal.returns-in-Err-clause-keeps
returns-in-Err-clause-keeps g c = record { is = λ start place before beyond i j t n. let h = (c.in-Err.ensures.measures beyond place j n).is in inr (record { error = _; answer = refl; broke = rw (c.new_error.ensures.kind, h.0) h.2; moves = moves_more _ (before + beyond) start _ _ (takes_more _ _ _ _ _ _ t n) h.1; state = refl }) }

pub returns-in-Err-measure-clause-keeps : goal.returns-in-Err-measure-clause-keeps
returns-in-Err-measure-clause-keeps g c = record {
  is = λ start place before beyond i j t n.
      let a = (c.in-Ok.ensures.measures beyond place j n).is in
      let s = g.met.Input.ResetStream.lasts _ _ _ _ c.measure.ensures.passes.marks i in
      let u : Takes g.Input.StreamOnce.step before start (g.Input.StreamOnce.view c.measure.new.input) = rw a.1 t in
      let h = (c.in-Err-measure.ensures.measures before start s u).is in
      let r = c.in-Ok.ensures.passes.resets in
      let k = h.2 in
      inr (record { error = _; answer = refl; broke = rw (c.new_error-in-Err-measure.ensures.kind, h.0) (omega arith); moves = moves_more _ before start _ _ u h.1; state = refl });
}

pub returns-clause-left : goal.returns-clause-left
returns-clause-left g c = record { is = inr (_, refl, refl) }
