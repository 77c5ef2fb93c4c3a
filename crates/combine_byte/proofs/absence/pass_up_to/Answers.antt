use Rattle.std.proofs.Common.{arith, refl}
use Rattle.combine_base.proofs.Parsers.SameMeanings.{passes_none}
use Rattle.combine_stream.specs.Range.Ranges.{size_take}
use Rattle.combine_byte.proofs.ItemLimit.{up_to_items}
use Rattle.combine_byte.proofs.absence.pass_up_to.Goals as goal

pub loop-range-init : goal.loop-range-init
loop-range-init g c =
    let m = g.met.Input.RangeStream.measured _ _ c.range.ensures in
    let n = c.len.ensures in
    let l = c.min-items.ensures in
    record {
      passes = passes_none _ _;
      same = refl;
      failures = λ s. refl;
      few = omega arith;
      within = omega arith;
      last = λ k i h. let a = size_take g.Input.RangeStream.size k (g.Input.StreamOnce.view c.args.input.now).unread in omega arith;
    }

pub returns-in-Ok-clause-over : goal.returns-in-Ok-clause-over
returns-in-Ok-clause-over g c =
    let i = c.loop-range.invariant in
    record { is = up_to_items _ _ _ g.met.Input.RangeStream.filled _ _ _ _ _ _ _ _ _ i.same i.failures i.few i.last _ c.in-Ok.ensures.read }
