use Rattle.std.proofs.Common.{arith, ap, sym, ◌+◌, ◌*◌, ◌∙◌}
use Rattle.combine_byte.proofs.ByteSums.{big_fits, big_more}
use Rattle.combine_byte.proofs.order.BigEndianOrderU8.push.Goals as goal

pub overflow_mul-result : goal.overflow_mul-result
overflow_mul-result c = let f = (big_fits c.args.so_far c.args.count c.args.byte c.requires.few c.requires.fits c.ranges.byte.fits).1 in record { fits = omega (arith, f) }

pub overflow_add-result : goal.overflow_add-result
overflow_add-result c = record { fits = (big_fits c.args.so_far c.args.count c.args.byte c.requires.few c.requires.fits c.ranges.byte.fits).1 }

pub returns-clause-value : goal.returns-clause-value
returns-clause-value c bytes l e = ap (λ n. n * 256 + c.args.byte) e ∙ sym (big_more bytes c.args.byte)

pub returns-clause-fits : goal.returns-clause-fits
returns-clause-fits c = (big_fits c.args.so_far c.args.count c.args.byte c.requires.few c.requires.fits c.ranges.byte.fits).0
