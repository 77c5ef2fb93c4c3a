use Rattle.std.proofs.Common.{arith, ap, sym, ◌≡◌, ◌+◌, ◌*◌, ◌^◌, ◌∙◌, length}
use Rattle.combine_byte.specs.Numbers.{little_endian}
use Rattle.combine_byte.proofs.ByteSums.{little_fits, little_more, shifted}
use Rattle.combine_byte.proofs.order.LittleEndianOrderU8.push.Goals as goal

pub overflow_add-result : goal.overflow_add-result
overflow_add-result c = record { fits = (little_fits c.args.so_far c.args.count c.args.byte c.requires.few c.requires.fits c.ranges.byte.fits).1 }

pub returns-clause-value : goal.returns-clause-value
returns-clause-value c bytes l e =
    let s = shifted c.args.so_far c.args.count c.args.byte c.requires.few c.requires.fits c.ranges.byte.fits in
    let q : 0 + length bytes ≡ c.args.count = omega (arith, l) in
    let m = little_more 0 bytes c.args.byte ∙ ap (λ n. little_endian bytes + c.args.byte * 256 ^ n) q in
    rw s (ap (λ n. n + c.args.byte * 256 ^ c.args.count) e ∙ sym m)

pub returns-clause-fits : goal.returns-clause-fits
returns-clause-fits c = (little_fits c.args.so_far c.args.count c.args.byte c.requires.few c.requires.fits c.ranges.byte.fits).0
