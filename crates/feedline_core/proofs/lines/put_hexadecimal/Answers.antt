use Rattle.feedline_core.proofs.WrittenLines.{hexadecimal_more}
use Rattle.feedline_core.proofs.lines.put_hexadecimal.Goals as goal

pub bytes-preserved : goal.bytes-preserved
bytes-preserved g c =
    let digits = rw (c.hexadecimal_digit.ensures, c.hexadecimal_digit-in-bytes.ensures) at c.in_ok-put.ensures in
    hexadecimal_more _ _ _ c.bytes.byte-index c.args.bytes.now _ c.bytes-test.true c.bytes.invariant digits
