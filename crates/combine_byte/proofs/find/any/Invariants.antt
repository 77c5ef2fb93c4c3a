use Rattle.std.proofs.Common.{◌≡◌, false, take}
use Rattle.combine_stream.specs.Range.Ranges.{Longest}
use Rattle.combine_byte.specs.Bytes.ByteScans.{fails_all}
use Rattle.combine_byte.proofs.find.any.Given as goal

abbrev pub invariant-loop-byte : goal.invariant-loop-byte
invariant-loop-byte g l = record {
  none : l.found ≡ false → Longest (fails_all (g.T.ByteTest.passes l.fn.test)) (take l.byte-index l.fn.block) l.byte-index;
}
