use Rattle.std.proofs.Common.{length}
use Rattle.combine_byte.proofs.ByteScans.{SoughtBytes}
use Rattle.combine_byte.proofs.find.find_bytes.Given as goal

abbrev pub invariant-loop-rest : goal.invariant-loop-rest
invariant-loop-rest l = record {
  sought : SoughtBytes l.fn.needle l.fn.bytes l.rest;
}

abbrev pub decreases-loop-rest : goal.decreases-loop-rest
decreases-loop-rest l = length l.rest
