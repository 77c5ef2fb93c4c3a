use Rattle.std.proofs.Common.{length}
use Rattle.combine_byte.specs.Bytes.ByteScans.{Without}
use Rattle.combine_byte.proofs.find.skip_blocks.Given as goal

abbrev pub invariant-loop-rest : goal.invariant-loop-rest
invariant-loop-rest g l = record {
  without : Without (g.T.ByteTest.passes l.fn.test) l.fn.bytes l.rest;
}

abbrev pub decreases-loop-rest : goal.decreases-loop-rest
decreases-loop-rest g l = length l.rest
