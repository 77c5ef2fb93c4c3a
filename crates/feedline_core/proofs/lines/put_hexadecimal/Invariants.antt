use Rattle.std.proofs.Common.{take}
use Rattle.std.specs.Io.KnownBytes.{Appends}
use Rattle.feedline_core.specs.Lines.{hexadecimal}
use Rattle.feedline_core.proofs.lines.put_hexadecimal.Given as goal

-- the digits of the bytes so far are written
abbrev pub invariant-bytes : goal.invariant-bytes
invariant-bytes g l = Appends (g.W.Write.contents l.fn.out) (g.W.Write.contents l.out) (hexadecimal (take l.byte-index l.bytes))
