use Rattle.std.proofs.Common.{take}
use Rattle.std.specs.Io.KnownBytes.{Appends}
use Rattle.feedline_core.specs.Lines.{message_lines}
use Rattle.feedline_core.proofs.lines.write_messages.Given as goal

-- the lines of the messages so far are written
abbrev pub invariant-messages : goal.invariant-messages
invariant-messages g l = Appends (g.W.Write.contents l.fn.out) (g.W.Write.contents l.out) (message_lines (take l.message-index l.messages))
