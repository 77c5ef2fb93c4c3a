use Rattle.std.proofs.Common.{sym}
use Rattle.feedline_core.proofs.WrittenLines.{message_more}
use Rattle.feedline_core.proofs.lines.write_messages.Goals as goal

pub messages-preserved : goal.messages-preserved
messages-preserved g c =
    let line = rw c.deref.ensures.value at c.in_ok-write_message.ensures in
    message_more _ _ _ c.messages.message-index c.args.messages.now c.message-item.result c.messages-test.true (sym c.message-item.is) c.messages.invariant line
