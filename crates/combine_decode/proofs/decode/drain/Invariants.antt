use Rattle.std.proofs.Common.{◌≡◌, true, length, List}
use Rattle.combine_decode.specs.Messages.{AnswersMessage, made_reading}
use Rattle.combine_decode.proofs.OneMessage.{GaveMessages, remaining}
use Rattle.combine_decode.proofs.decode.drain.Given as goal

-- the messages so far, and what the session was told of the tokens behind them
abbrev pub invariant-messages : goal.invariant-messages
invariant-messages g l = record {
  is_open : l.session.seen.is_open ≡ true;
  limit : l.session.limit ≡ l.fn.session.limit;
  far : (tokens : List g.row.T.Denot) → AnswersMessage (made_reading g.P.Parser.meaning (g.F.Maker.returns l.maker)) g.P.Parser.meaning tokens l.fn.session l.fn.first → l.fn.waiting ≡ length tokens → GaveMessages (made_reading g.P.Parser.meaning (g.F.Maker.returns l.maker)) g.P.Parser.meaning tokens l.messages.items l.session l.answer l.behind;
}

abbrev pub decreases-messages : goal.decreases-messages
decreases-messages g l = remaining (length l.session.seen.unread) l.answer
