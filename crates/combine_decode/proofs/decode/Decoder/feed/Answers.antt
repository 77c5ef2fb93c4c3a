use Rattle.std.proofs.Common.{refl, sym, ◌∙◌, arith}
use Rattle.combine_decode.proofs.OneMessage.{feeds_open}
use Rattle.combine_decode.proofs.FeedCalls.{decoder_runs, feeding_fails_later, gives_batch, never_too_long}
use Rattle.combine_decode.proofs.decode.Decoder.feed.Goals as goal

pub returns-in-Ok-drain : goal.returns-in-Ok-drain
returns-in-Ok-drain g c =
    let running = decoder_runs c.self.inside.phase c.in_ok-check.field-0 (sym c.check.ensures ∙ c.in_ok-check.was) in
    rw (← c.self.view_is) (gives_batch _ _ _ _ _ c.args.piece.now running refl refl _ _ c.in_ok-waiting.ensures.0 c.in_ok-waiting.ensures.1 _ c.in-Ok.ensures c.in-Ok-drain.batch c.phase-self-inside.ensures c.in-Ok-drain.ensures)

pub returns-in-Err-drain : goal.returns-in-Err-drain
returns-in-Err-drain g c =
    let running = decoder_runs c.self.inside.phase c.in_ok-check.field-0 (sym c.check.ensures ∙ c.in_ok-check.was) in
    rw (← c.self.view_is) (feeding_fails_later _ _ _ _ _ c.args.piece.now running refl refl _ _ c.in_ok-waiting.ensures.0 c.in_ok-waiting.ensures.1 _ c.in-Ok.ensures c.in-Err-drain.kind refl refl c.in-Err-drain.ensures)

pub returns-in-Err-TooLong : goal.returns-in-Err-TooLong
returns-in-Err-TooLong g c =
    let running = decoder_runs c.self.inside.phase c.in_ok-check.field-0 (sym c.check.ensures ∙ c.in_ok-check.was) in
    rw (← c.self.view_is) (never_too_long _ _ _ _ _ c.args.piece.now running refl refl _ _ c.in_ok-waiting.ensures.0 c.in_ok-waiting.ensures.1 (omega arith) (rw c.in-Err-TooLong.field-0-is at c.in-Err-TooLong.ensures) _)

pub drain-requires-clause-is_open : goal.drain-requires-clause-is_open
drain-requires-clause-is_open g c lives outlive = feeds_open _ _ _ _ _ _ c.in-Ok.ensures
