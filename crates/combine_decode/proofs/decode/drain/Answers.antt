use Rattle.std.proofs.Common.{refl, ap, not, length, ◌∙◌, arith, ◌<◌}
use Rattle.combine_decode.proofs.OneMessage.{next_message_fed, gives_empty, gives_more, gives_refused, less_to_decode, smaller, messages_start}
use Rattle.combine_decode.proofs.decode.drain.Goals as goal

pub messages-init : goal.messages-init
messages-init g c = record { is_open = c.requires.is_open; limit = refl; far = λ tokens h b. rw c.new-messages.ensures.items (messages_start _ _ tokens _ _ _ h b) }

pub returns-in-More : goal.returns-in-More
returns-in-More g c tokens h b = (gives_more _ _ tokens _ _ _ refl (rw c.in-More.is at (c.messages.invariant.far tokens h b)), c.messages.invariant.limit)

pub returns-in-Refused : goal.returns-in-Refused
returns-in-Refused g c tokens h b = (gives_refused _ _ tokens _ _ _ _ _ _ refl (rw c.in-Refused.is at (c.messages.invariant.far tokens h b)), c.messages.invariant.limit)

pub returns-then-taken-eq0 : goal.returns-then-taken-eq0
returns-then-taken-eq0 g c tokens h b = (gives_empty _ _ tokens _ _ _ _ _ _ c.if-taken-eq0.true refl (rw c.in-Accepted.is at (c.messages.invariant.far tokens h b)), c.messages.invariant.limit)

pub messages-smaller : goal.messages-smaller
messages-smaller g c =
    let i : 0 < c.in-Accepted.taken = omega (arith, c.if-taken-eq0.false) in
    smaller _ _ _ _ _ c.in-Accepted.is i _ (less_to_decode _ _ _ _ _ c.in_ok-answer-in-Accepted.ensures.0)

pub messages-preserved : goal.messages-preserved
messages-preserved g c =
    let i : 0 < c.in-Accepted.taken = omega (arith, c.if-taken-eq0.false) in
    let items = rw (c.is_err.ensures.negation ∙ ap not c.if-is_err.false) at c.push.ensures.items in
    record { is_open = c.in_ok-answer-in-Accepted.ensures.0.is_open; limit = c.in_ok-answer-in-Accepted.ensures.1 ∙ c.messages.invariant.limit; far = λ tokens h b. rw items (next_message_fed _ _ tokens _ _ _ _ _ _ (rw c.in-Accepted.is at (c.messages.invariant.far tokens h b)) i _ _ _ c.in_ok-answer-in-Accepted.ensures.0 (ap length c.unread-behind.ensures.unread)) }
