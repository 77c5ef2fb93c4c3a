use Rattle.std.proofs.Common.{refl}
use Rattle.feedline_core.proofs.decoding.decode_piece.Goals as goal

pub returns : goal.returns
returns g c =
    let lines = rw c.deref.ensures.value at c.in_ok-write_messages.ensures in
    record { batch = c.in_ok-batch.batch; decodes = c.in_ok-batch.ensures; is_end = refl; lines = lines }
