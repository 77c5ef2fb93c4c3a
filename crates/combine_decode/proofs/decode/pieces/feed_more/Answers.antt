use Rattle.std.proofs.Common.{refl}
use Rattle.combine_decode.proofs.decode.pieces.feed_more.Goals as goal

pub returns-in-Ok-append : goal.returns-in-Ok-append
returns-in-Ok-append g c = record { is = (c.in-Ok.batch, c.in-Ok.ensures, refl, c.in-Ok-append.ensures) }
