use Rattle.combine_decode.proofs.OneMessage.{again_told}
use Rattle.combine_decode.proofs.decode.begin_next.Goals as goal

pub returns-in-Ok : goal.returns-in-Ok
returns-in-Ok g c = again_told _ _ _ _ _ _ _ _ c.make.ensures c.requires.is_open c.in-Ok.ensures
