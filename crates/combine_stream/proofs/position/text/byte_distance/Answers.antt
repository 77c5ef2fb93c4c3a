use Rattle.std.proofs.Common.{◌∙◌}
use Rattle.combine_stream.proofs.PlacedTexts.{bytes_apart}
use Rattle.combine_stream.proofs.position.text.byte_distance.Goals as goal

pub returns : goal.returns
returns c k e = c.saturating_sub.ensures ∙ bytes_apart _ _ k c.utf8.from c.utf8.to e
