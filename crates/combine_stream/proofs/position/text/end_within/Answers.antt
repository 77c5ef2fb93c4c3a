use Rattle.combine_stream.proofs.TextParts.{place_left}
use Rattle.combine_stream.proofs.position.text.end_within.Goals as goal

pub returns : goal.returns
returns c k l h = place_left _ _ _ k c.utf8.text c.utf8.rest c.requires l h _ c.saturating_sub.ensures
