use Rattle.combine_stream.proofs.PlacedTexts.{other_part}
use Rattle.combine_stream.proofs.position.text.has_advanced.Goals as goal

pub returns : goal.returns
returns c k h e = other_part c.args.from.now c.args.to.now k c.utf8.from c.utf8.to h e
