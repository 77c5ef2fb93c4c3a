use Rattle.combine_byte.proofs.ByteScans.{finds_first, finds_no_byte}
use Rattle.combine_byte.proofs.find.find_byte.Goals as goal

pub returns-then-place-bytes : goal.returns-then-place-bytes
returns-then-place-bytes g c = finds_first _ _ _ c.first_byte-place.ensures c.if-place-bytes.true

pub returns : goal.returns
returns g c = finds_no_byte _ _ _ c.first_byte-place.ensures c.if-place-bytes.false
