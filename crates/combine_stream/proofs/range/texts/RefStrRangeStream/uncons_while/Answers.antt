use Rattle.combine_stream.specs.Range.TextRanges.{char_filled}
use Rattle.combine_stream.proofs.TokenWalks.{while_by_range}
use Rattle.combine_stream.proofs.range.texts.RefStrRangeStream.uncons_while.Goals as goal

pub returns-clause-read : goal.returns-clause-read
returns-clause-read g c = while_by_range char_filled c.bytes_while-n.ensures c.uncons_range.ensures.read
