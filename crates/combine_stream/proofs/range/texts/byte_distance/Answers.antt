use Rattle.std.proofs.Common.{◌∙◌}
use Rattle.std.specs.Char.{len_utf8}
use Rattle.combine_base.specs.Stream.Texts.{text_view, less_char}
use Rattle.combine_stream.proofs.SliceLengths.{distance_is}
use Rattle.combine_stream.proofs.TextCuts.{text_size}
use Rattle.combine_stream.proofs.range.texts.byte_distance.Goals as goal

pub returns : goal.returns
returns c k t = c.saturating_sub.ensures ∙ distance_is less_char len_utf8 _ _ k (text_view c.args.from.now) (text_view c.args.to.now) t (text_size _ c.utf8.from) (text_size _ c.utf8.to)
