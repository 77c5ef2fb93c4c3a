use Rattle.std.proofs.Common.{sym, ap, ◌∙◌, length}
use Rattle.combine_base.specs.Stream.View.{View}
use Rattle.combine_stream.specs.Range.Measures.{ones}
use Rattle.combine_stream.proofs.SliceLengths.{distance_is}
use Rattle.combine_stream.proofs.range.slices.RefSliceRangeStream.distance.Goals as goal

pub returns : goal.returns
returns g c v k e t = c.saturating_sub.ensures ∙ distance_is _ (λ t. 1) _ _ k v _ t (ap (λ (x : View _ _). length x.unread) (sym e) ∙ sym (ones v.unread)) (sym (ones c.args.self.now.now))
