use Rattle.combine_range.proofs.RecognizedRange.{recognized_exactly}
use Rattle.combine_range.proofs.laws.recognize_gives_what_was_taken.Goals as goal

pub returns : goal.returns
returns g c = λ v range n committed. recognized_exactly _ g.met.Input.RangeStream.filled _ _ _ v range n committed
