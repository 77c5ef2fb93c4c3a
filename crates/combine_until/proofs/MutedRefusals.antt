-- a parser that adds nothing refuses with the errors of its part
use Rattle.std.specs.Prelude.{Bool, true, false}
use Rattle.combine_base.specs.Parser.Meaning.{Meaning, begun_refuses}
use Rattle.combine_base.specs.Parser.Reasons.{Reasoned}
use Rattle.combine_base.specs.Stream.View.{View}
use Rattle.combine_base.specs.declared.error.result.ParseResult.{ParseResult}
use Rattle.combine_base.specs.declared.stream.Kind.{Kind}
use Rattle.combine_until.specs.Mute.{mute}

pub mute_reasons : {P T R A S E V : Type 0} (m : Meaning P T R E A S) (first : Bool) (z : S) (old new : View P T) {kind : E → Kind} {is_open : Bool} {result : ParseResult V E} → Reasoned kind is_open (begun_refuses m first z old new) result → Reasoned kind is_open (begun_refuses (mute m) first z old new) result
mute_reasons m true z old new h = h
mute_reasons m false z old new h = h
