-- a call of the parser that is each turn
use Rattle.std.proofs.Common.{Bool, true, false}
use Rattle.combine_base.specs.Error.Errors.{Observers}
use Rattle.combine_base.specs.Parser.Meaning.{Meaning}
use Rattle.combine_base.specs.Parser.Answer.{CallRecord, World, Answers}
use Rattle.combine_base.specs.Parser.Reasons.{ReasonedCall}
use Rattle.combine_base.specs.Stream.View.{View}
use Rattle.combine_repeat.specs.Turns.Turn.{called, from_start}
use Rattle.combine_base.specs.declared.error.result.ParseResult.{ParseResult}

pub plain_called : {P T R A S E : Type 0} (w : World P T S E) (m : Meaning P T R E A S) (r : CallRecord P T S) (later : Bool) (x : ParseResult A E) → Answers w m r x → Answers w (called m (from_start m) later) r x
plain_called w m r true x p = p
plain_called w m r false x p = p

-- and the errors of its refusals
pub plain_reasons : {P T R A S E : Type 0} (errors : Observers T R P E) (m : Meaning P T R E A S) (first : Bool) (s : S) (later : Bool) (old new : View P T) (x : ParseResult A E) → ReasonedCall errors m first s old new x → ReasonedCall errors (called m (from_start m) later) first s old new x
plain_reasons errors m first s true old new x p = p
plain_reasons errors m first s false old new x p = p
