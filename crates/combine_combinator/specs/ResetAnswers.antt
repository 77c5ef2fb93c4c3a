-- putting a stream back before an answer, and the error of `not_followed_by`
use Rattle.std.specs.Prelude.{◌≡◌, ◌<◌, ◌⊎◌, Bool, false}
use Rattle.combine_base.specs.Error.Errors.{Observers, New}
use Rattle.combine_base.specs.Stream.View.{View, Moves}
use Rattle.combine_base.specs.declared.stream.Kind.{Kind}
use Rattle.combine_base.specs.declared.stream.Kind.TheVariants as kinds
use Rattle.combine_base.specs.declared.stream.Failures.{Failures}
use Rattle.combine_base.specs.declared.error.result.ParseResult.{ParseResult}
use Rattle.combine_base.specs.declared.error.result.ParseResult.TheVariants.{CommitErr}

module _ {P T V E : Type 0} (counts_failures : Type 0) (step : P → T → P) (kind : E → Kind) (marked : View P T → Type 0) (old new : View P T) (before after : Failures) where
  -- the stream was put back, and the answer is that one
  pub record AnswersPutBack (answer result : ParseResult V E) : Type 0 where
    pub at : (v : View P T) → marked v → new ≡ v
    pub failures : counts_failures → after ≡ before
    pub is : result ≡ answer

  -- it could not be put back
  pub record Stuck (result : ParseResult V E) : Type 0 where
    pub error : E
    pub is : result ≡ CommitErr error
    pub kind_is : kind error ≡ kinds.Reset
    pub moves : Moves step old new
    pub resets : before.resets < after.resets

  -- the stream was put back for that answer, or could not be
  pub record PutBackFor (answer result : ParseResult V E) : Type 0 where
    pub is : AnswersPutBack answer result ⊎ Stuck result

-- the error of `not_followed_by`: peeked, with the view put back, made where it began, and it says nothing
pub record RefusesFollowed {T R P E : Type 0} (s : Observers T R P E) (v w : View P T) (committed : Bool) (e : E) : Type 0 where
  pub peeked : committed ≡ false
  pub back : w ≡ v
  pub new : New s kinds.Refused v.position e
