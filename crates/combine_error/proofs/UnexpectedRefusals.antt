-- a call of a parser that refuses everywhere
use Rattle.std.proofs.Common.{◌≡◌, List, Bool, refl, subst, sym}
use Rattle.combine_base.specs.Error.Errors.{Observers, New}
use Rattle.combine_base.specs.Error.Items.{ErrorItem}
use Rattle.combine_base.specs.Parser.Reasons.{ReasonedCall}
use Rattle.combine_base.specs.Stream.View.{View}
use Rattle.combine_base.proofs.Errors.CallReasons.{reasons_peeked}
use Rattle.combine_base.specs.declared.error.result.ParseResult.TheVariants.{PeekErr}
use Rattle.combine_base.specs.declared.error.tracked.Tracked.{Tracked}
use Rattle.combine_base.specs.declared.stream.Kind.TheVariants as kinds
use Rattle.combine_token.proofs.Tokens.Stateless.{stateless_reasons}
use Rattle.combine_error.specs.Unexpected.{RefusesThere, refused_there, refuses_all}

-- its error is the one that was made there
pub refused_says : {P T R V S E : Type 0} (s : Observers T R P E) (adds : List (ErrorItem T R) → Type 0) (first : Bool) (z : S) (old : View P T) (place : P) (own : E) (t : Tracked E) → place ≡ old.position → New s kinds.Refused place own → t.error ≡ own → ReasonedCall s (refuses_all {V = V} s adds) first z old old (PeekErr t)
refused_says s adds first z old place own t i n e =
    let made : New s kinds.Refused old.position t.error = subst (New s kinds.Refused old.position) (sym e) (subst (λ q. New s kinds.Refused q own) i n) in
    stateless_reasons s refused_there (Unit {0}) (Unit {0}) adds (RefusesThere s) first z old old (PeekErr t) (reasons_peeked s.kind old.is_open (RefusesThere s old old) t (record { stays = refl; is = made }))
