-- a parser that refuses everywhere, peeked
use Rattle.std.specs.Prelude.{◌≡◌, List, Bool, true, false}
use Rattle.combine_base.specs.Stream.View.{View, extended}
use Rattle.combine_base.specs.Error.Errors.{Observers, New}
use Rattle.combine_base.specs.Error.Items.{ErrorItem}
use Rattle.combine_base.specs.Parser.Outcome.{Outcome, Accepted, Refused, Undecided, shape}
use Rattle.combine_base.specs.Parser.Meaning.{Meaning, Reading, IsReading, IsMeaning, MeansOne}
use Rattle.combine_base.specs.declared.stream.Kind.TheVariants as kinds
use Rattle.combine_token.specs.Token.Stateless.{stateless, stateless_is_meaning, stateless_means_one}
use Rattle.combine_error.specs.declared.unexpected.types.Unexpected.{Unexpected}

abbrev pub unexpected_of : {Input V I : Type 0} → I → Unexpected Input V I
unexpected_of info = record { info = info; reads = record {}; value = record {} }

abbrev pub unexpected_info : {Input V I : Type 0} → Unexpected Input V I → I
unexpected_info p = p.info

module _ {P T V : Type 0} where
  abbrev pub refused_there : Reading P T V
  refused_there v (Accepted a n k) = ⊥
  refused_there v (Refused k) = k ≡ false
  refused_there v Undecided = ⊥

  one : (v : View P T) (o o' : Outcome V) → refused_there v o → refused_there v o' → shape o ≡ shape o'
  one v (Accepted a n k) o' p q = absurd p
  one v (Refused k) (Accepted a n c) p q = absurd q
  one v (Refused k) (Refused c) p q = cc
  one v (Refused k) Undecided p q = absurd q
  one v Undecided o' p q = absurd p

  stays : (v : View P T) (x : List T) (m : Bool) (o : Outcome V) → refused_there v o → refused_there (extended x m v) o
  stays v x m (Accepted a n k) p = p
  stays v x m (Refused k) p = p
  stays v x m Undecided p = p

  refused_is_reading : IsReading (refused_there)
  refused_is_reading = record {
    ended = λ v e p. p;
    stays = λ v x m o e d p. stays v x m o p;
    peeked = λ v a n p. absurd p;
    within = λ v a n k p. absurd p;
  }

-- its error is made where it is called, and says nothing by itself
abbrev pub refuses_here : {T R P E : Type 0} → Observers T R P E → P → Bool → E → Type 0
refuses_here s place true e = ⊥
refuses_here s place false e = New s kinds.Refused place e

-- and nothing is taken
pub record RefusesThere {T R P E : Type 0} (s : Observers T R P E) (v w : View P T) (committed : Bool) (e : E) : Type 0 where
  pub stays : w ≡ v
  pub is : refuses_here s v.position committed e

module _ {P T R E V S : Type 0} (s : Observers T R P E) (adds : List (ErrorItem T R) → Type 0) where
  -- it takes no memory, and never asks for more
  abbrev pub refuses_all : Meaning P T R E V S
  refuses_all = stateless refused_there (Unit {0}) (Unit {0}) adds (RefusesThere s)

  pub refuses_all_is_meaning : (fresh valid : S → Type 0) → IsMeaning fresh valid refuses_all
  refuses_all_is_meaning fresh valid = stateless_is_meaning fresh valid refused_there (Unit {0}) (Unit {0}) adds (RefusesThere s) refused_is_reading

  pub refuses_all_means_one : (valid : S → Type 0) → MeansOne valid refuses_all
  refuses_all_means_one valid = stateless_means_one valid refused_there (Unit {0}) (Unit {0}) adds (RefusesThere s) (record { one = one })
