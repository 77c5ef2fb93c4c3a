-- a value for which no token is read; it is known by its relation to the position
use Rattle.std.specs.Prelude.{◌≡◌, List, Bool, false}
use Rattle.std.proofs.Common.{arith}
use Rattle.combine_base.specs.Stream.View.{View, extended}
use Rattle.combine_base.specs.Error.Items.{ErrorItem}
use Rattle.combine_base.specs.Parser.Outcome.{Outcome, Accepted, Refused, Undecided, shape}
use Rattle.combine_base.specs.Parser.Meaning.{Meaning, Reading, IsReading, IsSingle, IsMeaning, MeansOne}
use Rattle.combine_token.specs.Token.Stateless.{never_refused, stateless, stateless_is_meaning, stateless_means_one}

module _ {P T B : Type 0} (f : P → B → Type 0) where
  -- accepted everywhere, peeked
  abbrev pub given_value : Reading P T B
  given_value v (Accepted b n k) = f v.position b × (n ≡ 0) × (k ≡ false)
  given_value v (Refused k) = ⊥
  given_value v Undecided = ⊥

  one_shape : (v : View P T) (o o' : Outcome B) → given_value v o → given_value v o' → shape o ≡ shape o'
  one_shape v (Accepted b n k) (Accepted b' n' k') p q = cc
  one_shape v (Accepted b n k) (Refused k') p q = absurd q
  one_shape v (Accepted b n k) Undecided p q = absurd q
  one_shape v (Refused k) o' p q = absurd p
  one_shape v Undecided o' p q = absurd p

  stays_at : (v : View P T) (x : List T) (m : Bool) (o : Outcome B) → given_value v o → given_value (extended x m v) o
  stays_at v x m (Accepted b n k) p = p
  stays_at v x m (Refused k) p = p
  stays_at v x m Undecided p = p

  pub given_is_reading : IsReading given_value
  given_is_reading = record {
    ended = λ v e p. p;
    stays = λ v x m o e d p. stays_at v x m o p;
    peeked = λ v b n p. p.1;
    within = λ v b n k p. let e = p.1 in omega arith;
  }

  pub given_is_single : IsSingle given_value
  given_is_single = record { one = one_shape }

module _ {P T R E B S : Type 0} (f : P → B → Type 0) (heapless : Type 0) (adds : List (ErrorItem T R) → Type 0) where
  abbrev pub given_meaning : Meaning P T R E B S
  given_meaning = stateless (given_value f) (Unit {0}) heapless adds never_refused

  pub gives_is_meaning : (fresh valid : S → Type 0) → IsMeaning fresh valid given_meaning
  gives_is_meaning fresh valid = stateless_is_meaning fresh valid (given_value f) (Unit {0}) heapless adds never_refused (given_is_reading f)

  pub gives_means_one : (valid : S → Type 0) → MeansOne valid given_meaning
  gives_means_one valid = stateless_means_one valid (given_value f) (Unit {0}) heapless adds never_refused (given_is_single f)
