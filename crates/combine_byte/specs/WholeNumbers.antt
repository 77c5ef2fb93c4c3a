-- a fixed number of bytes, and the number that stands in them
use Rattle.std.specs.Prelude.{ℕ, ◌<◌, ◌≤◌, ◌≡◌, ◌⊎◌, List, ◌++◌, Bool, true, false, length, take, refl}
use Rattle.std.proofs.Common.{arith}
use Rattle.std.proofs.lemmas.List.{take-append-le}
use Rattle.std.proofs.Common.{length-append}
use Rattle.combine_base.specs.Stream.View.{View, Moves}
use Rattle.combine_base.specs.Error.Errors.{Observers, AddsNothing, Only}
use Rattle.combine_base.specs.Error.Items.{end_of_input}
use Rattle.combine_base.specs.Parser.Outcome.{Outcome, Accepted, Refused, Undecided, IsDecided, shape}
use Rattle.combine_base.specs.Parser.Meaning.{Meaning, Reading, IsReading, IsMeaning, MeansOne}
use Rattle.combine_base.specs.Refusals.{NoToken, SaysEnd, HasItems}
use Rattle.combine_base.specs.declared.stream.Kind.TheVariants as kinds
use Rattle.combine_base.specs.declared.stream.Failures.{Failures}
use Rattle.combine_base.specs.declared.error.result.ParseResult.{ParseResult}
use Rattle.combine_base.specs.declared.error.result.ParseResult.TheVariants.{CommitErr}
use Rattle.combine_token.specs.Token.Stateless.{stateless, stateless_is_meaning, stateless_means_one}
use Rattle.combine_byte.specs.declared.whole.WholeNumber.{WholeNumber}

-- the parser of a number
abbrev pub number_parser : {Input O N : Type 0} → WholeNumber Input O N
number_parser = record { reads = record {}; order = record {}; number = record {} }

-- what bytes stand for, by the sum that they make
abbrev pub worth : {T N : Type 0} → (ℕ → N) → (List T → ℕ) → List T → N
worth of_sum number bytes = of_sum (number bytes)

module _ {P T N : Type 0} (width : ℕ) (value : List T → N) where
  -- that many bytes are taken; too few are refused peeked, or more is asked for
  abbrev pub whole_number : Reading P T N
  whole_number v (Accepted a n k) = (width ≤ length v.unread) × (a ≡ value (take width v.unread)) × (n ≡ width) × (k ≡ true)
  whole_number v (Refused k) = (length v.unread < width) × (v.is_open ≡ false) × (k ≡ false)
  whole_number v Undecided = (length v.unread < width) × (v.is_open ≡ true)

  stays : (v : View P T) (x : List T) (m : Bool) (o : Outcome N) → v.is_open ≡ true → IsDecided o → whole_number v o → whole_number (record { position = v.position; unread = v.unread ++ x; is_open = m }) o
  stays v x m (Accepted a n k) i d p =
      let l = p.0 in
      (omega (arith, length-append v.unread x), rw (take-append-le width v.unread x l) p.1, p.2, p.3)
  stays v x m (Refused k) i d p = let j = p.1 in absurd (cc)
  stays v x m Undecided i d p = absurd d

  one : (v : View P T) (o o' : Outcome N) → whole_number v o → whole_number v o' → shape o ≡ shape o'
  one v (Accepted a n k) (Accepted a' n' k') p q = let i = p.2 in let j = q.2 in cc
  one v (Accepted a n k) (Refused k') p q = let i = p.0 in let j = q.0 in absurd (omega arith)
  one v (Accepted a n k) Undecided p q = let i = p.0 in let j = q.0 in absurd (omega arith)
  one v (Refused k) (Accepted a' n' k') p q = let i = p.0 in let j = q.0 in absurd (omega arith)
  one v (Refused k) (Refused k') p q = let i = p.2 in let j = q.2 in cc
  one v (Refused k) Undecided p q = let i = p.1 in let j = q.1 in absurd (cc)
  one v Undecided (Accepted a' n' k') p q = let i = p.0 in let j = q.0 in absurd (omega arith)
  one v Undecided (Refused k') p q = let i = p.1 in let j = q.1 in absurd (cc)
  one v Undecided Undecided p q = refl

  whole_number_is_reading : IsReading whole_number
  whole_number_is_reading = record {
    ended = λ v i p. let j = p.1 in cc;
    stays = stays;
    peeked = λ v a n p. let j = p.3 in absurd (cc);
    within = λ v a n k p. let i = p.0 in let j = p.2 in omega arith;
  }

module _ {T R P E : Type 0} (s : Observers T R P E) where
  abbrev pub refuses_short : P → Bool → E → Type 0
  refuses_short place true e = ⊥
  refuses_short place false e = HasItems s kinds.End place (Only end_of_input) e

  -- the error of too few bytes: peeked, made where they began, and it says that the input ended; the stream is left as it was before the first of them
  pub record RefusesShort (v w : View P T) (committed : Bool) (e : E) : Type 0 where
    pub is : refuses_short v.position committed e
    pub back : w ≡ v

module _ {P T R E N S : Type 0} (errors : Observers T R P E) (width : ℕ) (value : List T → N) where
  -- it keeps no state, and on need of more it has taken nothing
  abbrev pub takes_number : Meaning P T R E N S
  takes_number = stateless (whole_number width value) ⊥ (Unit {0}) AddsNothing (RefusesShort errors)

  pub takes_number_is_meaning : (fresh valid : S → Type 0) → IsMeaning fresh valid takes_number
  takes_number_is_meaning fresh valid = stateless_is_meaning fresh valid (whole_number width value) ⊥ (Unit {0}) AddsNothing (RefusesShort errors) (whole_number_is_reading width value)

  pub takes_number_means_one : (valid : S → Type 0) → MeansOne valid takes_number
  takes_number_means_one valid = stateless_means_one valid (whole_number width value) ⊥ (Unit {0}) AddsNothing (RefusesShort errors) (record { one = one width value })

module _ {T R P V E : Type 0} (counts_failures : Type 0) (step : P → T → P) (s : Observers T R P E) (marked : View P T → Type 0) (place : P) (old new : View P T) (before after : Failures) where
  -- the stream was put back, and the end is answered
  pub record EndsThere (result : ParseResult V E) : Type 0 where
    pub at : (v : View P T) → marked v → new ≡ v
    pub failures : counts_failures → after ≡ before
    pub finds : NoToken s.kind s.heapless new.is_open kinds.End result
    pub says : SaysEnd s place result

  -- it could not be put back
  pub record NumberUnreset (result : ParseResult V E) : Type 0 where
    pub error : E
    pub is : result ≡ CommitErr error
    pub kind_is : s.kind error ≡ kinds.Reset
    pub moves : Moves step old new
    pub resets : before.resets < after.resets

  -- what is answered where the bytes ended too early
  pub record EndsTooEarly (result : ParseResult V E) : Type 0 where
    pub is : EndsThere result ⊎ NumberUnreset result
