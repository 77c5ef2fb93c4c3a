-- brackets inside brackets: how many there are, at most so deep
use Rattle.std.specs.Prelude.{ℕ, zero, suc, ◌+◌, ◌≡◌, ◌≤◌, nat_eq, List, [], ◌∷◌, Bool, true, false, Option, Some, None}
use Rattle.std.proofs.Common.{arith, subst}
use Rattle.combine_base.specs.Stream.View.{View, advanced}
use Rattle.combine_base.specs.Error.Errors.{AddsNothing}
use Rattle.combine_base.specs.Error.NoItems.{no_items}
use Rattle.combine_base.specs.Parser.ValueMap.{mapped_is_meaning, mapped_means_one, mapped_reading}
use Rattle.combine_base.specs.Parser.Meaning.{Meaning, Reading, IsMeaning, IsReading, IsSingle, MeansOne, any_error}
use Rattle.combine_base.specs.Parser.Outcome.{Outcome, Accepted, Refused, Undecided, shape}
use Rattle.combine_base.specs.Sequence.JoinedOutcome.{joined}
use Rattle.combine_base.specs.Sequence.Readings.{SecondIsSingle, continues, following, following_is_reading, sequel, sequel_is_reading, sequel_is_single}
use Rattle.combine_base.specs.Sequence.Tuples.{push_0, push_1}
use Rattle.combine_choice.specs.Choice.Choices.{OrElse, Here, Later}
use Rattle.combine_token.specs.Token.OneToken.{of_function, of_function_is_predicate, one_token, one_token_at, satisfied, satisfied_is_test, takes_one, takes_one_is_meaning, takes_one_means_one}
use Rattle.combine_choice.specs.Choice.Optional.{is_some, nothing_taken, optional_is_meaning, optional_means_one}
use Rattle.combine_token.specs.Token.Stateless.{stateless, stateless_is_meaning, stateless_means_one}
use Rattle.combine_base.specs.declared.error.unexpected.UnexpectedParse.{UnexpectedParse}

-- the value of the second of two parts
abbrev pub second : {A B : Type 0} → A → B → B
second a b = b

fresh : Unit {0} → Type 0
fresh s = Unit {0}

-- an opening bracket is one byte
one_opened_at : (is_open : Bool) (us : List ℕ) (a n : ℕ) (c : Bool) → one_token_at (satisfied (of_function (λ t. nat_eq t 40))) is_open us (Accepted a n c) → n ≡ 1
one_opened_at i [] a n c p = absurd p.1
one_opened_at i (t ∷ ts) a n c p = p.1

module _ {P : Type 0} where
  -- this byte
  abbrev pub nest_byte : ℕ → Reading P ℕ ℕ
  nest_byte b = one_token (satisfied (of_function (λ t. nat_eq t b)))

  -- an opening bracket, or none
  abbrev pub opened : Reading P ℕ (Option ℕ)
  opened = OrElse (mapped_reading (nest_byte 40) is_some) nothing_taken

  -- the bracket that closes one round so many
  abbrev pub closed : ℕ → Reading P ℕ ℕ
  closed n = mapped_reading (nest_byte 41) (λ t m. m ≡ n + 1)

  abbrev pub none_there : Reading P ℕ ℕ
  none_there v o = o ≡ Accepted 0 0 false

  abbrev pub too_deep : Reading P ℕ ℕ
  too_deep v o = o ≡ Refused true

  module _ (step : P → ℕ → P) where
    -- what stands behind an opening bracket, or behind none
    abbrev pub inside : Option ℕ → ℕ → Reading P ℕ ℕ
    inside None k = none_there
    inside (Some t) zero = too_deep
    inside (Some t) (suc k) = sequel step second (sequel step second opened (λ b. inside b k)) closed

    -- so many brackets inside one another, at most so deep
    abbrev pub nest : ℕ → Reading P ℕ ℕ
    nest k = sequel step second opened (λ b. inside b k)

  -- a parser of this byte
  abbrev of_byte : ℕ → Meaning P ℕ (Unit {0}) UnexpectedParse ℕ (Unit {0})
  of_byte b = takes_one no_items (satisfied (of_function (λ t. nat_eq t b))) (Unit {0}) AddsNothing

  -- two bytes, one after the other
  abbrev pub byte_pair : (P → ℕ → P) → ℕ → ℕ → Reading P ℕ (ℕ × ℕ)
  byte_pair step a b = sequel step push_1 (following false (push_0 tt) (nest_byte a)) (λ p. nest_byte b)

  byte_reads : (b : ℕ) → IsMeaning fresh fresh (of_byte b)
  byte_reads b = takes_one_is_meaning no_items (satisfied (of_function (λ t. nat_eq t b))) (Unit {0}) AddsNothing fresh fresh

  byte_one : (b : ℕ) → MeansOne fresh (of_byte b)
  byte_one b = takes_one_means_one no_items (satisfied (of_function (λ t. nat_eq t b))) (Unit {0}) AddsNothing fresh (satisfied_is_test (of_function (λ t. nat_eq t b)) (of_function_is_predicate (λ t. nat_eq t b)))

  pub byte_is_reading : (b : ℕ) → IsReading (nest_byte b)
  byte_is_reading b = (byte_reads b).whole

  pub byte_pair_is_reading : (step : P → ℕ → P) (a b : ℕ) → IsReading (byte_pair step a b)
  byte_pair_is_reading step a b = sequel_is_reading step push_1 (following false (push_0 tt) (nest_byte a)) (λ p. nest_byte b) (following_is_reading false (push_0 tt) (nest_byte a) (byte_is_reading a)) (λ p. byte_is_reading b)

  pub opened_is_reading : IsReading opened
  opened_is_reading = (optional_is_meaning fresh fresh (of_byte 40) (byte_reads 40)).whole

  opened_is_single : IsSingle opened
  opened_is_single = (optional_means_one fresh (of_byte 40) (byte_one 40)).whole

  closed_is_reading : (n : ℕ) → IsReading (closed n)
  closed_is_reading n = (mapped_is_meaning fresh fresh (of_byte 41) (λ t m. m ≡ n + 1) (byte_reads 41)).whole

  -- whatever it closes
  abbrev closed_any : Reading P ℕ ℕ
  closed_any = mapped_reading (nest_byte 41) (λ t m. Unit {0})

  closed_any_is_single : IsSingle closed_any
  closed_any_is_single = (mapped_means_one fresh (of_byte 41) (λ t m. Unit {0}) (byte_one 41)).whole

  any_closed : (n : ℕ) (v : View P ℕ) (o : Outcome ℕ) → closed n v o → closed_any v o
  any_closed n v (Accepted m i c) p = (p.0, p.1, tt)
  any_closed n v (Refused c) p = p
  any_closed n v Undecided p = p

  none_there_is_reading : IsReading none_there
  none_there_is_reading = record {
    ended = λ v e p. cc;
    stays = λ v x m o e d p. p;
    peeked = λ v a n p. cc;
    within = λ v a n k p. let e : n ≡ 0 = cc in omega arith;
  }

  too_deep_is_reading : IsReading too_deep
  too_deep_is_reading = record {
    ended = λ v e p. cc;
    stays = λ v x m o e d p. p;
    peeked = λ v a n p. absurd (cc);
    within = λ v a n k p. absurd (cc);
  }

  -- how many tokens an opening bracket is, or none
  none_opened : (v : View P ℕ) (n : ℕ) (c : Bool) → opened v (Accepted None n c) → n ≡ 0
  none_opened v n c (Here p f) = let e = p.2 in absurd (cc)
  none_opened v n c (Later r e) = cc

  one_opened : (v : View P ℕ) (t n : ℕ) (c : Bool) → opened v (Accepted (Some t) n c) → n ≡ 1
  one_opened v t n c (Here p f) = one_opened_at v.is_open v.unread p.0 n c p.1
  one_opened v t n c (Later r e) = absurd (cc)

  module _ (step : P → ℕ → P) where
    pub inside_is_reading : (b : Option ℕ) (k : ℕ) → IsReading (inside step b k)
    inside_is_reading None k = none_there_is_reading
    inside_is_reading (Some t) zero = too_deep_is_reading
    inside_is_reading (Some t) (suc k) = sequel_is_reading step second (nest step k) closed (sequel_is_reading step second opened (λ b. inside step b k) opened_is_reading (λ b. inside_is_reading b k)) closed_is_reading

    pub nest_is_reading : (k : ℕ) → IsReading (nest step k)
    nest_is_reading k = sequel_is_reading step second opened (λ b. inside step b k) opened_is_reading (λ b. inside_is_reading b k)

    -- whichever bracket stood there, what is inside has one outcome
    follows_one : (k : ℕ) → ((b : Option ℕ) → IsSingle (inside step b k)) → SecondIsSingle step second opened (λ b. inside step b k)
    follows_one k h = record { one = by_bracket }
      where
        behind_one : (k : ℕ) (t t' : ℕ) → IsSingle (inside step (Some t) k) → (u : View P ℕ) (o o' : Outcome ℕ) → inside step (Some t) k u o → inside step (Some t') k u o' → shape o ≡ shape o'
        behind_one zero t t' h u o o' x x' = h.one u o o' x x'
        behind_one (suc k) t t' h u o o' x x' = h.one u o o' x x'

        by_bracket : (v : View P ℕ) (a a' : Option ℕ) (n : ℕ) (c : Bool) → opened v (Accepted a n c) → opened v (Accepted a' n c) → (u : View P ℕ) (o o' : Outcome ℕ) → inside step a k u o → inside step a' k u o' → shape o ≡ shape o'
        by_bracket v None None n c w w' u o o' x x' = (h None).one u o o' x x'
        by_bracket v (Some t) (Some t') n c w w' u o o' x x' = behind_one k t t' (h (Some t)) u o o' x x'
        by_bracket v None (Some t) n c w w' u o o' x x' = let i = none_opened v n c w in let j = one_opened v t n c w' in absurd (omega arith)
        by_bracket v (Some t) None n c w w' u o o' x x' = let i = none_opened v n c w' in let j = one_opened v t n c w in absurd (omega arith)

    single_after : (k : ℕ) → ((b : Option ℕ) → IsSingle (inside step b k)) → IsSingle (nest step k)
    single_after k h = sequel_is_single step second opened (λ b. inside step b k) opened_is_single (follows_one k h)

    inside_is_single : (b : Option ℕ) (k : ℕ) → IsSingle (inside step b k)
    inside_is_single None k = record { one = λ v o o' p q. cc }
    inside_is_single (Some t) zero = record { one = λ v o o' p q. cc }
    inside_is_single (Some t) (suc k) = sequel_is_single step second (nest step k) closed (single_after k (λ b. inside_is_single b k)) (record { one = λ v a a' n c w w' u o o' x x'. closed_any_is_single.one u o o' (any_closed a u o x) (any_closed a' u o' x') })

    -- what the second of two parts was accepted with
    last_value : {A : Type 0} (r : Reading P ℕ A) (q : A → Reading P ℕ ℕ) (v : View P ℕ) (n i : ℕ) (c : Bool) → sequel step second r q v (Accepted n i c) → (a : A) × (j m : ℕ) × (d e : Bool) × r v (Accepted a j d) × q a (advanced step j v) (Accepted n m e)
    last_value {A} r q v n i c p = by_first p.0 p.1 p.2
      where
        Found : Type 0
        Found = (a : A) × (j m : ℕ) × (d e : Bool) × r v (Accepted a j d) × q a (advanced step j v) (Accepted n m e)

        by_second : (a : A) (j : ℕ) (d : Bool) → r v (Accepted a j d) → (o : Outcome ℕ) → q a (advanced step j v) o → Accepted n i c ≡ joined j d (second a) o → Found
        by_second a j d w (Accepted b m e) x y = let z : b ≡ n = cc in (a, j, m, d, e, w, subst (λ l. q a (advanced step j v) (Accepted l m e)) z x)
        by_second a j d w (Refused e) x y = absurd (cc)
        by_second a j d w Undecided x y = absurd (cc)

        by_first : (o : Outcome A) → r v o → continues step second q v o (Accepted n i c) → Found
        by_first (Accepted a j d) w u = by_second a j d w u.0 u.1 u.2
        by_first (Refused d) w u = absurd (cc)
        by_first Undecided w u = absurd (cc)

    -- no more brackets than so deep
    inside_few : (b : Option ℕ) (k : ℕ) (v : View P ℕ) (n i : ℕ) (c : Bool) → inside step b k v (Accepted n i c) → n ≤ k
    inside_few None k v n i c p = let e : n ≡ 0 = cc in omega arith
    inside_few (Some t) zero v n i c p = absurd (cc)
    inside_few (Some t) (suc k) v n i c p =
        let x = last_value (nest step k) closed v n i c p in
        let y = last_value opened (λ b. inside step b k) v x.0 x.1 x.3 x.5 in
        let z = inside_few y.0 k _ x.0 y.2 y.4 y.6 in
        let e = x.6.2 in
        omega arith

    pub nest_few : (k : ℕ) (v : View P ℕ) (n i : ℕ) (c : Bool) → nest step k v (Accepted n i c) → n ≤ k
    nest_few k v n i c p =
        let x = last_value opened (λ b. inside step b k) v n i c p in
        inside_few x.0 k _ n x.2 x.4 x.6

    module _ {R E S : Type 0} (k : ℕ) where
      -- each call begins again
      abbrev pub nests : Meaning P ℕ R E ℕ S
      nests = stateless (nest step k) ⊥ (Unit {0}) AddsNothing any_error

      pub nests_is_meaning : (fresh valid : S → Type 0) → IsMeaning fresh valid nests
      nests_is_meaning fresh valid = stateless_is_meaning fresh valid (nest step k) ⊥ (Unit {0}) AddsNothing any_error (nest_is_reading k)

      pub nests_means_one : (valid : S → Type 0) → MeansOne valid nests
      nests_means_one valid = stateless_means_one valid (nest step k) ⊥ (Unit {0}) AddsNothing any_error (single_after k (λ b. inside_is_single b k))
