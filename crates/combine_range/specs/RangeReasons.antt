-- what the errors of the refusals of range parsers are
use Rattle.std.specs.Prelude.{ℕ, zero, suc, ◌<◌, ◌≡◌, ◌⊎◌, List, Bool, true, false}
use Rattle.std.proofs.Common.{arith, inl, inr, sym, subst}
use Rattle.combine_base.specs.Stream.View.{View, advanced}
use Rattle.combine_base.specs.Error.Errors.{Observers, New, Only}
use Rattle.combine_base.specs.Error.Items.{end_of_input}
use Rattle.combine_base.specs.Parser.Meaning.{Refusing, SameReasons}
use Rattle.combine_base.specs.Refusals.{HasItems}
use Rattle.combine_base.specs.declared.stream.Kind.TheVariants as kinds
use Rattle.combine_token.specs.Token.TokenReasons.{refuses_one}
use Rattle.combine_stream.specs.Range.Ranges.{IsItemPlace, EndsInsideToken, Longest, place_at_zero}
use Rattle.combine_range.specs.Range.Lengths.{UnfitLength, Short, Split, Differs, No, Other}
use Rattle.combine_range.specs.Range.UntilRange.{NoneAhead}
use Rattle.combine_range.specs.WantedRanges.{Wanted}

-- no items end inside no token
pub none_inside : {T : Type 0} (size : T → ℕ) (us : List T) (d : ℕ) → d ≡ 0 → EndsInsideToken size us d → ⊥
none_inside size us d e h = h.none 0 (record { within = omega arith; items = sym e })

module _ {T R P E : Type 0} (s : Observers T R P E) where
  module _ {Q : Type 0} (size : T → ℕ) (spells : Q → List T → Type 0) where
    -- of too few items the error says that the input ended; where the items end inside a token it says nothing
    abbrev pub length_says : P → (n : ℕ) (v : View P T) → UnfitLength size spells n v → E → Type 0
    length_says place n v (Short few ended) e = HasItems s kinds.End place (Only end_of_input) e
    length_says place n v (Split inside) e = New s kinds.Refused place e

    -- The first n items are no range: refused peeked, where they begin, with an error that is made there.
    pub record RefusesLength (n : ℕ) (v w : View P T) (committed : Bool) (e : E) : Type 0 where
      pub peeked : committed ≡ false
      pub back : w ≡ v
      pub unfit : UnfitLength size spells n v
      pub says : length_says v.position n v unfit e

    -- of another range the error says nothing
    abbrev pub differs_says : (w : Wanted Q) (v : View P T) → Differs size spells w v → E → Type 0
    differs_says w v (No u) e = length_says v.position w.items v u e
    differs_says w v (Other q k p t) e = New s kinds.Refused v.position e

    -- The first items aren't a wanted range: refused peeked, with what was read put back, and an error that is made where they begin.
    pub record RefusesDiffering (wanted : Wanted Q) (v w : View P T) (committed : Bool) (e : E) : Type 0 where
      pub peeked : committed ≡ false
      pub back : w ≡ v
      pub differs : Differs size spells wanted v
      pub says : differs_says wanted v differs e

    -- A wanted range stands nowhere behind d items, and the input has ended: refused peeked, with an error that says so and is made where the call began.
    pub record RefusesMissing (wanted : Wanted Q) (d : ℕ) (v w : View P T) (committed : Bool) (e : E) : Type 0 where
      pub peeked : committed ≡ false
      pub missing : NoneAhead size spells wanted d v
      pub ended : v.is_open ≡ false
      pub says : HasItems s kinds.End v.position (Only end_of_input) e

  -- An empty beginning, where none may be: refused peeked, where it stands, with an error that is made there and says that the input ended where nothing is left.
  pub record RefusesEmpty (f : T → Bool → Type 0) (d : ℕ) (v w : View P T) (committed : Bool) (e : E) : Type 0 where
    pub peeked : committed ≡ false
    pub back : w ≡ v
    pub first : d ≡ 0
    pub longest : Longest f v.unread 0
    pub says : refuses_one s v.position v.unread e

  -- the errors of an empty beginning, where it is refused
  abbrev pub refuses_beginning : (T → Bool → Type 0) → Bool → ℕ → Refusing P T E
  refuses_beginning f false d v w committed e = ⊥
  refuses_beginning f true d v w committed e = RefusesEmpty f d v w committed e

  module _ (size : T → ℕ) where
    -- The d items that were kept end inside a token, as no call keeps them: refused peeked, where they begin, with an error that is made there.
    pub record RefusesInside (d : ℕ) (v w : View P T) (committed : Bool) (e : E) : Type 0 where
      pub peeked : committed ≡ false
      pub back : w ≡ v
      pub inside : EndsInsideToken size v.unread d
      pub says : New s kinds.Refused v.position e

    abbrev pub refuses_kept : (ℕ → Refusing P T E) → ℕ → Refusing P T E
    refuses_kept own zero v w committed e = own 0 v w committed e
    refuses_kept own (suc n) v w committed e = own (suc n) v w committed e ⊎ RefusesInside (suc n) v w committed e

    -- The errors of a parser that keeps the distance read: its own, by what is passed over first; or that ends inside a token.
    pub record RefusesKept (own : ℕ → Refusing P T E) (d : ℕ) (v w : View P T) (committed : Bool) (e : E) : Type 0 where
      pub is : refuses_kept own d v w committed e

    module _ (step : P → T → P) where
      -- a part refuses so behind the distance that was read
      pub record RefusesPast (part : Refusing P T E) (d : ℕ) (v w : View P T) (committed : Bool) (e : E) : Type 0 where
        pub count : ℕ
        pub place : IsItemPlace size v.unread d count
        pub refuses : part (advanced step count v) w committed e

      -- The errors of a parser that goes on behind the distance that was read: those of its part there, which are handed on; or that distance ends inside a token.
      pub record RefusesResumed (part : Refusing P T E) (d : ℕ) (v w : View P T) (committed : Bool) (e : E) : Type 0 where
        pub is : RefusesPast part d v w committed e ⊎ RefusesInside d v w committed e

      resumed_into : (part part' : Refusing P T E) → ((v w : View P T) (k : Bool) (e : E) → part v w k e → part' v w k e) → (d : ℕ) (v w : View P T) (k : Bool) (e : E) → RefusesResumed part d v w k e → RefusesResumed part' d v w k e
      resumed_into part part' f d v w k e x = record { is = by_case x.is }
        where
          by_case : RefusesPast part d v w k e ⊎ RefusesInside d v w k e → RefusesPast part' d v w k e ⊎ RefusesInside d v w k e
          by_case (inl p) = inl (record { count = p.count; place = p.place; refuses = f (advanced step p.count v) w k e p.refuses })
          by_case (inr p) = inr p

      pub resumed_same : (part part' : Refusing P T E) → SameReasons part part' → (d : ℕ) → SameReasons (RefusesResumed part d) (RefusesResumed part' d)
      resumed_same part part' h d v w k e = (resumed_into part part' (λ v w k e. (h v w k e).0) d v w k e, resumed_into part' part (λ v w k e. (h v w k e).1) d v w k e)

      -- behind nothing, they are those of the part
      pub resumed_at_start : ((t : T) → 0 < size t) → (part whole : Refusing P T E) → SameReasons part whole → (d : ℕ) → d ≡ 0 → SameReasons (RefusesResumed part d) whole
      resumed_at_start filled part whole h d z v w k e = (λ x. by_case x.is, λ x. record { is = inl (record { count = 0; place = record { within = omega arith; items = sym z }; refuses = (h v w k e).1 x }) })
        where
          by_case : RefusesPast part d v w k e ⊎ RefusesInside d v w k e → whole v w k e
          by_case (inl p) = let c = place_at_zero size filled v.unread p.count (subst (λ n. IsItemPlace size v.unread n p.count) z p.place) in (h v w k e).0 (subst (λ n. part (advanced step n v) w k e) c p.refuses)
          by_case (inr p) = absurd (none_inside size v.unread d z p.inside)
