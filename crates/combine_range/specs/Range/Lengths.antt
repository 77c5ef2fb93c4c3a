-- the first so many items as a range
use Rattle.std.specs.Prelude.{ℕ, ◌<◌, ◌≡◌, List, Bool, true, false, take, nat_lt, refl}
use Rattle.std.proofs.Common.{arith, sym, subst, ltb-false}
use Rattle.std.proofs.lemmas.List.{take-append-le}
use Rattle.combine_base.specs.Stream.View.{View, extended}
use Rattle.combine_base.specs.Parser.Outcome.{Outcome, Accepted, Refused, Undecided, IsDecided, shape}
use Rattle.combine_base.specs.Parser.Meaning.{Reading, IsReading, IsSingle}
use Rattle.combine_stream.specs.Range.Ranges.{size_of, IsItemPlace, EndsInsideToken, one_place, place_at_zero, place_stays, place_within, inside_stays}
use Rattle.combine_range.specs.WantedRanges.{Wanted, Fair}

module _ {P T R : Type 0} (size : T → ℕ) (spells : R → List T → Type 0) where
  -- the first n items are the first k tokens, and this is their range
  pub record IsFirstRange (n : ℕ) (v : View P T) (q : R) (k : ℕ) : Type 0 where
    pub place : IsItemPlace size v.unread n k
    pub spelled : spells q (take k v.unread)

  -- the first n items are no range, whatever follows: they are too few, or end inside a token
  pub data UnfitLength (n : ℕ) (v : View P T) : Type 0 where
    Short : size_of size v.unread < n → v.is_open ≡ false → UnfitLength n v
    Split : EndsInsideToken size v.unread n → UnfitLength n v

  -- they are still too few
  pub record WaitsForLength (n : ℕ) (v : View P T) : Type 0 where
    pub short : size_of size v.unread < n
    pub is_open : v.is_open ≡ true

  -- the first n items: accepted committed exactly if n isn't 0
  abbrev pub taking : ℕ → Reading P T R
  taking n v (Accepted q k c) = IsFirstRange n v q k × (c ≡ nat_lt 0 n)
  taking n v (Refused c) = UnfitLength n v × (c ≡ false)
  taking n v Undecided = WaitsForLength n v

  -- as many first items as are wanted, and then whether they are those: always accepted committed
  pub data Differs (w : Wanted R) (v : View P T) : Type 0 where
    No : UnfitLength w.items v → Differs w v
    Other : (q : R) (k : ℕ) → IsFirstRange w.items v q k → w.test q ≡ false → Differs w v

  abbrev pub matching_range : Wanted R → Reading P T R
  matching_range w v (Accepted q k c) = IsFirstRange w.items v q k × (w.test q ≡ true) × (c ≡ true)
  matching_range w v (Refused c) = Differs w v × (c ≡ false)
  matching_range w v Undecided = WaitsForLength w.items v

  module _ (filled : (t : T) → 0 < size t) where
    first_stays : (n : ℕ) (v : View P T) (x : List T) (m : Bool) (q : R) (k : ℕ) → IsFirstRange n v q k → IsFirstRange n (extended x m v) q k
    first_stays n v x m q k p = record {
      place = place_stays size v.unread x n k p.place;
      spelled = subst (spells q) (sym (take-append-le k v.unread x p.place.within)) p.spelled;
    }

    unfit_stays : (n : ℕ) (v : View P T) (x : List T) (m : Bool) → v.is_open ≡ true → UnfitLength n v → UnfitLength n (extended x m v)
    unfit_stays n v x m e (Short a b) = absurd (cc)
    unfit_stays n v x m e (Split a) = Split (inside_stays size filled v.unread x n a)

    differs_stays : (w : Wanted R) (v : View P T) (x : List T) (m : Bool) → v.is_open ≡ true → Differs w v → Differs w (extended x m v)
    differs_stays w v x m e (No u) = No (unfit_stays w.items v x m e u)
    differs_stays w v x m e (Other q k p t) = Other q k (first_stays w.items v x m q k p) t

    taking_stays : (n : ℕ) (v : View P T) (x : List T) (m : Bool) (o : Outcome R) → v.is_open ≡ true → IsDecided o → taking n v o → taking n (extended x m v) o
    taking_stays n v x m (Accepted q k c) e d p = (first_stays n v x m q k p.0, p.1)
    taking_stays n v x m (Refused c) e d p = (unfit_stays n v x m e p.0, p.1)
    taking_stays n v x m Undecided e d p = absurd d

    matching_stays : (w : Wanted R) (v : View P T) (x : List T) (m : Bool) (o : Outcome R) → v.is_open ≡ true → IsDecided o → matching_range w v o → matching_range w (extended x m v) o
    matching_stays w v x m (Accepted q k c) e d p = (first_stays w.items v x m q k p.0, p.1, p.2)
    matching_stays w v x m (Refused c) e d p = (differs_stays w v x m e p.0, p.1)
    matching_stays w v x m Undecided e d p = absurd d

    pub taking_is_reading : (n : ℕ) → IsReading (taking n)
    taking_is_reading n = record {
      ended = λ v e p. let a = p.is_open in cc;
      stays = taking_stays n;
      peeked = λ v q k p. let z : n ≡ 0 = let a = ltb-false 0 n (sym p.1) in omega arith in place_at_zero size filled v.unread k (subst (λ i. IsItemPlace size v.unread i k) z p.0.place);
      within = λ v q k c p. p.0.place.within;
    }

    pub matching_range_is_reading : (w : Wanted R) → IsReading (matching_range w)
    matching_range_is_reading w = record {
      ended = λ v e p. let a = p.is_open in cc;
      stays = matching_stays w;
      peeked = λ v q k p. absurd (let a = p.2 in cc);
      within = λ v q k c p. p.0.place.within;
    }

    module _ (n : ℕ) (v : View P T) where
      not_unfit : (q : R) (k : ℕ) → IsFirstRange n v q k → UnfitLength n v → ⊥
      not_unfit q k p (Short a b) = let c = place_within size v.unread n k p.place in omega arith
      not_unfit q k p (Split a) = a.none k p.place

      not_waits : (q : R) (k : ℕ) → IsFirstRange n v q k → WaitsForLength n v → ⊥
      not_waits q k p w = let a = w.short in let c = place_within size v.unread n k p.place in omega arith

      never_both : UnfitLength n v → WaitsForLength n v → ⊥
      never_both (Short a b) w = let c = w.is_open in cc
      never_both (Split a) w = let b = w.short in let c = a.enough in omega arith

    taking_one : (n : ℕ) (v : View P T) (o o' : Outcome R) → taking n v o → taking n v o' → shape o ≡ shape o'
    taking_one n v (Accepted q k c) (Accepted p j e) x y = let z = one_place size filled v.unread n k j x.0.place y.0.place in let a = x.1 in let b = y.1 in cc
    taking_one n v (Accepted q k c) (Refused e) x y = absurd (not_unfit n v q k x.0 y.0)
    taking_one n v (Accepted q k c) Undecided x y = absurd (not_waits n v q k x.0 y)
    taking_one n v (Refused c) (Accepted p j e) x y = absurd (not_unfit n v p j y.0 x.0)
    taking_one n v (Refused c) (Refused e) x y = let a = x.1 in let b = y.1 in cc
    taking_one n v (Refused c) Undecided x y = absurd (never_both n v x.0 y)
    taking_one n v Undecided (Accepted p j e) x y = absurd (not_waits n v p j y.0 x)
    taking_one n v Undecided (Refused e) x y = absurd (never_both n v y.0 x)
    taking_one n v Undecided Undecided x y = refl

    pub taking_is_single : (n : ℕ) → IsSingle (taking n)
    taking_is_single n = record { one = taking_one n }

    module _ (w : Wanted R) (fair : Fair spells w.test) (v : View P T) where
      same_test : (q p : R) (k j : ℕ) → IsFirstRange w.items v q k → IsFirstRange w.items v p j → w.test q ≡ w.test p
      same_test q p k j a b =
          let e = one_place size filled v.unread w.items k j a.place b.place in
          fair q p (take j v.unread) (subst (λ i. spells q (take i v.unread)) e a.spelled) b.spelled

      not_differs : (q : R) (k : ℕ) → IsFirstRange w.items v q k → w.test q ≡ true → Differs w v → ⊥
      not_differs q k p t (No u) = not_unfit w.items v q k p u
      not_differs q k p t (Other r j y f) = let a = same_test q r k j p y in cc

      not_waiting : Differs w v → WaitsForLength w.items v → ⊥
      not_waiting (No u) y = never_both w.items v u y
      not_waiting (Other q k p t) y = not_waits w.items v q k p y

      matching_one : (o o' : Outcome R) → matching_range w v o → matching_range w v o' → shape o ≡ shape o'
      matching_one (Accepted q k c) (Accepted p j e) x y = let z = one_place size filled v.unread w.items k j x.0.place y.0.place in let a = x.2 in let b = y.2 in cc
      matching_one (Accepted q k c) (Refused e) x y = absurd (not_differs q k x.0 x.1 y.0)
      matching_one (Accepted q k c) Undecided x y = absurd (not_waits w.items v q k x.0 y)
      matching_one (Refused c) (Accepted p j e) x y = absurd (not_differs p j y.0 y.1 x.0)
      matching_one (Refused c) (Refused e) x y = let a = x.1 in let b = y.1 in cc
      matching_one (Refused c) Undecided x y = absurd (not_waiting x.0 y)
      matching_one Undecided (Accepted p j e) x y = absurd (not_waits w.items v p j y.0 x)
      matching_one Undecided (Refused e) x y = absurd (not_waiting y.0 x)
      matching_one Undecided Undecided x y = refl

    pub matching_range_is_single : (w : Wanted R) → Fair spells w.test → IsSingle (matching_range w)
    matching_range_is_single w fair = record { one = matching_one w fair }
