-- what stands before the first occurrence of a range, where d items are passed over first
use Rattle.std.specs.Prelude.{ℕ, ◌<◌, ◌≤◌, ◌≡◌, List, ◌++◌, Bool, true, false, take, drop, nat_lt, refl}
use Rattle.std.proofs.Common.{arith, sym, subst, ltb-false, inl, ⊎_elim}
use Rattle.std.proofs.lemmas.List.{take-append-le}
use Rattle.std.proofs.lemmas.Bool.{cases_lt}
use Rattle.combine_base.specs.Stream.View.{View, extended}
use Rattle.combine_base.specs.Parser.Outcome.{Outcome, Accepted, Refused, Undecided, IsDecided, shape}
use Rattle.combine_base.specs.Parser.Meaning.{Reading, IsReading, IsSingle}
use Rattle.combine_stream.specs.Range.Ranges.{IsItemPlace, EndsInsideToken, one_place, place_stays, inside_stays}
use Rattle.combine_range.specs.WantedRanges.{Wanted, Fair, IsFirstPlace, one_first}
use Rattle.combine_range.specs.RangeTests.{FailsTest, FirstTested, NoneTested, fails_test_later, first_tested_stays, first_of_tested, nowhere_of_tested}

module _ {P T R : Type 0} (size : T → ℕ) (spells : R → List T → Type 0) (w : Wanted R) where
  pub record StandsBeforeRange (d : ℕ) (v : View P T) (q : R) (k : ℕ) (c : Bool) : Type 0 where
    pub from : ℕ
    pub place : IsItemPlace size v.unread d from
    pub first : FirstTested size spells w from v.unread k
    pub spelled : spells q (take k v.unread)
    pub kind : c ≡ nat_lt 0 k

  pub record NoneAhead (d : ℕ) (v : View P T) : Type 0 where
    pub from : ℕ
    pub place : IsItemPlace size v.unread d from
    pub nowhere : NoneTested size spells w from v.unread

  pub data UnfitUntil (d : ℕ) (v : View P T) : Type 0 where
    -- none, and no more to come
    Absent : NoneAhead d v → v.is_open ≡ false → UnfitUntil d v
    -- the kept distance ends inside a token: no call keeps such a one
    Split : EndsInsideToken size v.unread d → UnfitUntil d v

  abbrev pub until_range : ℕ → Reading P T R
  until_range d v (Accepted q k c) = StandsBeforeRange d v q k c
  until_range d v (Refused c) = UnfitUntil d v × (c ≡ false)
  until_range d v Undecided = NoneAhead d v × (v.is_open ≡ true)

  module _ (filled : (t : T) → 0 < size t) where
    module _ (fair : Fair spells w.test) (d : ℕ) (v : View P T) where
      first : (b k : ℕ) → FirstTested size spells w b v.unread k → IsFirstPlace size spells w b v.unread k
      first b k p = first_of_tested size spells w filled fair b v.unread k p

      not_both : (q : R) (k : ℕ) (c : Bool) → StandsBeforeRange d v q k c → NoneAhead d v → ⊥
      not_both q k c p m =
          let e = one_place size filled v.unread d p.from m.from p.place m.place in
          (nowhere_of_tested size spells w filled fair m.from v.unread m.nowhere).none k (let a = p.first.later in omega arith) p.first.within p.first.begins

      not_unfit : (q : R) (k : ℕ) (c : Bool) → StandsBeforeRange d v q k c → UnfitUntil d v → ⊥
      not_unfit q k c p (Absent m e) = not_both q k c p m
      not_unfit q k c p (Split i) = i.none p.from p.place

      not_waits : UnfitUntil d v → NoneAhead d v → v.is_open ≡ true → ⊥
      not_waits (Absent m e) n o = cc
      not_waits (Split i) n o = i.none n.from n.place

      one_shape : (o o' : Outcome R) → until_range d v o → until_range d v o' → shape o ≡ shape o'
      one_shape (Accepted q k c) (Accepted p j e) x y =
          let z = one_place size filled v.unread d x.from y.from x.place y.place in
          let i = one_first size spells w y.from v.unread k j (subst (λ b. IsFirstPlace size spells w b v.unread k) z (first x.from k x.first)) (first y.from j y.first) in
          let a = x.kind in
          let b = y.kind in
          cc
      one_shape (Accepted q k c) (Refused e) x y = absurd (not_unfit q k c x y.0)
      one_shape (Accepted q k c) Undecided x y = absurd (not_both q k c x y.0)
      one_shape (Refused c) (Accepted p j e) x y = absurd (not_unfit p j e y x.0)
      one_shape (Refused c) (Refused e) x y = let a = x.1 in let b = y.1 in cc
      one_shape (Refused c) Undecided x y = absurd (not_waits x.0 y.0 y.1)
      one_shape Undecided (Accepted p j e) x y = absurd (not_both p j e y x.0)
      one_shape Undecided (Refused e) x y = absurd (not_waits y.0 x.0 x.1)
      one_shape Undecided Undecided x y = refl

    stays : (d : ℕ) (v : View P T) (x : List T) (m : Bool) (o : Outcome R) → v.is_open ≡ true → IsDecided o → until_range d v o → until_range d (extended x m v) o
    stays d v x m (Accepted q k c) e i p = record {
      from = p.from;
      place = place_stays size v.unread x d p.from p.place;
      first = first_tested_stays size spells w filled p.from v.unread x k p.first;
      spelled = subst (spells q) (sym (take-append-le k v.unread x p.first.within)) p.spelled;
      kind = p.kind;
    }
    stays d v x m (Refused c) e i p = (still p.0, p.1)
      where
        still : UnfitUntil d v → UnfitUntil d (extended x m v)
        still (Absent n z) = absurd (cc)
        still (Split a) = Split (inside_stays size filled v.unread x d a)
    stays d v x m Undecided e i p = absurd i

    pub until_range_is_reading : (d : ℕ) → IsReading (until_range d)
    until_range_is_reading d = record {
      ended = λ v e p. let a = p.1 in cc;
      stays = stays d;
      peeked = λ v q k p. let a = ltb-false 0 k (sym p.kind) in omega arith;
      within = λ v q k c p. p.first.within;
    }

    pub until_range_is_single : Fair spells w.test → (d : ℕ) → IsSingle (until_range d)
    until_range_is_single fair d = record { one = one_shape fair d }

    -- at each place between two distances another range was seen
    pub record FailsBetween (d e : ℕ) (v : View P T) : Type 0 where
      pub from : ℕ
      pub to : ℕ
      pub start : IsItemPlace size v.unread d from
      pub place : IsItemPlace size v.unread e to
      pub rises : from ≤ to
      pub fails : (j : ℕ) → from ≤ j → j < to → FailsTest size spells w (drop j v.unread)

    -- what goes on from the second goes on from the first
    pub until_resumes : (d e : ℕ) (v : View P T) → FailsBetween d e v → (x : List T) (b : Bool) (o : Outcome R) → until_range e (extended x b v) o → until_range d (extended x b v) o
    until_resumes d e v z x b o p = going o p
      where
        us : List T
        us = v.unread ++ x

        there : (n : ℕ) → IsItemPlace size (v.unread ++ x) e n → n ≡ z.to
        there n q = one_place size filled (v.unread ++ x) e n z.to q (place_stays size v.unread x e z.to z.place)

        passed : (j : ℕ) → z.from ≤ j → j < z.to → FailsTest size spells w (drop j (v.unread ++ x))
        passed j l h = fails_test_later size spells w filled v.unread x j (let a = z.place.within in omega arith) (z.fails j l h)

        -- before or behind the second place
        at : {A : Type 0} → (j : ℕ) → (j < z.to → A) → (z.to ≤ j → A) → A
        at j g h = ⊎_elim g h (cases_lt j z.to)

        first : (n k : ℕ) → n ≡ z.to → FirstTested size spells w n (v.unread ++ x) k → FirstTested size spells w z.from (v.unread ++ x) k
        first n k i q = record {
          later = let a = q.later in let c = z.rises in omega arith;
          within = q.within;
          begins = q.begins;
          fails = λ j l h. at j (passed j l) (λ y. q.fails j (omega arith) h);
        }

        missing : NoneAhead e (extended x b v) → NoneAhead d (extended x b v)
        missing q = record {
          from = z.from;
          place = place_stays size v.unread x d z.from z.start;
          nowhere = record { fails = λ j l h. at j (λ y. inl (passed j l y)) (λ y. q.nowhere.fails j (let i = there q.from q.place in omega arith) h) };
        }

        refusing : UnfitUntil e (extended x b v) → UnfitUntil d (extended x b v)
        refusing (Absent m c) = Absent (missing m) c
        refusing (Split i) = absurd (i.none z.to (place_stays size v.unread x e z.to z.place))

        going : (o : Outcome R) → until_range e (extended x b v) o → until_range d (extended x b v) o
        going (Accepted q k c) p = record {
          from = z.from;
          place = place_stays size v.unread x d z.from z.start;
          first = first p.from k (there p.from p.place) p.first;
          spelled = p.spelled;
          kind = p.kind;
        }
        going (Refused c) p = (refusing p.0, p.1)
        going Undecided p = (missing p.0, p.1)
