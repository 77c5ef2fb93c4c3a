-- places where a wanted range stands, and what a fair test of ranges says of the tokens
use Rattle.std.specs.Prelude.{ℕ, ◌-◌, ◌+◌, ◌<◌, ◌≤◌, ◌≡◌, List, ◌++◌, Bool, true, take, drop, length}
use Rattle.std.proofs.Common.{arith, ap, sym, subst, ◌∙◌}
use Rattle.std.proofs.lemmas.List.{take-append-le, drop-append-le, drop-drop, take_all, length-append}
use Rattle.combine_stream.specs.Range.Ranges.{size_of, IsItemPlace, size_rises, size_take, place_within, place_stays, take_stays}
use Rattle.std.specs.Cmp.Lexicographic.{pointwise}

-- what is asked of a range: its number of items, and a test
pub record Wanted (Range : Type 0) : Type 0 where
  pub items : ℕ
  pub test : Range → Bool

-- the items of a given range, by a test for equality with it
abbrev pub equal_range : {R : Type 0} → (R → ℕ) → (R → R → Bool) → R → Wanted R
equal_range count eq r = record { items = count r; test = λ q. eq q r }

-- the test sees no more than the tokens
abbrev pub Fair : {T R : Type 0} → (R → List T → Type 0) → (R → Bool) → Type 0
Fair {T = T} {R = R} spells test = (r q : R) (ts : List T) → spells r ts → spells q ts → test r ≡ test q

-- fewer items are left later
pub fewer_later : {T : Type 0} (size : T → ℕ) (j i : ℕ) (us : List T) → j ≤ i → size_of size (drop i us) ≤ size_of size (drop j us)
fewer_later size j i us h =
    let e : drop (i - j) (drop j us) ≡ drop i us = drop-drop (i - j) j us ∙ ap (λ n. drop n us) {x = j + (i - j)} {y = i} (omega arith) in
    let a = size_take size (i - j) (drop j us) in
    let b = ap (size_of size) e in
    omega arith

module _ {T R : Type 0} (size : T → ℕ) (spells : R → List T → Type 0) (w : Wanted R) where
  -- a wanted range is the beginning of these tokens
  pub record BeginsWithWanted (us : List T) : Type 0 where
    pub range : R
    pub count : ℕ
    pub place : IsItemPlace size us w.items count
    pub spelled : spells range (take count us)
    pub wanted : w.test range ≡ true

  -- k is the first place from b on where one begins
  pub record IsFirstPlace (b : ℕ) (us : List T) (k : ℕ) : Type 0 where
    pub later : b ≤ k
    pub within : k ≤ length us
    pub begins : BeginsWithWanted (drop k us)
    pub none : (j : ℕ) → b ≤ j → j < k → BeginsWithWanted (drop j us) → ⊥

  -- none begins from b on
  pub record BeginsNowhere (b : ℕ) (us : List T) : Type 0 where
    pub none : (j : ℕ) → b ≤ j → j ≤ length us → BeginsWithWanted (drop j us) → ⊥

  pub begins_stays : (us x : List T) → BeginsWithWanted us → BeginsWithWanted (us ++ x)
  begins_stays us x b = record {
    range = b.range;
    count = b.count;
    place = place_stays size us x w.items b.count b.place;
    spelled = subst (spells b.range) (sym (take_stays size us x w.items b.count b.place)) b.spelled;
    wanted = b.wanted;
  }

  module _ (filled : (t : T) → 0 < size t) where
    -- where enough items stand, what follows changes nothing
    pub begins_without_more : (us x : List T) → w.items ≤ size_of size us → BeginsWithWanted (us ++ x) → BeginsWithWanted us
    begins_without_more us x h b =
        let k : b.count ≤ length us = by_order (λ z. let a = size_rises size filled (us ++ x) (length us) b.count z b.place.within in let d = ap (size_of size) (whole us x) in let e = b.place.items in omega arith) in
        record {
          range = b.range;
          count = b.count;
          place = record { within = k; items = sym (ap (size_of size) (take-append-le b.count us x k)) ∙ b.place.items };
          spelled = subst (spells b.range) (take-append-le b.count us x k) b.spelled;
          wanted = b.wanted;
        }
      where
        whole : (us x : List T) → take (length us) (us ++ x) ≡ us
        whole us x = take-append-le (length us) us x (omega arith) ∙ take_all (length us) us (omega arith)

        by_order : {n m : ℕ} → (m < n → ⊥) → n ≤ m
        by_order d = omega arith

    -- what a place with enough items after it was found not to begin with, it doesn't begin with later
    pub not_later : (us x : List T) (j : ℕ) → j ≤ length us → w.items ≤ size_of size (drop j us) → (BeginsWithWanted (drop j us) → ⊥) → BeginsWithWanted (drop j (us ++ x)) → ⊥
    not_later us x j l e n b = n (begins_without_more (drop j us) x e (subst BeginsWithWanted (drop-append-le j us x l) b))

    pub first_stays : (b : ℕ) (us x : List T) (k : ℕ) → IsFirstPlace b us k → IsFirstPlace b (us ++ x) k
    first_stays b us x k p = record {
      later = p.later;
      within = let a = p.within in let b = length-append us x in omega arith;
      begins = subst BeginsWithWanted (sym (drop-append-le k us x p.within)) (begins_stays (drop k us) x p.begins);
      none = λ j g h. not_later us x j (let a = p.within in omega arith) (longer j k us (omega arith) (place_within size (drop k us) w.items p.begins.count p.begins.place)) (p.none j g h);
    }
      where
        longer : (j i : ℕ) (us : List T) → j ≤ i → w.items ≤ size_of size (drop i us) → w.items ≤ size_of size (drop j us)
        longer j i us h k = let a = fewer_later size j i us h in omega arith

  pub one_first : (b : ℕ) (us : List T) (i j : ℕ) → IsFirstPlace b us i → IsFirstPlace b us j → i ≡ j
  one_first b us i j p q = by_order (λ z. q.none i p.later z p.begins) (λ z. p.none j q.later z q.begins)
    where
      by_order : (i < j → ⊥) → (j < i → ⊥) → i ≡ j
      by_order a b = omega arith

-- the tokens begin with some that equal those, pair by pair
abbrev pub begins_equal : {T : Type 0} → (T → T → Bool) → List T → List T → Type 0
begins_equal E ws us = pointwise E (take (length ws) us) ws ≡ true
