-- ranges of tokens, which are measured in items, what the calls of a stream that hands them out promise, and facts on measured lists
use Rattle.std.specs.Prelude.{ℕ, zero, suc, ◌+◌, ◌<◌, ◌≤◌, ◌≡◌, List, [], ◌∷◌, Bool, true, false, take, length, Result, Ok, Err, ◌++◌, drop, refl}
use Rattle.combine_base.specs.Stream.View.{View, Takes}
use Rattle.combine_base.specs.Predicates.{IsPredicate}
use Rattle.combine_base.specs.declared.stream.Kind.{Kind}
use Rattle.combine_base.specs.declared.stream.Kind.TheVariants as kinds
use Rattle.combine_base.specs.declared.stream.Failures.{Failures}
use Rattle.std.proofs.Common.{arith, ap, sym, ◌∙◌}
use Rattle.std.proofs.lemmas.List.{take_all, take-append-drop, take-append-le, length-append}

-- how many items these tokens are
abbrev pub size_of : {Token : Type 0} → (Token → ℕ) → List Token → ℕ
size_of size [] = 0
size_of size (t ∷ ts) = size t + size_of size ts

-- the first n items are the first k tokens
pub record IsItemPlace {Token : Type 0} (size : Token → ℕ) (us : List Token) (n k : ℕ) : Type 0 where
  pub within : k ≤ length us
  pub items : size_of size (take k us) ≡ n

-- the longest beginning under a test, which is known by its relation, is the first k tokens
abbrev pub Longest : {Token : Type 0} → (Token → Bool → Type 0) → List Token → ℕ → Type 0
Longest f [] k = k ≡ 0
Longest f (t ∷ ts) zero = f t false
Longest f (t ∷ ts) (suc k) = f t true × Longest f ts k

-- the longest beginning under a test is the first n items
pub record LongestItems {Token : Type 0} (size : Token → ℕ) (f : Token → Bool → Type 0) (us : List Token) (n : ℕ) : Type 0 where
  pub count : ℕ
  pub longest : Longest f us count
  pub place : IsItemPlace size us n count

-- the first n items end inside a token
pub record EndsInsideToken {Token : Type 0} (size : Token → ℕ) (us : List Token) (n : ℕ) : Type 0 where
  pub enough : n ≤ size_of size us
  pub none : (k : ℕ) → IsItemPlace size us n k → ⊥

module _ {Position Token Range : Type 0} (counts_failures : Type 0) (step : Position → Token → Position) (size : Token → ℕ) (spells : Range → List Token → Type 0) (old new : View Position Token) (before after : Failures) where
  -- the first k tokens are taken, and handed out as a range
  pub record TakesRange (r : Range) (k : ℕ) : Type 0 where
    pub taken : Takes step k old new
    pub spelled : spells r (take k old.unread)
    pub failures : counts_failures → after ≡ before

  -- nothing is taken
  pub record TakesNoItem : Type 0 where
    pub same : new ≡ old
    pub failures : counts_failures → after ≡ before

  -- a read that failed, and may have taken tokens
  pub record FailsRead : Type 0 where
    pub count : ℕ
    pub taken : Takes step count old new
    pub rose : before.reads < after.reads

  abbrev pub no_range : ℕ → Kind → Type 0
  no_range n kinds.End = (size_of size old.unread < n) × TakesNoItem
  no_range n kinds.Refused = EndsInsideToken size old.unread n × TakesNoItem
  no_range n kinds.Read = FailsRead
  no_range n kinds.Memory = ⊥
  no_range n kinds.Reset = ⊥
  no_range n kinds.Lost = ⊥

  abbrev pub unconses_range : ℕ → Result Range Kind → Type 0
  unconses_range n (Ok r) = (k : ℕ) × IsItemPlace size old.unread n k × TakesRange r k
  unconses_range n (Err k) = no_range n k

  pub record UnconsRange (n : ℕ) (result : Result Range Kind) : Type 0 where
    pub is : unconses_range n result

  abbrev pub unconses_while : (Token → Bool → Type 0) → Result Range Kind → Type 0
  unconses_while f (Ok r) = (k : ℕ) × Longest f old.unread k × TakesRange r k
  unconses_while f (Err k) = (k ≡ kinds.Read) × FailsRead

  pub record UnconsWhile (f : Token → Bool → Type 0) (result : Result Range Kind) : Type 0 where
    pub is : unconses_while f result

module _ {T : Type 0} (size : T → ℕ) where
  pub size_append : (xs ys : List T) → size_of size (xs ++ ys) ≡ size_of size xs + size_of size ys
  size_append [] ys = omega arith
  size_append (x ∷ xs) ys = let e = size_append xs ys in omega arith

  pub size_take : (k : ℕ) (us : List T) → size_of size us ≡ size_of size (take k us) + size_of size (drop k us)
  size_take k us = ap (size_of size) (sym (take-append-drop k us)) ∙ size_append (take k us) (drop k us)

  module _ (filled : (t : T) → 0 < size t) where
    -- fewer tokens are fewer items
    pub size_rises : (us : List T) (j k : ℕ) → j < k → k ≤ length us → size_of size (take j us) < size_of size (take k us)
    size_rises [] j k h l = absurd (omega arith)
    size_rises (t ∷ us) zero zero h l = absurd (omega arith)
    size_rises (t ∷ us) zero (suc k) h l = let a = filled t in omega arith
    size_rises (t ∷ us) (suc j) zero h l = absurd (omega arith)
    size_rises (t ∷ us) (suc j) (suc k) h l = let a = size_rises us j k (omega arith) (omega arith) in omega arith

    pub one_place : (us : List T) (n j k : ℕ) → IsItemPlace size us n j → IsItemPlace size us n k → j ≡ k
    one_place us n j k p q =
        let a = size_rises us j k in
        let b = size_rises us k j in
        let c = p.items in
        let d = q.items in
        let e = p.within in
        let f = q.within in
        by_order (not_less j k p q) (not_less k j q p)
      where
        not_less : (j k : ℕ) → IsItemPlace size us n j → IsItemPlace size us n k → j < k → ⊥
        not_less j k p q h = let a = size_rises us j k h q.within in let c = p.items in let d = q.items in omega arith

        by_order : (j < k → ⊥) → (k < j → ⊥) → j ≡ k
        by_order x y = omega arith

  pub place_within : (us : List T) (n k : ℕ) → IsItemPlace size us n k → n ≤ size_of size us
  place_within us n k p = let a = p.items in let b = size_take k us in omega arith

  pub no_tokens_of_no_items : ((t : T) → 0 < size t) → (us : List T) → size_of size us ≡ 0 → us ≡ []
  no_tokens_of_no_items filled [] e = refl
  no_tokens_of_no_items filled (t ∷ us) e = absurd (let a = filled t in omega arith)

  -- a place stays one, whatever follows
  pub place_stays : (us x : List T) (n k : ℕ) → IsItemPlace size us n k → IsItemPlace size (us ++ x) n k
  place_stays us x n k p = record {
    within = let a = p.within in let b = length-append us x in omega arith;
    items = ap (size_of size) (take-append-le k us x p.within) ∙ p.items;
  }

  pub take_stays : (us x : List T) (n k : ℕ) → IsItemPlace size us n k → take k (us ++ x) ≡ take k us
  take_stays us x n k p = take-append-le k us x p.within

  module _ (filled : (t : T) → 0 < size t) where
    -- there is no more room inside a token, whatever follows
    pub inside_stays : (us x : List T) (n : ℕ) → EndsInsideToken size us n → EndsInsideToken size (us ++ x) n
    inside_stays us x n p = record {
      enough = let a = p.enough in let b = size_append us x in omega arith;
      none = λ k q. p.none k (record {
        within = short k q;
        items = sym (ap (size_of size) (take-append-le k us x (short k q))) ∙ q.items;
      });
    }
      where
        whole : take (length us) (us ++ x) ≡ us
        whole = take-append-le (length us) us x (omega arith) ∙ take_all (length us) us (omega arith)

        not_past : (k : ℕ) → IsItemPlace size (us ++ x) n k → length us < k → ⊥
        not_past k q h =
            let a = size_rises filled (us ++ x) (length us) k h q.within in
            let b = ap (size_of size) whole in
            let c = q.items in
            let d = p.enough in
            omega arith

        short : (k : ℕ) → IsItemPlace size (us ++ x) n k → k ≤ length us
        short k q = let a = not_past k q in by_order a
          where
            by_order : (length us < k → ⊥) → k ≤ length us
            by_order a = omega arith

    pub place_at_zero : (us : List T) (k : ℕ) → IsItemPlace size us 0 k → k ≡ 0
    place_at_zero us k p = one_place filled us 0 k 0 p (record { within = omega arith; items = refl })

module _ {T : Type 0} (f : T → Bool → Type 0) where
  pub longest_within : (us : List T) (k : ℕ) → Longest f us k → k ≤ length us
  longest_within [] k p = omega arith
  longest_within (t ∷ us) zero p = omega arith
  longest_within (t ∷ us) (suc k) p = let a = longest_within us k p.1 in omega arith

  pub one_longest : IsPredicate f → (us : List T) (j k : ℕ) → Longest f us j → Longest f us k → j ≡ k
  one_longest h [] j k p q = p ∙ sym q
  one_longest h (t ∷ us) zero zero p q = refl
  one_longest h (t ∷ us) zero (suc k) p q = absurd (h.one t q.0 p)
  one_longest h (t ∷ us) (suc j) zero p q = absurd (h.one t p.0 q)
  one_longest h (t ∷ us) (suc j) (suc k) p q = ap suc (one_longest h us j k p.1 q.1)

  -- where it ends before the end, it stays, whatever follows
  pub longest_stays : (us x : List T) (k : ℕ) → k < length us → Longest f us k → Longest f (us ++ x) k
  longest_stays [] x k h p = absurd (omega arith)
  longest_stays (t ∷ us) x zero h p = p
  longest_stays (t ∷ us) x (suc k) h p = (p.0, longest_stays us x k (omega arith) p.1)
