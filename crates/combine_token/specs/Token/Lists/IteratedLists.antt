-- the items that clones of a value give, one after another
use Rattle.std.specs.Prelude.{ℕ, zero, suc, ◌≡◌, ◌<◌, ◌^◌, ◌⊎◌, List, [], ◌∷◌, length, Bool, Option, Some, None, refl}
use Rattle.std.proofs.Common.{arith, ap, inl, inr}
use Rattle.std.proofs.lemmas.Bool.{cases_order}
use Rattle.std.specs.Iterator.{Yields, Count, IsFinite, size}
use Rattle.combine_token.specs.Token.Lists.TokenLists.{TokenList, ListEndsOnce}

module _ {I A : Type 0} (steps : I → Option A → I → Type 0) where
  -- calls gave k items
  pub record Gave (k : ℕ) (from now : I) : Type 0 where
    pub items : List A
    pub yields : Yields steps from items now
    pub long : length items ≡ k

  -- calls gave k items, and then no more
  pub record GaveAll (k : ℕ) (from : I) : Type 0 where
    pub last : I
    pub end : I
    pub gave : Gave k from last
    pub none : steps last None end

module _ {L I A : Type 0} (clones : L → L → Type 0) (makes : L → I → Type 0) (steps : I → Option A → I → Type 0) (list : L) where
  -- an iterator of a clone of the list, after k items
  pub record IsIteratorAfter (k : ℕ) (now : I) : Type 0 where
    pub clone : L
    pub is_clone : clones list clone
    pub start : I
    pub made : makes clone start
    pub gave : Gave steps k start now

  -- an item that stands at place k
  pub record IsItemAt (k : ℕ) (x : A) : Type 0 where
    pub before : I
    pub after : I
    pub reached : IsIteratorAfter k before
    pub gives : steps before (Some x) after

  -- the list ends after k items
  pub record EndsAfter (k : ℕ) : Type 0 where
    pub before : I
    pub after : I
    pub reached : IsIteratorAfter k before
    pub gives : steps before None after

  abbrev pub iterated_tokens : {T : Type 0} → (A → T → Bool → Type 0) → TokenList T
  iterated_tokens compares = record {
    fits = λ k t b. (x : A) × IsItemAt k x × compares x t b;
    has = λ k. (x : A) × IsItemAt k x;
    ends = EndsAfter;
  }

  -- what is asked of the list: an iterator of each clone may be called, ends before 2 ^ 64 items, and gives as many as that of every other
  pub record IsIterated (can_next : I → Type 0) (remaining : I → Count) : Type 0 where
    pub ready : (clone : L) (start : I) → clones list clone → makes clone start → can_next start × IsFinite (remaining start) × (size (remaining start) < 2 ^ 64)
    pub same : (k m : ℕ) (x : A) → IsItemAt k x → EndsAfter m → k < m

module _ {I A : Type 0} (steps : I → Option A → I → Type 0) where
  -- what calls gave at one of their places
  pub record GaveAt (k : ℕ) (from : I) : Type 0 where
    pub item : A
    pub before : I
    pub after : I
    pub gave : Gave steps k from before
    pub gives : steps before (Some item) after

  gave_at : (k : ℕ) (xs : List A) (s t : I) → Yields steps s xs t → k < length xs → GaveAt k s
  gave_at k [] s t y d = absurd (omega arith)
  gave_at zero (x ∷ xs) s t y d = record { item = x; before = s; after = y.0; gave = record { items = []; yields = refl; long = refl }; gives = y.1 }
  gave_at (suc k) (x ∷ xs) s t y d =
      let z = gave_at k xs y.0 t y.2 (omega arith) in
      record { item = z.item; before = z.before; after = z.after; gave = record { items = x ∷ z.gave.items; yields = (y.0, y.1, z.gave.yields); long = ap suc z.gave.long }; gives = z.gives }

module _ {L I A : Type 0} (clones : L → L → Type 0) (makes : L → I → Type 0) (steps : I → Option A → I → Type 0) (list : L) where
  stands_before : (k m : ℕ) → k < m → EndsAfter clones makes steps list m → (x : A) × IsItemAt clones makes steps list k x
  stands_before k m d e =
      let r = e.reached in
      let z = gave_at steps k r.gave.items r.start e.before r.gave.yields (let l = r.gave.long in omega arith) in
      (z.item, record { before = z.before; after = z.after; reached = record { clone = r.clone; is_clone = r.is_clone; start = r.start; made = r.made; gave = z.gave }; gives = z.gives })

  module _ {T : Type 0} (can_next : I → Type 0) (remaining : I → Count) (compares : A → T → Bool → Type 0) (h : IsIterated clones makes steps list can_next remaining) where
    one_end : (m n : ℕ) → EndsAfter clones makes steps list m → EndsAfter clones makes steps list n → m ≡ n
    one_end m n p q = by_order (cases_order m n)
      where
        by_order : (m ≡ n) ⊎ ((m < n) ⊎ (n < m)) → m ≡ n
        by_order (inl e) = e
        by_order (inr (inl d)) = let z = stands_before m n d q in let a = h.same m m z.0 z.1 p in absurd (omega arith)
        by_order (inr (inr d)) = let z = stands_before n m d p in let a = h.same n n z.0 z.1 q in absurd (omega arith)

    pub iterated_ends_once : ListEndsOnce (iterated_tokens clones makes steps list compares)
    iterated_ends_once = record { before = λ k m p q. h.same k m p.0 p.1 q; one = one_end }
