-- the meaning of a list of tokens, and its laws
use Rattle.std.specs.Prelude.{ℕ, zero, suc, ◌+◌, ◌-◌, ◌<◌, ◌≤◌, ◌≡◌, List, [], ◌∷◌, ◌++◌, take, drop, length, Bool, true, false, nat_lt, refl, Option, ◌⊎◌}
use Rattle.std.proofs.Common.{arith, sym, ltb-false, length-append, inl, inr}
use Rattle.std.proofs.lemmas.List.{take-append-le, drop-append-le}
use Rattle.std.proofs.lemmas.Bool.{cases_lt, cases_order}
use Rattle.std.proofs.Math.ListN.{drop_of_length-le}
use Rattle.combine_base.specs.Error.Errors.{Observers}
use Rattle.combine_base.specs.Error.Items.{ErrorItem}
use Rattle.combine_base.specs.Parser.Outcome.{Outcome, Accepted, Refused, Undecided, IsDecided, shape}
use Rattle.combine_base.specs.Parser.Meaning.{Meaning, IsReading, IsSingle, IsMeaning, MeansOne}
use Rattle.combine_base.specs.declared.error.info.Info.{Info}
use Rattle.combine_token.specs.Token.TokenReasons.{RefusesList}
use Rattle.combine_token.specs.Token.Lists.TokenLists.{TokenList, ListEndsOnce, ComparesOnce, Matched, all_fit, mismatch_at, matching_at, matching}

module _ {T : Type 0} (l : TokenList T) where
  matched_longer : (n i : ℕ) (us x : List T) → Matched l n i us → Matched l n i (us ++ x)
  matched_longer n i us x h =
      let e = h.enough in
      record { enough = omega (arith, length-append us x); each = rw (take-append-le i us x e) h.each }

  stops_longer : (n : ℕ) (b m : Bool) (us x : List T) → b ≡ true → mismatch_at l n b us → mismatch_at l n m (us ++ x)
  stops_longer n b m [] x e h = absurd (cc)
  stops_longer n b m (t ∷ ts) x e h = h

  -- where fewer tokens than fit were passed, the next one doesn't stop the match
  goes_on : ComparesOnce l → (i c n : ℕ) (b : Bool) (us : List T) → i < c → c ≤ length us → all_fit l n (take c us) → mismatch_at l (n + i) b (drop i us) → ⊥
  goes_on h i c n b [] d e f s = omega arith
  goes_on h i zero n b (t ∷ ts) d e f s = omega arith
  goes_on h zero (suc c) n b (t ∷ ts) d e f s = let z : n + 0 ≡ n = omega arith in h.one n t f.0 (rw z at s)
  goes_on h (suc i) (suc c) n b (t ∷ ts) d e f s =
      let z : n + suc i ≡ n + 1 + i = omega arith in
      goes_on h i c (n + 1) b ts (omega arith) (omega arith) f.1 (rw z at s)

module _ {T V : Type 0} (l : TokenList T) (gives : V → Type 0) (n : ℕ) where
  stays_at : (b m : Bool) (us x : List T) (o : Outcome V) → b ≡ true → IsDecided o → matching_at l gives n b us o → matching_at l gives n m (us ++ x) o
  stays_at b m us x (Accepted v c k) e d p = (p.0, p.1, p.2, matched_longer l n c us x p.3, p.4, p.5)
  stays_at b m us x (Refused k) e d p = (p.0, p.1, matched_longer l n p.0 us x p.2, let i = p.2.enough in rw (drop-append-le p.0 us x i) (stops_longer l (n + p.0) b m (drop p.0 us) x e p.3), p.4)
  stays_at b m us x Undecided e d p = absurd d

  none_of_none : (m c : ℕ) → c ≡ m - n → false ≡ nat_lt 0 m → c ≡ 0
  none_of_none m c e d = let z = ltb-false 0 m (sym d) in omega arith

  module _ (h : ListEndsOnce l) (f : ComparesOnce l) (b : Bool) (us : List T) where
    -- a refusal at one place, where more tokens fit
    never_stops : (i c : ℕ) → i < c → Matched l n c us → mismatch_at l (n + i) b (drop i us) → ⊥
    never_stops i c d g s = goes_on l f i c n b us d g.enough g.each s

    one_place : (i j : ℕ) → Matched l n i us → Matched l n j us → mismatch_at l (n + i) b (drop i us) → mismatch_at l (n + j) b (drop j us) → i ≡ j
    one_place i j p q s t = by_order (cases_order i j)
      where
        by_order : (i ≡ j) ⊎ ((i < j) ⊎ (j < i)) → i ≡ j
        by_order (inl e) = e
        by_order (inr (inl d)) = absurd (never_stops i j d q s)
        by_order (inr (inr d)) = absurd (never_stops j i d p t)

    -- all that is unread fits, and more may follow
    not_all : (i : ℕ) → b ≡ true → Matched l n (length us) us → Matched l n i us → mismatch_at l (n + i) b (drop i us) → ⊥
    not_all i e f p s = by_order (cases_lt i (length us))
      where
        by_order : (i < length us) ⊎ (length us ≤ i) → ⊥
        by_order (inl d) = never_stops i (length us) d f s
        by_order (inr d) = let a = rw (drop_of_length-le us d) at s in cc

    one_shape : (o o' : Outcome V) → matching_at l gives n b us o → matching_at l gives n b us o' → shape o ≡ shape o'
    one_shape (Accepted v c k) (Accepted v' c' k') p q = let z = h.one p.0 q.0 p.1 q.1 in cc
    one_shape (Accepted v c k) (Refused k') p q = let z = h.before (n + q.0) p.0 q.1 p.1 in absurd (never_stops q.0 c (omega (arith, p.2)) p.3 q.3)
    one_shape (Accepted v c k) Undecided p q = let z = h.before (n + length us) p.0 q.1 p.1 in let i = p.3.enough in absurd (omega (arith, p.2))
    one_shape (Refused k) (Accepted v' c' k') p q = let z = h.before (n + p.0) q.0 p.1 q.1 in absurd (never_stops p.0 c' (omega (arith, q.2)) q.3 p.3)
    one_shape (Refused k) (Refused k') p q = let z = one_place p.0 q.0 p.2 q.2 p.3 q.3 in cc
    one_shape (Refused k) Undecided p q = absurd (not_all p.0 q.0 q.2 p.2 p.3)
    one_shape Undecided (Accepted v' c' k') p q = let z = h.before (n + length us) q.0 p.1 q.1 in let i = q.3.enough in absurd (omega (arith, q.2))
    one_shape Undecided (Refused k') p q = absurd (not_all q.0 p.0 p.2 q.2 q.3)
    one_shape Undecided Undecided p q = refl

module _ {P T V : Type 0} (l : TokenList T) (gives : V → Type 0) (n : ℕ) where
  pub matching_is_reading : IsReading (matching l {P = P} gives n)
  matching_is_reading = record {
    ended = λ v e p. let a = p.0 in cc;
    stays = λ v x m o e d p. stays_at l gives n v.is_open m v.unread x o e d p;
    peeked = λ v a c p. none_of_none l gives n p.0 c p.2 p.4;
    within = λ v a c k p. p.3.enough;
  }

  pub matching_is_single : ListEndsOnce l → ComparesOnce l → IsSingle (matching l {P = P} gives n)
  matching_is_single h f = record { one = λ v o o' p q. one_shape l gives n h f v.is_open v.unread o o' p q }

module _ {P T R E V S : Type 0} (errors : Observers T R P E) (l : TokenList T) (expected : Option (Info T R)) (gives : V → Type 0) (matched : S → ℕ) (heapless : Type 0) (adds : List (ErrorItem T R) → Type 0) where
  -- the list from its beginning, or from a state after as many items as it counts; expected is what the error of a mismatch says was expected
  abbrev pub token_list : Meaning P T R E V S
  token_list = record {
    whole = matching l gives 0;
    rest = λ s. matching l gives (matched s);
    lost = λ s v. ⊥;
    keeps = Unit {0};
    puts_back = ⊥;
    heapless = heapless;
    adds = adds;
    refuses = RefusesList errors l expected 0;
    refuses_from = λ s. RefusesList errors l expected (matched s);
  }

  module _ (fresh valid : S → Type 0) where
    pub token_list_is_meaning : ((s : S) → fresh s → matched s ≡ 0) → IsMeaning fresh valid token_list
    token_list_is_meaning h = record {
      whole = matching_is_reading l gives 0;
      rest = λ s k. matching_is_reading l gives (matched s);
      start = λ s v o d. let e = h s d in rw e (λ p. p, λ p. p);
      found = λ s v d p. p;
      reasons = λ s d v w k x. let e = h s d in rw e (λ p. p, λ p. p);
    }

    pub token_list_means_one : ListEndsOnce l → ComparesOnce l → MeansOne valid token_list
    token_list_means_one h f = record { whole = matching_is_single l gives 0 h f; rest = λ s k. matching_is_single l gives (matched s) h f }
