-- searches for bytes: the first place where some stand in the bytes of the tokens
use Rattle.std.specs.Prelude.{ℕ, ◌+◌, ◌-◌, ◌<◌, ◌≤◌, ◌≡◌, List, [], ◌∷◌, ◌++◌, Bool, false, take, drop, length, Option, Some, None, nat_eq, refl}
use Rattle.std.specs.Cmp.Lexicographic.{pointwise}
use Rattle.std.proofs.Common.{arith, ap, sym, subst, ◌∙◌, length-drop}
use Rattle.std.proofs.lemmas.List.{drop-append-le, drop-drop, drop_at, append_assoc, length-append, take-append-drop}
use Rattle.combine_stream.specs.Range.Ranges.{size_of}
use Rattle.combine_stream.specs.Range.Measures.{ones}
use Rattle.combine_range.specs.WantedRanges.{Wanted, BeginsWithWanted, IsFirstPlace, BeginsNowhere, first_stays, not_later, one_first}
use Rattle.combine_byte.specs.Search.Searches.{Search, IsSearch, IsOneSearch, MaySkip}

-- the bytes of tokens, one after another
abbrev pub encoded_bytes : {T : Type 0} → (T → List ℕ) → List T → List ℕ
encoded_bytes encoded [] = []
encoded_bytes encoded (t ∷ ts) = encoded t ++ encoded_bytes encoded ts

-- one byte that passes
abbrev pub passes_one : (ℕ → Bool) → List ℕ → Bool
passes_one passes [] = false
passes_one passes (b ∷ bs) = passes b

abbrev pub a_byte : (ℕ → Bool) → Wanted (List ℕ)
a_byte passes = record { items = 1; test = passes_one passes }

abbrev pub these_bytes : List ℕ → Wanted (List ℕ)
these_bytes needle = record { items = length needle; test = λ bs. pointwise nat_eq bs needle }

module _ (w : Wanted (List ℕ)) where
  -- what is wanted stands at the beginning of these bytes
  abbrev pub BeginsWithBytes : List ℕ → Type 0
  BeginsWithBytes = BeginsWithWanted (λ (b : ℕ). 1) (λ (r ts : List ℕ). r ≡ ts) w

  -- the first place where it does
  abbrev pub StandsFirst : List ℕ → ℕ → Type 0
  StandsFirst = IsFirstPlace (λ (b : ℕ). 1) (λ (r ts : List ℕ). r ≡ ts) w 0

  abbrev pub StandsNowhere : List ℕ → Type 0
  StandsNowhere = BeginsNowhere (λ (b : ℕ). 1) (λ (r ts : List ℕ). r ≡ ts) w 0

  abbrev pub finds_bytes : List ℕ → Option ℕ → Type 0
  finds_bytes bs (Some i) = StandsFirst bs i
  finds_bytes bs None = StandsNowhere bs

  pub record FindsBytes (bs : List ℕ) (place : Option ℕ) : Type 0 where
    pub is : finds_bytes bs place

  -- behind e bytes before which it stands nowhere, whatever follows
  module _ (bs x : List ℕ) (e : ℕ) (l : e ≤ length bs) (h : e ≤ length bs - (w.items - 1)) (n : StandsNowhere bs) where
    behind : (j : ℕ) → e ≤ j → drop j (bs ++ x) ≡ drop (j - e) (drop e bs ++ x)
    behind j k = sym (ap (drop (j - e)) (sym (drop-append-le e bs x l)) ∙ drop-drop (j - e) e (bs ++ x) ∙ ap (λ m. drop m (bs ++ x)) {x = e + (j - e)} {y = j} (omega arith))

    not_before : (j : ℕ) → j < e → BeginsWithBytes (drop j (bs ++ x)) → ⊥
    not_before j k = not_later (λ (b : ℕ). 1) (λ (r ts : List ℕ). r ≡ ts) w (λ b. omega arith) bs x j (omega arith) (let a = ones (drop j bs) in let b = length-drop j bs in omega arith) (n.none j (omega arith) (omega arith))

    at : (j : ℕ) → (e ≤ j → BeginsWithBytes (drop (j - e) (drop e bs ++ x)) → ⊥) → BeginsWithBytes (drop j (bs ++ x)) → ⊥
    at j g s = not_before j (by_order (λ k. g k (subst BeginsWithBytes (behind j k) s))) s
      where
        by_order : (e ≤ j → ⊥) → j < e
        by_order a = omega arith

    pub found_behind : (i : ℕ) → StandsFirst (drop e bs ++ x) i → StandsFirst (bs ++ x) (e + i)
    found_behind i p = record {
      later = omega arith;
      within = let a = p.within in let b = length-append (drop e bs) x in let c = length-append bs x in let d = length-drop e bs in omega arith;
      begins = subst BeginsWithBytes (sym (behind (e + i) (omega arith) ∙ ap (λ m. drop m (drop e bs ++ x)) {x = e + i - e} {y = i} (omega arith))) p.begins;
      none = λ j a b. at j (λ k. p.none (j - e) (omega arith) (omega arith));
    }

    pub missing_behind : StandsNowhere (drop e bs ++ x) → StandsNowhere (bs ++ x)
    missing_behind p = record { none = λ j a b. at j (λ k. p.none (j - e) (omega arith) (let c = length-append (drop e bs) x in let d = length-append bs x in let f = length-drop e bs in omega arith)) }

module _ {T : Type 0} (encoded : T → List ℕ) where
  pub bytes_append : (us x : List T) → encoded_bytes encoded (us ++ x) ≡ encoded_bytes encoded us ++ encoded_bytes encoded x
  bytes_append [] x = refl
  bytes_append (u ∷ us) x = ap (λ bs. encoded u ++ bs) (bytes_append us x) ∙ sym (append_assoc (encoded u) (encoded_bytes encoded us) (encoded_bytes encoded x))

  abbrev pub in_bytes : Wanted (List ℕ) → Search T
  in_bytes w = record { found = λ us i. StandsFirst w (encoded_bytes encoded us) i; missing = λ us. StandsNowhere w (encoded_bytes encoded us) }

  module _ (w : Wanted (List ℕ)) where
    pub in_bytes_is_search : IsSearch (in_bytes w)
    in_bytes_is_search = record { stays = λ us x i p. subst (λ bs. StandsFirst w bs i) (sym (bytes_append us x)) (first_stays (λ (b : ℕ). 1) (λ (r ts : List ℕ). r ≡ ts) w (λ b. omega arith) 0 (encoded_bytes encoded us) (encoded_bytes encoded x) i p) }

    pub in_bytes_is_one : IsOneSearch (in_bytes w)
    in_bytes_is_one = record {
      one = λ us i j p q. one_first (λ (b : ℕ). 1) (λ (r ts : List ℕ). r ≡ ts) w 0 (encoded_bytes encoded us) i j p q;
      not_both = λ us i p q. q.none i p.later p.within p.begins;
    }

    module _ (size : T → ℕ) (sized : (t : T) → size t ≡ length (encoded t)) (us : List T) where
      pub size_bytes : (ts : List T) → size_of size ts ≡ length (encoded_bytes encoded ts)
      size_bytes [] = refl
      size_bytes (t ∷ ts) = let a = sized t in let b = size_bytes ts in let c = length-append (encoded t) (encoded_bytes encoded ts) in omega arith

      split : (k : ℕ) → encoded_bytes encoded us ≡ encoded_bytes encoded (take k us) ++ encoded_bytes encoded (drop k us)
      split k = ap (encoded_bytes encoded) (sym (take-append-drop k us)) ∙ bytes_append (take k us) (drop k us)

      rest : (k : ℕ) → drop (size_of size (take k us)) (encoded_bytes encoded us) ≡ encoded_bytes encoded (drop k us)
      rest k = ap (drop (size_of size (take k us))) (split k) ∙ drop_at (encoded_bytes encoded (take k us)) (encoded_bytes encoded (drop k us)) (size_of size (take k us)) (sym (size_bytes (take k us)))

      within : (k : ℕ) → size_of size (take k us) ≤ length (encoded_bytes encoded us)
      within k = let a = ap length (split k) in let b = length-append (encoded_bytes encoded (take k us)) (encoded_bytes encoded (drop k us)) in let c = size_bytes (take k us) in omega arith

      follows : (k : ℕ) (x : List T) → drop (size_of size (take k us)) (encoded_bytes encoded us) ++ encoded_bytes encoded x ≡ encoded_bytes encoded (drop k us ++ x)
      follows k x = ap (λ bs. bs ++ encoded_bytes encoded x) (rest k) ∙ sym (bytes_append (drop k us) x)

      -- so many tokens need not be searched again
      pub skips : StandsNowhere w (encoded_bytes encoded us) → (k : ℕ) → size_of size (take k us) ≤ length (encoded_bytes encoded us) - (w.items - 1) → MaySkip size (in_bytes w) us k
      skips n k h = record {
        found = λ x i p. subst (λ bs. StandsFirst w bs (size_of size (take k us) + i)) (sym (bytes_append us x)) (found_behind w (encoded_bytes encoded us) (encoded_bytes encoded x) (size_of size (take k us)) (within k) h n i (subst (λ bs. StandsFirst w bs i) (sym (follows k x)) p));
        missing = λ x p. subst (StandsNowhere w) (sym (bytes_append us x)) (missing_behind w (encoded_bytes encoded us) (encoded_bytes encoded x) (size_of size (take k us)) (within k) h n (subst (StandsNowhere w) (sym (follows k x)) p));
      }
