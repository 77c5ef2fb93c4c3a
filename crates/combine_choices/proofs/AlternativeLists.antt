-- lists of alternatives, of which one was run
use Rattle.std.proofs.Common.{ℕ, zero, suc, ◌+◌, ◌<◌, ◌≤◌, ◌≡◌, List, [], ◌∷◌, length, drop, set, get_or, ap, sym, refl, ◌∙◌, drop-cons, arith}
use Rattle.combine_base.specs.Parser.Meaning.{Meaning, MeansSame}
use Rattle.combine_base.proofs.Parsers.SameMeanings.{same_none, same_more}
use Rattle.combine_choices.specs.ListChoice.{AllSame}

-- what stands from an index on
pub drop_at : {X : Type 0} (xs : List X) (i : ℕ) (d : X) → i < length xs → drop i xs ≡ get_or xs i d ∷ drop (i + 1) xs
drop_at xs i d l = drop-cons xs i d l ∙ ap (λ n. get_or xs i d ∷ drop n xs) (let b : suc i ≡ i + 1 = omega arith in b)

pub drop_here : {X : Type 0} (xs now : List X) (i : ℕ) (d : X) → ((k : ℕ) → i ≤ k → drop k now ≡ drop k xs) → i < length now → drop i xs ≡ get_or now i d ∷ drop (i + 1) xs
drop_here xs now i d u l = sym (u i (omega arith)) ∙ drop_at now i d l ∙ ap (λ ys. get_or now i d ∷ ys) (u (i + 1) (omega arith))

pub drop_past : {X : Type 0} (xs : List X) (i : ℕ) → length xs ≤ i → drop i xs ≡ []
drop_past [] zero l = refl
drop_past [] (suc i) l = refl
drop_past (x ∷ xs) zero l = absurd (omega arith)
drop_past (x ∷ xs) (suc i) l = drop_past xs i (omega arith)

module _ {X P T R E V S : Type 0} (m : X → Meaning P T R E V S) where
  pub same_self : (xs : List X) → AllSame m xs xs
  same_self [] = tt
  same_self (x ∷ xs) = (same_none (m x), same_self xs)

  -- one of them was run, and means the same
  pub same_set : (xs ys : List X) (i : ℕ) (d z : X) → AllSame m xs ys → i < length ys → MeansSame (m (get_or ys i d)) (m z) → AllSame m xs (set ys i z)
  same_set [] [] i d z h l k = absurd (omega arith)
  same_set [] (b ∷ ys) i d z h l k = absurd h
  same_set (a ∷ xs) [] i d z h l k = absurd h
  same_set (a ∷ xs) (b ∷ ys) zero d z h l k = (same_more (m a) (m b) (m z) h.0 k, h.1)
  same_set (a ∷ xs) (b ∷ ys) (suc i) d z h l k = (h.0, same_set xs ys i d z h.1 (omega arith) k)

-- something stands at an index within
pub drop_within : {X : Type 0} (xs : List X) (i : ℕ) → i < length xs → (x : X) × (ys : List X) × (drop i xs ≡ x ∷ ys)
drop_within [] i l = absurd (omega arith)
drop_within (x ∷ xs) zero l = (x, xs, refl)
drop_within (x ∷ xs) (suc i) l = drop_within xs i (omega arith)
