-- a word read, and words read one after another
use Rattle.std.proofs.Common.{Bool, true, false, if◌then◌else◌, ℕ, ◌≡◌, ◌+◌, ◌<◌, ◌≤◌, List, [], ◌∷◌, ◌++◌, length, drop, get_or, Option, Some, None, refl, ap, sym, ◌∙◌, append_assoc, nat_le}
use Rattle.std.proofs.lemmas.Bool.{le-leb}
use Rattle.std.proofs.lemmas.List.{at_drop_more, at_drop_all}
use Rattle.feedline_core.specs.Sizes.{all_digits, number_from, size_of_word, with_size, each_size, sizes_of}

-- these sizes, and then the rest, if it has any
abbrev pub sizes_before : List ℕ → Option (List ℕ) → Option (List ℕ)
sizes_before ns None = None
sizes_before ns (Some rest) = Some (ns ++ rest)

pub behind_none : (r : Option (List ℕ)) → sizes_before [] r ≡ r
behind_none None = refl
behind_none (Some rest) = refl

behind_one : (ns : List ℕ) (n : ℕ) (r : Option (List ℕ)) → sizes_before ns (with_size (Some n) r) ≡ sizes_before (ns ++ n ∷ []) r
behind_one ns n None = refl
behind_one ns n (Some rest) = ap (λ l. Some l) (sym (append_assoc ns (n ∷ []) rest))

module _ (words : List (List ℕ)) (i : ℕ) (ns : List ℕ) (word : List ℕ) (h : i < length words) (e : get_or words i word ≡ word) (so_far : each_size words ≡ sizes_before ns (each_size (drop i words))) where
  here : each_size (drop i words) ≡ with_size (size_of_word word) (each_size (drop (i + 1) words))
  here = at_drop_more each_size words i word h ∙ ap (λ w. with_size (size_of_word w) (each_size (drop (i + 1) words))) e

  pub one_more_size : (n : ℕ) → size_of_word word ≡ Some n → each_size words ≡ sizes_before (ns ++ n ∷ []) (each_size (drop (i + 1) words))
  one_more_size n s = so_far ∙ ap (sizes_before ns) (here ∙ ap (λ o. with_size o (each_size (drop (i + 1) words))) s) ∙ behind_one ns n (each_size (drop (i + 1) words))

  pub no_size : size_of_word word ≡ None → each_size words ≡ None
  no_size s = so_far ∙ ap (sizes_before ns) (here ∙ ap (λ o. with_size o (each_size (drop (i + 1) words))) s)

pub no_sizes : (words : List (List ℕ)) → each_size words ≡ None → sizes_of words ≡ None
no_sizes words e = by_test (nat_le (length words) 64)
  where
    by_test : (b : Bool) → (if b then each_size words else None) ≡ None
    by_test true = e
    by_test false = refl

-- the size that a word of up to seven digits says, once all are read
pub says_size : (word : List ℕ) (size i : ℕ) → 1 ≤ length word → length word ≤ 7 → length word ≤ i → all_digits word ≡ all_digits (drop i word) → number_from 0 word ≡ number_from size (drop i word) → size ≤ 1000000 → Some size ≡ size_of_word word
says_size word size i h k e d v m =
    let digits = d ∙ at_drop_all all_digits word i e in
    let value = v ∙ at_drop_all (number_from size) word i e in
    rw (le-leb 1 (length word) h, le-leb (length word) 7 k, digits, value, le-leb size 1000000 m) refl
