-- what is seen of an error that keeps its items
use Rattle.std.specs.Prelude.{ℕ, ◌≡◌, List, ◌++◌, Bool, true, false, nat_eq, map, take, drop, Some, refl}
use Rattle.std.specs.List.{filter}
use Rattle.std.specs.Str.{bytes_eq}
use Rattle.combine_base.specs.Error.Items.{About, OfToken, OfRange, Fixed, Text, Count, ErrorItem, Unexpected, Expected, Message, shown, is_expected}
use Rattle.combine_base.specs.Error.Errors.{Observers as Seen, TellsApart}
use Rattle.combine_error.specs.declared.easy.Error.{Error}
use Rattle.combine_error.specs.declared.easy.Error.TheVariants as errors
use Rattle.combine_error.specs.declared.easy.Errors.{Errors}
use Rattle.combine_error.specs.declared.easy.stream.Stream.{Stream}

abbrev pub said : {T R : Type 0} → Error T R → ErrorItem T R
said (errors.Unexpected i) = Unexpected (shown i)
said (errors.Expected i) = Expected (shown i)
said (errors.Message i) = Message (shown i)

-- does not say what was expected
abbrev pub is_other : {T R : Type 0} → Error T R → Bool
is_other (errors.Unexpected i) = true
is_other (errors.Expected i) = false
is_other (errors.Message i) = true

-- the first n items, and those of the rest that don't say what was expected
abbrev pub cleared_from : {T R : Type 0} → ℕ → List (Error T R) → List (Error T R)
cleared_from n xs = take n xs ++ filter is_other (drop n xs)

module _ {T R : Type 0} (token_eq : T → T → Bool) (range_eq : R → R → Bool) where
  -- a text is equal only to one that is held alike
  abbrev pub about_same : About T R → About T R → Bool
  about_same (OfToken a) (OfToken b) = token_eq a b
  about_same (OfRange a) (OfRange b) = range_eq a b
  about_same (Fixed a) (Fixed b) = bytes_eq a b
  about_same (Text a) (Text b) = bytes_eq a b
  about_same (Count a) (Count b) = nat_eq a b
  about_same _ _ = false

  abbrev pub item_same : ErrorItem T R → ErrorItem T R → Bool
  item_same (Unexpected a) (Unexpected b) = about_same a b
  item_same (Expected a) (Expected b) = about_same a b
  item_same (Message a) (Message b) = about_same a b
  item_same _ _ = false

  abbrev pub listed_errors : {P : Type 0} → Seen T R P (Errors T R P)
  listed_errors = record { kind = λ e. e.kind; position = λ e. Some e.position; items = λ e. map said e.errors.items; keeps = true; same = item_same; heapless = ⊥ }

  same_sort : (i j : ErrorItem T R) → item_same i j ≡ true → is_expected i ≡ is_expected j
  same_sort (Unexpected a) (Unexpected b) e = refl
  same_sort (Unexpected a) (Message b) e = refl
  same_sort (Unexpected a) (Expected b) e = absurd (cc)
  same_sort (Expected a) (Expected b) e = refl
  same_sort (Expected a) (Unexpected b) e = absurd (cc)
  same_sort (Expected a) (Message b) e = absurd (cc)
  same_sort (Message a) (Message b) e = refl
  same_sort (Message a) (Unexpected b) e = refl
  same_sort (Message a) (Expected b) e = absurd (cc)

  pub listed_apart : {P : Type 0} → TellsApart {P = P} listed_errors
  listed_apart = record { apart = λ k i j e. same_sort i j e }

-- the stream inside one whose errors keep items
abbrev pub inner_stream : {S : Type 0} → Stream S → S
inner_stream s = s.inner
