-- what comes of open brackets
use Rattle.std.specs.Prelude.{◌≡◌, ◌+◌, ◌<◌, ◌≤◌, ℕ, true, false}
use Rattle.combine_nested.specs.declared.nested.Next.{Next}
use Rattle.combine_nested.specs.declared.nested.Next.TheVariants as nexts
use Rattle.example_callers.specs.declared.brackets.Brackets.{Brackets}

-- what stands round all brackets
abbrev pub outermost : Brackets
outermost = record { is_outermost = true; pairs = 0 }

-- brackets that were just opened
abbrev pub opened : Brackets
opened = record { is_outermost = false; pairs = 0 }

-- an opening bracket opens, a closing one closes with how many pairs stand inside; none closes the outermost, and no other byte is taken
abbrev pub bracket_taken : Brackets → ℕ → Next Brackets ℕ → Type 0
bracket_taken f a (nexts.Stay g) = ⊥
bracket_taken f a (nexts.Open g h) = (a ≡ 40) × (g ≡ f) × (h ≡ opened)
bracket_taken f a (nexts.Close v) = (a ≡ 41) × (f.is_outermost ≡ false) × (v ≡ f.pairs)
bracket_taken f a (nexts.Refuse m) = (a ≡ 40 → ⊥) × (a ≡ 41 → f.is_outermost ≡ true)

-- a pair that is closed inside, and the pairs inside that
abbrev pub with_pair : Brackets → ℕ → ℕ
with_pair f v = f.pairs + v + 1

abbrev pub pairs_joined : Brackets → ℕ → Next Brackets ℕ → Type 0
pairs_joined f v (nexts.Stay g) = (f.is_outermost ≡ false) × (with_pair f v < 18446744073709551616) × (g ≡ record { is_outermost = false; pairs = with_pair f v })
pairs_joined f v (nexts.Open g h) = ⊥
pairs_joined f v (nexts.Close w) = (f.is_outermost ≡ true) × (with_pair f v < 18446744073709551616) × (w ≡ with_pair f v)
pairs_joined f v (nexts.Refuse m) = 18446744073709551616 ≤ with_pair f v
