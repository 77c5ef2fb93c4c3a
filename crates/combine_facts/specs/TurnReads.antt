-- what the tokens of turns say of what is gathered of their values
use Rattle.std.specs.Prelude.{ℕ, ◌≡◌, ◌≤◌, List, [], ◌∷◌, ◌++◌, Bool, true, None, Some, All, length, min}
use Rattle.combine_repeat.specs.Turns.Blocks.{Collecting, FoldsAll}
use Rattle.combine_repeat.specs.declared.bounds.Bounds.{Bounds}
use Rattle.combine_repeat.specs.declared.bounds.Bounds.TheVariants.{Unbounded, OwnFirst, Counted}

-- the bounds of `many`, of `many1`, and of counts
abbrev pub none_or_more : Bounds
none_or_more = Unbounded

abbrev pub one_or_more : Bounds
one_or_more = OwnFirst 1 None

-- there are so many turns: bounds with fewer at most than at least end at the most
abbrev pub so_many : Bounds → ℕ → Type 0
so_many Unbounded n = Unit {0}
so_many (OwnFirst least None) n = least ≤ n
so_many (OwnFirst least (Some most)) n = (min least most ≤ n) × (n ≤ most)
so_many (Counted least most) n = (min least most ≤ n) × (n ≤ most)

-- values, each said by the tokens of its turn
abbrev pub each : {T A : Type 0} → (List T → A → Type 0) → List T → List A → Type 0
each says xs [] = xs ≡ []
each {T} says xs (a ∷ bs) = (ys : List T) × (zs : List T) × (xs ≡ ys ++ zs) × says ys a × each says zs bs

-- the same, where the first turn is another
abbrev pub first_and_each : {T A : Type 0} → (List T → A → Type 0) → (List T → A → Type 0) → List T → List A → Type 0
first_and_each first says xs [] = xs ≡ []
first_and_each {T} first says xs (a ∷ bs) = (ys : List T) × (zs : List T) × (xs ≡ ys ++ zs) × first ys a × each says zs bs

-- what turns gather: values of which each is said by the tokens of its turn, so many, collected one after another
abbrev pub gathers : {T A V : Type 0} (b : Bounds) (c : Collecting A V) → (List T → A → Type 0) → (List T → A → Type 0) → List T → V → Type 0
gathers {A = A} b c first says xs v = (bs : List A) × first_and_each first says xs bs × so_many b (length bs) × FoldsAll c.more c.none bs (c.held v)

-- values that are appended to a collection, of which it is seen as a list
abbrev pub listed : {T A V : Type 0} → Bounds → (V → List A) → (List T → A → Type 0) → List T → V → Type 0
listed b held says xs v = each says xs (held v) × so_many b (length (held v))

-- values that are dropped
abbrev pub passed : {T A V : Type 0} → Bounds → (List T → A → Type 0) → List T → V → Type 0
passed {A = A} b says xs v = (bs : List A) × each says xs bs × so_many b (length bs)

-- tokens of which a function holds, which are the values
abbrev pub all_where : {T V : Type 0} → Bounds → (V → List T) → (T → Bool) → List T → V → Type 0
all_where b held f xs v = (xs ≡ held v) × All (λ a. f a ≡ true) (held v) × so_many b (length (held v))
