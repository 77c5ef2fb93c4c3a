-- what the tokens that a parser took say of its value
use Rattle.std.specs.Prelude.{ℕ, ◌≡◌, ◌≤◌, ◌⊎◌, List, [], ◌∷◌, Bool, true, Option, Some, None, length, take}
use Rattle.combine_base.specs.Stream.View.{View}
use Rattle.combine_base.specs.Parser.Outcome.{Accepted}
use Rattle.combine_base.specs.Parser.Meaning.{Reading}

-- each acceptance took tokens that say its value
pub record Reads {P T A : Type 0} (r : Reading P T A) (says : List T → A → Type 0) : Type 0 where
  pub one : (v : View P T) (a : A) (n : ℕ) (k : Bool) → r v (Accepted a n k) → (n ≤ length v.unread) × says (take n v.unread) a

-- no token was taken
abbrev pub nothing : {T A : Type 0} → List T → A → Type 0
nothing xs a = xs ≡ []

-- one token, for which a test answers the value
abbrev pub tested : {T A : Type 0} → (T → Option A → Type 0) → List T → A → Type 0
tested {T} f xs a = (t : T) × (xs ≡ t ∷ []) × f t (Some a)

-- one token, which is the value
abbrev pub any_one : {T : Type 0} → List T → T → Type 0
any_one xs a = xs ≡ a ∷ []

-- one token that a predicate holds of
abbrev pub one_of : {T : Type 0} → (T → Bool → Type 0) → List T → T → Type 0
one_of p xs a = (xs ≡ a ∷ []) × p a true

-- one token that a function holds of
abbrev pub one_where : {T : Type 0} → (T → Bool) → List T → T → Type 0
one_where f xs a = (xs ≡ a ∷ []) × (f a ≡ true)

-- this token
abbrev pub this_one : {T : Type 0} → T → List T → T → Type 0
this_one t xs a = (xs ≡ t ∷ []) × (a ≡ t)

-- a value of which another is made
abbrev pub changed : {T A B : Type 0} → (List T → A → Type 0) → (A → B → Type 0) → List T → B → Type 0
changed {A = A} says f xs b = (a : A) × says xs a × f a b

-- what one of two alternatives says
abbrev pub either : {T A : Type 0} → (List T → A → Type 0) → (List T → A → Type 0) → List T → A → Type 0
either says tells xs a = says xs a ⊎ tells xs a

-- a value, or none and no token
abbrev pub maybe : {T A : Type 0} → (List T → A → Type 0) → List T → Option A → Type 0
maybe says xs (Some a) = says xs a
maybe says xs None = xs ≡ []
