-- a part of a value
use Rattle.std.specs.Prelude.{◌≡◌}

-- what a function keeps of a value
abbrev pub Picks : {A B : Type 0} → (A → B) → A → B → Type 0
Picks f a b = b ≡ f a
