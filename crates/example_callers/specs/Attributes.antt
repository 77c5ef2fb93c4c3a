-- what the bytes of an attribute are
use Rattle.std.specs.Prelude.{ℕ, ◌≡◌, ◌≤◌, ◌+◌, List, ◌∷◌, ◌++◌, true, nat_eq, not, All, length}
use Rattle.std.specs.Char.{is_ascii_lowercase}
use Rattle.example_callers.specs.declared.attributes.Attribute.{Attribute}

-- its name, `=`, its value between quotes, and what stands behind them
pub record IsAttribute (input : List ℕ) (a : Attribute) (taken : ℕ) : Type 0 where
  pub behind : List ℕ
  pub bytes : input ≡ a.name.items ++ 61 ∷ 34 ∷ a.value.items ++ 34 ∷ behind
  pub name : All (λ b. is_ascii_lowercase b ≡ true) a.name.items
  pub some : 1 ≤ length a.name.items
  pub value : All (λ b. not (nat_eq b 34) ≡ true) a.value.items
  pub count : taken ≡ length a.name.items + length a.value.items + 3
