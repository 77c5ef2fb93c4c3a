use Rattle.std.specs.Prelude.{◌≡◌, ◌≢◌, ◌⊎◌, ℕ, ℤ, pos, ◌+ℤ◌, ◌-ℤ◌, ◌*ℤ◌, FitsSigned, List, codes, int_div}
use Rattle.std.specs.Int.{w64}
use Rattle.example_calc.specs.declared.Operator.{Operator}
use Rattle.example_calc.specs.declared.Operator.TheVariants.{Plus, Minus, Times, Divide}

-- what an operator makes of two integers
abbrev pub exact : Operator → ℤ → ℤ → ℤ
exact Plus left right = left +ℤ right
exact Minus left right = left -ℤ right
exact Times left right = left *ℤ right
exact Divide left right = int_div left right

-- that is the value, and nothing is divided by zero
abbrev pub IsExact : Operator → ℤ → ℤ → ℤ → Type 0
IsExact operator left right value = (value ≡ exact operator left right) × (operator ≡ Divide → right ≢ pos 0)

-- nothing else is refused, and the message says which it is
abbrev pub IsArithmeticFault : Operator → ℤ → ℤ → List ℕ → Type 0
IsArithmeticFault operator left right message =
    ((operator ≡ Divide) × (right ≡ pos 0) × (message ≡ codes "division by zero"))
    ⊎ (¬ (FitsSigned w64 (exact operator left right)) × (message ≡ codes "overflow"))
