-- what the bytes of a record are
use Rattle.std.specs.Prelude.{ℕ, ◌≡◌, List, ◌∷◌, ◌++◌, length}
use Rattle.combine_byte.specs.Numbers.{big_endian}
use Rattle.example_callers.specs.declared.records.Record.{Record}

-- its kind, the length of its text in two bytes, the highest first, and its text, and what stands behind them
pub record IsRecord (input : List ℕ) (r : Record) (behind : List ℕ) : Type 0 where
  pub size : List ℕ
  pub bytes : input ≡ (r.kind ∷ size) ++ r.text.items ++ behind
  pub two : length size ≡ 2
  pub says : big_endian size ≡ length r.text.items
