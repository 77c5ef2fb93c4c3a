-- bytes looked through one after another
use Rattle.std.specs.Prelude.{ℕ, ◌≡◌, List, ◌++◌, Bool, length, not}
use Rattle.combine_stream.specs.Range.Ranges.{Longest}

-- no byte passes but where the longest beginning ends
abbrev pub fails_all : (ℕ → Bool) → ℕ → Bool → Type 0
fails_all passes b answer = passes b ≡ not answer

-- the first place where a byte passes, or the length
pub record FirstByte (passes : ℕ → Bool) (bs : List ℕ) (n : ℕ) : Type 0 where
  pub longest : Longest (fails_all passes) bs n

-- an end of the bytes, before which none passes
pub record Without (passes : ℕ → Bool) (bs rest : List ℕ) : Type 0 where
  pub front : List ℕ
  pub all : bs ≡ front ++ rest
  pub none : Longest (fails_all passes) front (length front)
