-- what stands behind an opening bracket, by how deep it may be
use Rattle.std.proofs.Common.{ℕ, zero, suc, ◌-◌, ◌≡◌, Option, Some, None, arith, refl}
use Rattle.combine_base.specs.Sequence.Readings.{sequel}
use Rattle.example_callers.specs.Nests.{closed, inside, nest, none_there, second, too_deep}

module _ {P : Type 0} (step : P → ℕ → P) (b : Option ℕ) where
  pub no_bracket : (k : ℕ) → b ≡ None → inside step b k ≡ none_there
  no_bracket k e = rw e refl

  module _ (t : ℕ) (e : b ≡ Some t) where
    pub too_deep_there : (k : ℕ) → k ≡ 0 → inside step b k ≡ too_deep
    too_deep_there k d = rw (e, d) refl

    pub deeper_there : (k : ℕ) → (k ≡ 0 → ⊥) → inside step b k ≡ sequel step second (nest step (k - 1)) closed
    deeper_there zero n = absurd (n refl)
    deeper_there (suc k) n = let d : suc k - 1 ≡ k = omega arith in rw (e, d) refl
