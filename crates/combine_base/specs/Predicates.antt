-- predicates, which are known by what they may answer
use Rattle.std.specs.Prelude.{Bool, true, false}

-- nothing is one that a predicate both holds of and doesn't
pub record IsPredicate {T : Type 0} (p : T → Bool → Type 0) : Type 0 where
  pub one : (t : T) → p t true → p t false → ⊥
