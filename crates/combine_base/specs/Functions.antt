-- functions at references
use denote.Ref.{Bor, MutBor}
use Rattle.std.specs.Prelude.{◌≡◌}
use Rattle.std.specs.Fn.{Shared}

-- may be called at a reference to a
abbrev pub TakesAt : {F T R : Type 0} → Shared F (Bor T × Unit {0}) R → F → T → Type 0
TakesAt {T = T} g f a = (shown : Bor T) → shown.now ≡ a → g.pre f (shown, tt)

-- may be called at a mutable reference to a
abbrev pub TakesAtMut : {F T R : Type 0} → Shared F (MutBor T × Unit {0}) R → F → T → Type 0
TakesAtMut {T = T} g f a = (shown : MutBor T) → shown.now ≡ a → g.pre f (shown, tt)

-- the same, after a value
abbrev pub TakesWithMut : {F A T R : Type 0} → Shared F (A × (MutBor T × Unit {0})) R → F → A → T → Type 0
TakesWithMut {T = T} g f x a = (shown : MutBor T) → shown.now ≡ a → g.pre f (x, (shown, tt))

-- and after a reference to one
abbrev pub TakesLentMut : {F A T R : Type 0} → Shared F (Bor A × (MutBor T × Unit {0})) R → F → A → T → Type 0
TakesLentMut {A = A} {T = T} g f x a = (lent : Bor A) (shown : MutBor T) → lent.now ≡ x → shown.now ≡ a → g.pre f (lent, (shown, tt))

-- at a mutable reference to a it may return r, and leave b there
pub record ReturnsAtMut {F T R : Type 0} (g : Shared F (MutBor T × Unit {0}) (R × (MutBor T × Unit {0}))) (f : F) (a : T) (r : R) (b : T) : Type 0 where
  pub shown : MutBor T
  pub shows : shown.now ≡ a
  pub left : MutBor T
  pub leaves : left.now ≡ b
  pub met : g.post f (shown, tt) (r, (left, tt))

-- the same, after a value
pub record ReturnsWithMut {F A T R : Type 0} (g : Shared F (A × (MutBor T × Unit {0})) (R × (MutBor T × Unit {0}))) (f : F) (x : A) (a : T) (r : R) (b : T) : Type 0 where
  pub shown : MutBor T
  pub shows : shown.now ≡ a
  pub left : MutBor T
  pub leaves : left.now ≡ b
  pub met : g.post f (x, (shown, tt)) (r, (left, tt))

-- and after a reference to one
pub record ReturnsLentMut {F A T R : Type 0} (g : Shared F (Bor A × (MutBor T × Unit {0})) (R × (MutBor T × Unit {0}))) (f : F) (x : A) (a : T) (r : R) (b : T) : Type 0 where
  pub lent : Bor A
  pub lends : lent.now ≡ x
  pub shown : MutBor T
  pub shows : shown.now ≡ a
  pub left : MutBor T
  pub leaves : left.now ≡ b
  pub met : g.post f (lent, (shown, tt)) (r, (left, tt))
