-- tokens up to a number of items
use Rattle.std.specs.Prelude.{ℕ, ◌<◌, ◌≤◌, ◌≡◌, List, length, take, Ok}
use Rattle.std.proofs.Common.{arith, subst, ◌∙◌}
use Rattle.combine_base.specs.Stream.View.{View, Takes}
use Rattle.combine_base.specs.declared.stream.Failures.{Failures}
use Rattle.combine_stream.specs.Range.Ranges.{size_of, UnconsRange, size_rises}
use Rattle.combine_byte.specs.Search.ItemLimit.{UpTo}

-- a token place within so many items is none behind the one that has most of them
pub last_place : {T : Type 0} (size : T → ℕ) → ((t : T) → 0 < size t) → (us : List T) (k n : ℕ) → k ≤ length us → size_of size (take k us) ≤ size_of size (take n us) → k ≤ n
last_place size filled us k n l h = by_order (λ g. let a = size_rises size filled us n k g l in omega arith)
  where
    by_order : (n < k → ⊥) → k ≤ n
    by_order x = omega arith

module _ {P T R : Type 0} (counts_failures : Type 0) (step : P → T → P) (size : T → ℕ) (filled : (t : T) → 0 < size t) (spells : R → List T → Type 0) (old mid new : View P T) (before f after : Failures) (items most : ℕ) (same : mid ≡ old) (failures : counts_failures → f ≡ before) (few : items ≤ most) where
  pub up_to_items : ((k : ℕ) → k ≤ length old.unread → size_of size (take k old.unread) ≤ most → size_of size (take k old.unread) ≤ items) → (q : R) → UnconsRange counts_failures step size spells mid new f after items (Ok q) → UpTo counts_failures step size old new before after most
  up_to_items last q u = record {
    count = u.is.0;
    taken = subst (λ v. Takes step u.is.0 v new) same u.is.2.taken;
    few = let a = items_here in omega arith;
    last = λ k l h. last_place size filled old.unread k u.is.0 l (let a = items_here in let b = last k l h in omega arith);
    failures = λ s. u.is.2.failures s ∙ failures s;
  }
    where
      items_here : size_of size (take u.is.0 old.unread) ≡ items
      items_here = subst (λ (v : View P T). size_of size (take u.is.0 v.unread) ≡ items) same u.is.1.items
