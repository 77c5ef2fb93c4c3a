-- positions that say how much is left, after some tokens
use Rattle.std.proofs.Common.{ℕ, zero, suc, ◌+◌, ◌-◌, ◌≤◌, ◌≡◌, List, [], ◌∷◌, take, length, arith, ap, refl, ◌∙◌}
use Rattle.combine_base.specs.Stream.View.{View, Ahead, after_all}
use Rattle.combine_stream.specs.Range.Ranges.{size_of, IsItemPlace, size_take}
use Rattle.combine_base.specs.declared.stream.slices.Left.{Left}

pub left_after : {T : Type 0} (size : T → ℕ) (p : Left) (ts : List T) → after_all (λ p t. record { 0 = p.0 - size t }) p ts ≡ record { 0 = p.0 - size_of size ts }
left_after size p [] = ap (λ n. record { 0 = n }) {x = p.0} {y = p.0 - 0} (omega arith)
left_after size p (t ∷ ts) = left_after size (record { 0 = p.0 - size t }) ts ∙ ap (λ n. record { 0 = n }) {x = p.0 - size t - size_of size ts} {y = p.0 - (size t + size_of size ts)} (omega arith)

module _ {T : Type 0} where
  pub ones_take : (n : ℕ) (ts : List T) → n ≤ length ts → size_of (λ t. 1) (take n ts) ≡ n
  ones_take zero ts h = refl
  ones_take (suc n) [] h = absurd (omega arith)
  ones_take (suc n) (t ∷ ts) h = let e = ones_take n ts (omega arith) in omega arith

  pub slice_place : (n : ℕ) (ts : List T) → n ≤ length ts → IsItemPlace (λ t. 1) ts n n
  slice_place n ts h = record { within = h; items = ones_take n ts h }

-- what was passed over, by what is left
pub distance_is : {P T : Type 0} (step : P → T → P) (size : T → ℕ) (n m k : ℕ) (v u : View P T) → Ahead step k v u → n ≡ size_of size v.unread → m ≡ size_of size u.unread → n - m ≡ size_of size (take k v.unread)
distance_is step size n m k v u t a b =
    let e = size_take size k v.unread in
    let d = ap (size_of size) t.unread in
    omega arith
