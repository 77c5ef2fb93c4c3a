-- a view with another mark, and the places of a stream that has one
use Rattle.std.specs.Prelude.{Bool, Option, Some, None, ◌≡◌}
use Rattle.std.proofs.Common.{ap, sym, ◌∙◌}
use Rattle.combine_base.specs.Stream.View.{View}

abbrev pub marked : {Position Token : Type 0} → Bool → View Position Token → View Position Token
marked b v = record { position = v.position; unread = v.unread; is_open = b }

module _ {P T : Type 0} (b : Bool) where
  -- what is seen where the stream inside sees this
  pub record WithMark (m : View P T → Type 0) (v : View P T) : Type 0 where
    pub inner : View P T
    pub stands : m inner
    pub is : v ≡ marked b inner

  abbrev pub with_mark : (View P T → Type 0) → View P T → Type 0
  with_mark m v = WithMark m v

  -- a place of the stream inside, or the one that says whether it is open
  abbrev pub or_mark : {C : Type 0} → (C → View P T → Type 0) → Option C → View P T → Type 0
  or_mark m None v = v.is_open ≡ b
  or_mark m (Some c) v = m c v

-- as long as the places stay, what stood stands
pub mark_lasts : {P T C : Type 0} (a b : Bool) (m n : C → View P T → Type 0) (k l : View P T → Type 0) → ((u : View P T) → ((c : C) (w : View P T) → m c w → n c w) → k u → l u) → (v : View P T) → ((c : Option C) (u : View P T) → or_mark a m c u → or_mark b n c u) → with_mark a k v → with_mark b l v
mark_lasts a b m n k l g v h p =
    let o : v.is_open ≡ b = h None v (ap (λ (x : View _ _). x.is_open) p.is) in
    record {
      inner = p.inner;
      stands = g p.inner (λ c w. h (Some c) w) p.stands;
      is = p.is ∙ ap (λ c. marked c p.inner) (sym (ap (λ (x : View _ _). x.is_open) p.is) ∙ o);
    }
