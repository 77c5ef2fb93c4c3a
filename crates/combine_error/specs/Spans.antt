-- a stream whose positions are spans
use Rattle.std.specs.Prelude.{ℕ, ◌≡◌, List, [], ◌∷◌, take, refl}
use Rattle.std.proofs.Common.{ap, subst, sym}
use Rattle.std.specs.Ordering.{then_cmp, on}
use Rattle.std.specs.declared.cmp.Ordering.{Ordering}
use Rattle.std.specs.declared.cmp.Ordering.TheVariants.{Less}
use Rattle.combine_base.specs.Error.Errors.{Observers, IsAt}
use Rattle.combine_base.specs.Stream.View.{View, after_all, advanced}
use Rattle.combine_error.specs.declared.span.Span.{Span}

-- the span that begins and ends there
abbrev pub at : {P : Type 0} → P → Span P
at p = record { start = p; end = p }

-- the span after a token
abbrev pub span_step : {P T : Type 0} → (P → T → P) → Span P → T → Span P
span_step step s t = at (step s.end t)

abbrev pub spanned_view : {P T : Type 0} → View P T → View (Span P) T
spanned_view v = record { position = at v.position; unread = v.unread; is_open = v.is_open }

-- what is seen where the stream inside sees such a view
pub record IsSpannedView {P T : Type 0} (m : View P T → Type 0) (v : View (Span P) T) : Type 0 where
  pub inner : View P T
  pub stands : m inner
  pub is : v ≡ spanned_view inner

-- the places of the stream inside
abbrev pub span_marks : {P T C : Type 0} → (C → View P T → Type 0) → C → View (Span P) T → Type 0
span_marks m c = IsSpannedView (m c)

module _ {P T : Type 0} (step : P → T → P) where
  pub span_after : (p : P) (ts : List T) → after_all (span_step step) (at p) ts ≡ at (after_all step p ts)
  span_after p [] = refl
  span_after p (t ∷ ts) = span_after (step p t) ts

  pub span_moves : (cmp : P → P → Ordering) (v : View P T) (n : ℕ) → cmp v.position (advanced step n v).position ≡ Less → then_cmp (on (λ (s : Span P). s.start) cmp) (on (λ (s : Span P). s.end) cmp) (at v.position) (advanced (span_step step) n (spanned_view v)).position ≡ Less
  span_moves cmp v n h = subst (λ s. then_cmp (on (λ (s : Span P). s.start) cmp) (on (λ (s : Span P). s.end) cmp) (at v.position) s ≡ Less) (sym (span_after v.position (take n v.unread))) (rw h refl)

same_inner : {P T : Type 0} (a b : View P T) → spanned_view a ≡ spanned_view b → a ≡ b
same_inner {P} {T} a b e = ap (λ (x : View (Span P) T). record { position = x.position.end; unread = x.unread; is_open = x.is_open }) e

module _ {P T C : Type 0} where
  -- as long as the places stay, what stood stands
  pub span_lasts : (m n : C → View P T → Type 0) (k l : View P T → Type 0) → ((u : View P T) → ((c : C) (w : View P T) → m c w → n c w) → k u → l u) → (v : View (Span P) T) → ((c : C) (u : View (Span P) T) → span_marks m c u → span_marks n c u) → IsSpannedView k v → IsSpannedView l v
  span_lasts m n k l g v h p = record { inner = p.inner; stands = g p.inner by_place p.stands; is = p.is }
    where
      by_place : (c : C) (w : View P T) → m c w → n c w
      by_place c w i =
          let j = h c (spanned_view w) (record { inner = w; stands = i; is = refl }) in
          subst (n c) (sym (same_inner w j.inner j.is)) j.stands

-- the same error, at that span
pub record AtSpan {T R P E F : Type 0} (s : Observers T R P E) (t : Observers T R (Span P) F) (place : Span P) (old : E) (new : F) : Type 0 where
  pub kind : t.kind new ≡ s.kind old
  pub position : IsAt place (t.position new)
  pub items : t.items new ≡ s.items old
