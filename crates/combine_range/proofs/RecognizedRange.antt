-- what `recognize` gives
use Rattle.std.proofs.Common.{arith, ℕ, ◌<◌, ◌≡◌, ◌↔◌, Bool, List, refl, sym, subst}
use Rattle.combine_base.specs.Stream.View.{View, advanced}
use Rattle.combine_base.specs.Parser.Outcome.{Outcome, Accepted, Refused, Undecided}
use Rattle.combine_base.specs.Parser.ValueMap.{mapped_reading}
use Rattle.combine_base.specs.Parser.Meaning.{Reading}
use Rattle.combine_stream.specs.Range.Ranges.{place_at_zero}
use Rattle.combine_range.specs.Range.RecognizedRange.{TakesExactly, Recognizes, On, Split, sliced}

module _ {P T V R : Type 0} (size : T → ℕ) (filled : (t : T) → 0 < size t) (spells : R → List T → Type 0) (step : P → T → P) (r : Reading P T V) (v : View P T) where
  exact : (p : R × V) (k n : ℕ) (c : Bool) (i : Outcome V) → n ≡ 0 → r (advanced step n v) i → sliced size spells step v.unread n i (Accepted p k c) → TakesExactly spells r v p.0 k c
  exact p k n c (Accepted a m d) e w s =
      let same : m ≡ k = omega (arith, s.2, e) in
      (a, d, subst (λ j. r v (Accepted a j d)) same (subst (λ j. r (advanced step j v) (Accepted a m d)) e w), s.0, s.3)
  exact p k n c (Refused d) e w s = absurd s
  exact p k n c Undecided e w s = absurd s

  of_case : (p : R × V) (k : ℕ) (c : Bool) → Recognizes size spells step 0 r v (Accepted p k c) → TakesExactly spells r v p.0 k c
  of_case p k c (On g) = exact p k g.before c g.inner (place_at_zero size filled v.unread g.before g.place) g.meant g.is
  of_case p k c (Split a i) = absurd (cc)

  pub recognized_exactly : (x : R) (k : ℕ) (c : Bool) → mapped_reading (Recognizes size spells step 0 r) (λ (both : R × V) (range : R). range ≡ both.0) v (Accepted x k c) ↔ TakesExactly spells r v x k c
  recognized_exactly x k c = (
    λ q. subst (λ y. TakesExactly spells r v y k c) (sym q.2) (of_case q.0 k c q.1),
    λ h. ((x, h.0), On (record { before = 0; place = record { within = omega arith; items = refl }; inner = Accepted h.0 k h.1; meant = h.2; is = (h.3, refl, omega arith, h.4) }), refl),
  )
