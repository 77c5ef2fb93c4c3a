-- steps over a cut, and a step before others
use Rattle.std.proofs.Common.{ℕ, suc, ◌≡◌, Bool, true, false, ◌||◌, nat_lt, List, length, refl, sym, ◌∙◌, ap, subst}
use Rattle.combine_base.specs.Parser.Answer.{Resumes}
use Rattle.combine_base.specs.Parser.Meaning.{Meaning, Reading}
use Rattle.combine_base.specs.Parser.Outcome.{Outcome, Accepted, Refused, Undecided, after, IsCommitted}
use Rattle.combine_base.specs.Sequence.Readings.{continues}
use Rattle.combine_base.specs.Stream.View.{View, advanced}
use Rattle.combine_base.specs.Sequence.JoinedOutcome.{last_value}
use Rattle.combine_base.specs.Stream.Advance.{took_before_over}
use Rattle.combine_nested.specs.NestedSteps.{FramesChange, Opened, Closed, Denied, TooDeep, answered_for_frame, after_step, after_progress, mark_taken, marked_taken, runs, stepping, steps_at_most, after_item}
use Rattle.combine_nested.specs.declared.nested.Next.{Next}

mark_later : {I : Type 0} (g : Bool) (k : ℕ) (p : Outcome I) → after k false (mark_taken (g || nat_lt 0 k) p) ≡ mark_taken g (after k false p)
mark_later {I} g k (Accepted a n j) = let e = took_before_over g k n in cc
mark_later g k (Refused j) = refl
mark_later g k Undecided = refl

mark_commits : {I : Type 0} (b : Bool) (p : Outcome I) → IsCommitted p → IsCommitted (mark_taken b p)
mark_commits b (Accepted a n j) h = h
mark_commits b (Refused j) h = h
mark_commits b Undecided h = h

pub marked_resumes : {P T I : Type 0} (g b : Bool) (r t : Reading P T I) (k : ℕ) (old new : View P T) → b ≡ (g || nat_lt 0 k) → Resumes r t k old new → Resumes (marked_taken g r) (marked_taken b t) k old new
marked_resumes g b r t k old new e h = record {
  gives = λ x m o f w. (after k false w.0, h.gives x m w.0 f w.1, ap (after k false) (w.2 ∙ ap (λ c. mark_taken c w.0) e) ∙ mark_later g k w.0);
  committed = λ x m o f l w. subst IsCommitted (sym w.2) (mark_commits b w.0 (h.committed x m w.0 f l w.1));
}

module _ {P T R E F I V N U : Type 0} (step : P → T → P) (depth : ℕ) (roots : F → Type 0) (answers : F → N → Type 0) (takes : F → I → Next F V → Type 0) (joins : F → V → Next F V → Type 0) (some : N → Type 0) (means : N → Meaning P T R E I U) where
  abbrev runs_at : F → List F → Reading P T V
  runs_at f fs = runs step depth roots answers takes joins some means f fs

  abbrev steps_at : ℕ → F → List F → Reading P T V
  steps_at n f fs = steps_at_most step depth roots answers takes joins some means n f fs

  -- one step, and then any number, are a number of steps
  module _ (f : F) (fs : List F) (r : Reading P T (I × Bool)) where
    bounded_on : (b : Bool) (g : F) (gs : List F) (v : View P T) (o : Outcome V) → after_progress step depth roots answers takes joins some means runs_at b g gs v o → (n : ℕ) × after_progress step depth roots answers takes joins some means (steps_at n) b g gs v o
    bounded_on true g gs v o w = w
    bounded_on false g gs v o w = (0, w)

    bounded_end : (h : ℕ) (took : Bool) (e : FramesChange F V) (v : View P T) (o : Outcome V) → after_step step depth roots answers takes joins some means runs_at h took e v o → (n : ℕ) × after_step step depth roots answers takes joins some means (steps_at n) h took e v o
    bounded_end h took (Opened g gs) v o w = bounded_on (took || nat_lt (length gs) h) g gs v o w
    bounded_end h took (Closed a) v o w = (0, w)
    bounded_end h took (Denied text) v o w = (0, w)
    bounded_end h took TooDeep v o w = (0, w)

    bounded : (v : View P T) (p : Outcome (I × Bool)) (o : Outcome V) → continues step last_value (after_item step depth roots answers takes joins some means runs_at f fs) v p o → (n : ℕ) × continues step last_value (after_item step depth roots answers takes joins some means (steps_at n) f fs) v p o
    bounded v (Accepted a n k) o u =
        let t = u.1 in
        let e = bounded_end (length fs) a.1 t.2.0 (advanced step n v) u.0 t.2.2 in
        (e.0, (u.0, (t.0, t.1, (t.2.0, t.2.1, e.1)), u.2))
    bounded v (Refused k) o u = (0, u)
    bounded v Undecided o u = (0, u)

    pub stepping_bounded : (v : View P T) (o : Outcome V) → stepping step depth roots answers takes joins some means runs_at r f fs v o → (n : ℕ) × stepping step depth roots answers takes joins some means (steps_at n) r f fs v o
    stepping_bounded v o w = let b = bounded v w.0 o w.2 in (b.0, (w.0, w.1, b.1))

  pub one_more_step : (f : F) (fs : List F) (v : View P T) (o : Outcome V) → stepping step depth roots answers takes joins some means runs_at (marked_taken false (answered_for_frame step depth roots answers takes joins some means f)) f fs v o → runs_at f fs v o
  one_more_step f fs v o w = let b = stepping_bounded f fs (marked_taken false (answered_for_frame step depth roots answers takes joins some means f)) v o w in (suc b.0, b.1)
