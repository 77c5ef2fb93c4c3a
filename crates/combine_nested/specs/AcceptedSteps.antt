-- the steps of a run up to the one that is accepted, and the items that they read
use Rattle.std.specs.Prelude.{◌≡◌, ℕ, zero, suc, ◌+◌, Bool, true, false, ◌||◌, nat_lt, List, [], ◌∷◌, length}
use Rattle.std.proofs.Common.{arith, subst}
use Rattle.combine_base.specs.Stream.View.{View, advanced}
use Rattle.combine_base.specs.Parser.Outcome.{Outcome, Accepted, Refused, Undecided}
use Rattle.combine_base.specs.Parser.Meaning.{Meaning, Reading}
use Rattle.combine_base.specs.Sequence.JoinedOutcome.{joined, last_value}
use Rattle.combine_base.specs.Sequence.Readings.{continues}
use Rattle.combine_nested.specs.declared.nested.Next.{Next}
use Rattle.combine_nested.specs.NestedSteps.{FramesChange, Opened, Closed, Denied, TooDeep, answered_for_frame, after_step, after_progress, mark_taken, marked_taken, settles_frames, stepping, steps_at_most, after_item}

module _ {P T R E F I V N U : Type 0} (step : P → T → P) (depth : ℕ) (roots : F → Type 0) (answers : F → N → Type 0) (takes : F → I → Next F V → Type 0) (joins : F → V → Next F V → Type 0) (some : N → Type 0) (means : N → Meaning P T R E I U) where
  abbrev pub reads_item : F → Reading P T I
  reads_item = answered_for_frame step depth roots answers takes joins some means

  abbrev pub steps_at : ℕ → F → List F → Reading P T V
  steps_at = steps_at_most step depth roots answers takes joins some means

  -- Steps from a view on, over frames, the innermost first, to others, and how many tokens they take. Each item is read by a parser that is answered for the innermost frame, where the step before ended.
  pub data Steps : F → List F → View P T → List I → ℕ → F → List F → View P T → Type 0 where
    no_step : (f : F) (fs : List F) (v : View P T) → Steps f fs v [] 0 f fs v
    one_more : (f : F) (fs : List F) (v : View P T) (i : I) (n : ℕ) (c : Bool) (x : Next F V) (g : F) (gs : List F) (is : List I) (m : ℕ) (h : F) (hs : List F) (w : View P T) → reads_item f v (Accepted i n c) → takes f i x → settles_frames depth joins fs x (Opened g gs) → Steps g gs (advanced step n v) is m h hs w → Steps f fs v (i ∷ is) (n + m) h hs w

  -- steps that take so many tokens, up to the last, which closes the outermost frame with the value
  pub record ReadsItems (f : F) (fs : List F) (v : View P T) (a : V) (taken : ℕ) : Type 0 where
    pub items : List I
    pub count : ℕ
    pub top : F
    pub others : List F
    pub place : View P T
    pub before : Steps f fs v items count top others place
    pub last : I
    pub last_count : ℕ
    pub commits : Bool
    pub is_read : reads_item top place (Accepted last last_count commits)
    pub next : Next F V
    pub is_taken : takes top last next
    pub closes : settles_frames depth joins others next (Closed a)
    pub counts : taken ≡ count + last_count

  module _ (n : ℕ) (rest : (f : F) (fs : List F) (v : View P T) (a : V) (k : ℕ) (c : Bool) → steps_at n f fs v (Accepted a k c) → ReadsItems f fs v a k) where
    goes_so : (b : Bool) (g : F) (gs : List F) (u : View P T) (a : V) (k : ℕ) (c : Bool) → after_progress step depth roots answers takes joins some means (steps_at n) b g gs u (Accepted a k c) → ReadsItems g gs u a k
    goes_so true g gs u a k c w = rest g gs u a k c w
    goes_so false g gs u a k c w = absurd (cc)

    module _ (f : F) (fs : List F) (v : View P T) (i : I) (m : ℕ) (d : Bool) (x : Next F V) (h : ℕ) (took : Bool) (r : reads_item f v (Accepted i m d)) (t : takes f i x) where
      ends_so : (e : FramesChange F V) → settles_frames depth joins fs x e → (a : V) (k : ℕ) (c : Bool) → after_step step depth roots answers takes joins some means (steps_at n) h took e (advanced step m v) (Accepted a k c) → ReadsItems f fs v a (m + k)
      ends_so (Opened g gs) s a k c w =
          let z : ReadsItems g gs (advanced step m v) a k = goes_so (took || nat_lt (length gs) h) g gs (advanced step m v) a k c w in
          record {
            items = i ∷ z.items;
            count = m + z.count;
            top = z.top;
            others = z.others;
            place = z.place;
            before = one_more f fs v i m d x g gs z.items z.count z.top z.others z.place r t s z.before;
            last = z.last;
            last_count = z.last_count;
            commits = z.commits;
            is_read = z.is_read;
            next = z.next;
            is_taken = z.is_taken;
            closes = z.closes;
            counts = (let q = z.counts in omega arith);
          }
      ends_so (Closed b) s a k c w =
          let g : b ≡ a = cc in
          let l : k ≡ 0 = cc in
          record {
            items = [];
            count = 0;
            top = f;
            others = fs;
            place = v;
            before = no_step f fs v;
            last = i;
            last_count = m;
            commits = d;
            is_read = r;
            next = x;
            is_taken = t;
            closes = subst (λ y. settles_frames depth joins fs x (Closed y)) g s;
            counts = omega arith;
          }
      ends_so (Denied text) s a k c w = absurd (cc)
      ends_so TooDeep s a k c w = absurd (cc)

      joined_so : (e : FramesChange F V) → settles_frames depth joins fs x e → (q : Outcome V) → after_step step depth roots answers takes joins some means (steps_at n) h took e (advanced step m v) q → (b : I × Bool) (a : V) (k : ℕ) (c : Bool) → Accepted a k c ≡ joined m d (last_value b) q → ReadsItems f fs v a k
      joined_so e s (Accepted y l j) w b a k c g =
          let z : y ≡ a = cc in
          let t : m + l ≡ k = cc in
          subst (λ u. ReadsItems f fs v a u) t (subst (λ y. ReadsItems f fs v y (m + l)) z (ends_so e s y l j w))
      joined_so e s (Refused j) w b a k c g = absurd (cc)
      joined_so e s Undecided w b a k c g = absurd (cc)

    module _ (f : F) (fs : List F) (v : View P T) (a : V) (k : ℕ) (c : Bool) where
      by_outcome : (p : Outcome I) → reads_item f v p → continues step last_value (after_item step depth roots answers takes joins some means (steps_at n) f fs) v (mark_taken false p) (Accepted a k c) → ReadsItems f fs v a k
      by_outcome (Accepted i m d) r w = joined_so f fs v i m d w.1.0 (length fs) (false || nat_lt 0 m) r w.1.1 w.1.2.0 w.1.2.1 w.0 w.1.2.2 (i, false || nat_lt 0 m) a k c w.2
      by_outcome (Refused j) r w = absurd (cc)
      by_outcome Undecided r w = absurd (cc)

      stepping_so : stepping step depth roots answers takes joins some means (steps_at n) (marked_taken false (reads_item f)) f fs v (Accepted a k c) → ReadsItems f fs v a k
      stepping_so w = by_outcome w.1.0 w.1.1 (subst (λ p. continues step last_value (after_item step depth roots answers takes joins some means (steps_at n) f fs) v p (Accepted a k c)) w.1.2 w.2)

  pub steps_so : (n : ℕ) (f : F) (fs : List F) (v : View P T) (a : V) (k : ℕ) (c : Bool) → steps_at n f fs v (Accepted a k c) → ReadsItems f fs v a k
  steps_so zero f fs v a k c w = absurd w
  steps_so (suc n) f fs v a k c w = stepping_so n (steps_so n) f fs v a k c w
