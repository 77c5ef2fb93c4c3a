-- the steps of a run up to the one that is refused
use Rattle.std.specs.Prelude.{◌≡◌, ℕ, zero, suc, ◌+◌, Bool, true, false, ◌||◌, nat_lt, List, [], ◌∷◌, length, refl}
use Rattle.std.proofs.Common.{subst}
use Rattle.combine_base.specs.Stream.View.{View, advanced}
use Rattle.combine_base.specs.Parser.Outcome.{Outcome, Accepted, Refused, Undecided}
use Rattle.combine_base.specs.Parser.Meaning.{Meaning, Reading}
use Rattle.combine_base.specs.Sequence.JoinedOutcome.{joined, last_value}
use Rattle.combine_base.specs.Sequence.Readings.{continues}
use Rattle.combine_nested.specs.declared.nested.Next.{Next}
use Rattle.combine_nested.specs.NestedSteps.{FramesChange, Opened, Closed, Denied, TooDeep, after_step, after_progress, mark_taken, marked_taken, settles_frames, stepping, after_item}
use Rattle.combine_nested.specs.AcceptedSteps as accepted

module _ {P T R E F I V N U : Type 0} (step : P → T → P) (depth : ℕ) (roots : F → Type 0) (answers : F → N → Type 0) (takes : F → I → Next F V → Type 0) (joins : F → V → Next F V → Type 0) (some : N → Type 0) (means : N → Meaning P T R E I U) where
  abbrev reads_item : F → Reading P T I
  reads_item = accepted.reads_item step depth roots answers takes joins some means

  abbrev steps_at : ℕ → F → List F → Reading P T V
  steps_at = accepted.steps_at step depth roots answers takes joins some means

  abbrev pub Steps : F → List F → View P T → List I → ℕ → F → List F → View P T → Type 0
  Steps = accepted.Steps step depth roots answers takes joins some means

  -- why a step is refused: its parser refuses; or its item was read, and a frame refuses with a message, or a frame too many is opened, or no token was taken, with as many frames as there were
  pub data RefusedStep (f : F) (fs : List F) (v : View P T) : Type 0 where
    parser_refuses : (c : Bool) → reads_item f v (Refused c) → RefusedStep f fs v
    frame_refuses : (i : I) (n : ℕ) (c : Bool) (x : Next F V) (text : List ℕ) → reads_item f v (Accepted i n c) → takes f i x → settles_frames depth joins fs x (Denied text) → RefusedStep f fs v
    too_deep : (i : I) (n : ℕ) (c : Bool) (x : Next F V) → reads_item f v (Accepted i n c) → takes f i x → settles_frames depth joins fs x TooDeep → RefusedStep f fs v
    takes_nothing : (i : I) (n : ℕ) (c : Bool) (x : Next F V) (g : F) (gs : List F) → reads_item f v (Accepted i n c) → takes f i x → settles_frames depth joins fs x (Opened g gs) → (nat_lt 0 n || nat_lt (length gs) (length fs)) ≡ false → RefusedStep f fs v

  -- steps up to the one that is refused
  pub record RefusesItems (f : F) (fs : List F) (v : View P T) : Type 0 where
    pub items : List I
    pub count : ℕ
    pub top : F
    pub others : List F
    pub place : View P T
    pub before : Steps f fs v items count top others place
    pub refused : RefusedStep top others place

  module _ (n : ℕ) (rest : (f : F) (fs : List F) (v : View P T) (c : Bool) → steps_at n f fs v (Refused c) → RefusesItems f fs v) (f : F) (fs : List F) (v : View P T) where
    here : RefusedStep f fs v → RefusesItems f fs v
    here r = record { items = []; count = 0; top = f; others = fs; place = v; before = accepted.no_step f fs v; refused = r }

    module _ (i : I) (m : ℕ) (d : Bool) (x : Next F V) (r : reads_item f v (Accepted i m d)) (t : takes f i x) where
      goes_so : (g : F) (gs : List F) (s : settles_frames depth joins fs x (Opened g gs)) (b : Bool) (c : Bool) → (nat_lt 0 m || nat_lt (length gs) (length fs)) ≡ b → after_progress step depth roots answers takes joins some means (steps_at n) b g gs (advanced step m v) (Refused c) → RefusesItems f fs v
      goes_so g gs s true c e w =
          let z = rest g gs (advanced step m v) c w in
          record { items = i ∷ z.items; count = m + z.count; top = z.top; others = z.others; place = z.place; before = accepted.one_more f fs v i m d x g gs z.items z.count z.top z.others z.place r t s z.before; refused = z.refused }
      goes_so g gs s false c e w = here (takes_nothing i m d x g gs r t s e)

      ends_so : (e : FramesChange F V) → settles_frames depth joins fs x e → (c : Bool) → after_step step depth roots answers takes joins some means (steps_at n) (length fs) (nat_lt 0 m) e (advanced step m v) (Refused c) → RefusesItems f fs v
      ends_so (Opened g gs) s c w = goes_so g gs s (nat_lt 0 m || nat_lt (length gs) (length fs)) c refl w
      ends_so (Closed b) s c w = absurd (cc)
      ends_so (Denied text) s c w = here (frame_refuses i m d x text r t s)
      ends_so TooDeep s c w = here (too_deep i m d x r t s)

      joined_so : (e : FramesChange F V) → settles_frames depth joins fs x e → (q : Outcome V) → after_step step depth roots answers takes joins some means (steps_at n) (length fs) (nat_lt 0 m) e (advanced step m v) q → (b : I × Bool) (c : Bool) → Refused c ≡ joined m d (last_value b) q → RefusesItems f fs v
      joined_so e s (Accepted y l j) w b c g = absurd (cc)
      joined_so e s (Refused j) w b c g = ends_so e s j w
      joined_so e s Undecided w b c g = absurd (cc)

    by_outcome : (c : Bool) (p : Outcome I) → reads_item f v p → continues step last_value (after_item step depth roots answers takes joins some means (steps_at n) f fs) v (mark_taken false p) (Refused c) → RefusesItems f fs v
    by_outcome c (Accepted i m d) r w = joined_so i m d w.1.0 r w.1.1 w.1.2.0 w.1.2.1 w.0 w.1.2.2 (i, false || nat_lt 0 m) c w.2
    by_outcome c (Refused j) r w = here (parser_refuses j r)
    by_outcome c Undecided r w = absurd (cc)

    stepping_so : (c : Bool) → stepping step depth roots answers takes joins some means (steps_at n) (marked_taken false (reads_item f)) f fs v (Refused c) → RefusesItems f fs v
    stepping_so c w = by_outcome c w.1.0 w.1.1 (subst (λ p. continues step last_value (after_item step depth roots answers takes joins some means (steps_at n) f fs) v p (Refused c)) w.1.2 w.2)

  pub refusal_so : (n : ℕ) (f : F) (fs : List F) (v : View P T) (c : Bool) → steps_at n f fs v (Refused c) → RefusesItems f fs v
  refusal_so zero f fs v c w = absurd w
  refusal_so (suc n) f fs v c w = stepping_so n (refusal_so n) f fs v c w
