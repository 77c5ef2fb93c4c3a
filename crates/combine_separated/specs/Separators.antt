-- what separators give, and turns that begin with it
use Rattle.std.specs.Prelude.{ℕ, Bool, false}
use Rattle.std.proofs.Common.{sym, subst}
use Rattle.combine_base.specs.Error.Errors.{Observers}
use Rattle.combine_base.specs.Stream.View.{View}
use Rattle.combine_base.specs.Parser.GivenValues.{GivesOnly, ReadsOnly}
use Rattle.combine_base.specs.Parser.Meaning.{Meaning, Reading}
use Rattle.combine_base.specs.Parser.Outcome.{Outcome, Accepted, Refused, Undecided}
use Rattle.combine_base.specs.Sequence.JoinedOutcome.{joined}
use Rattle.combine_base.specs.Sequence.Readings.{continues, following, sequel}
use Rattle.combine_repeat.specs.Turns.Turn.{TurnsGive}
use Rattle.combine_separated.specs.Pair.{led_valid, pair, put_to}
use Rattle.combine_separated.specs.Separated.{first_element, first_then, kept_reading, later_turn, lead_good, separated_valid, then_element, turn_place, valid_at}
use Rattle.combine_separated.specs.declared.pair.PairState.{PairState}
use Rattle.combine_separated.specs.declared.pair.PairState.TheVariants.{Separator, Part}
use Rattle.combine_separated.specs.declared.separated.TurnPlace.{TurnPlace}
use Rattle.combine_separated.specs.declared.separated.TurnPlace.TheVariants.{First, Later}

-- the value of an acceptance is good
abbrev accepts_good : {A : Type 0} → (A → Type 0) → Outcome A → Type 0
accepts_good good (Accepted a n k) = good a
accepts_good good (Refused k) = Unit {0}
accepts_good good Undecided = Unit {0}

joined_good : {A B : Type 0} (good : A → Type 0) (better : B → Type 0) (i : ℕ) (c : Bool) (f : A → B) → ((a : A) → good a → better (f a)) → (p : Outcome A) → accepts_good good p → accepts_good better (joined i c f p)
joined_good good better i c f h (Accepted a n k) g = h a g
joined_good good better i c f h (Refused k) g = tt
joined_good good better i c f h Undecided g = tt

reads_good : {P T A : Type 0} (good : A → Type 0) (r : Reading P T A) → ReadsOnly r good → (v : View P T) (p : Outcome A) → r v p → accepts_good good p
reads_good good r h v (Accepted a n k) w = h.one v a n k w
reads_good good r h v (Refused k) w = tt
reads_good good r h v Undecided w = tt

any_good : {A : Type 0} (p : Outcome A) → accepts_good (λ _. Unit {0}) p
any_good (Accepted a n k) = tt
any_good (Refused k) = tt
any_good Undecided = tt

module _ {P T : Type 0} where
  following_good : {A B : Type 0} (good : A → Type 0) (better : B → Type 0) (c : Bool) (f : A → B) (r : Reading P T A) → ((a : A) → good a → better (f a)) → ReadsOnly r good → ReadsOnly (following c f r) better
  following_good good better c f r h k = record { one = λ v b n d w. subst (accepts_good better) (sym w.2) (joined_good good better 0 c f h w.0 (reads_good good r k v w.0 w.1)) }

  following_any : {A B : Type 0} (better : B → Type 0) (c : Bool) (f : A → B) (r : Reading P T A) → ((a : A) → better (f a)) → ReadsOnly (following c f r) better
  following_any better c f r h = following_good (λ _. Unit {0}) better c f r (λ a t. h a) (record { one = λ v a n d w. tt })

  module _ {A B : Type 0} (step : P → T → P) (good : A → Type 0) (r : Reading P T A) (q : A → Reading P T B) (h : ReadsOnly r good) where
    continues_good : (v : View P T) (p : Outcome A) → r v p → (t : A × B) (n : ℕ) (k : Bool) → continues step put_to q v p (Accepted t n k) → good t.0
    continues_good v (Accepted a i c) w t n k u = subst (accepts_good (λ t. good t.0)) (sym u.2) (joined_good (λ _. Unit {0}) (λ t. good t.0) i c (put_to a) (λ b g. h.one v a i c w) u.0 (any_good u.0))
    continues_good v (Refused c) w t n k u = absurd (cc)
    continues_good v Undecided w t n k u = absurd (cc)

    sequel_good : ReadsOnly (sequel step put_to r q) (λ t. good t.0)
    sequel_good = record { one = λ v t n k w. continues_good v w.0 w.1 t n k w.2 }

module _ {P T R E O V W U : Type 0} (step : P → T → P) (errors : Observers T R P E) {good : O → Type 0} {valid : W → Type 0} (part_valid : U → Type 0) {s : Meaning P T R E O W} (m : Meaning P T R E V U) (h : GivesOnly valid s good) where
  pair_gives : GivesOnly (led_valid good valid part_valid) (pair step errors s m) (λ t. good t.0)
  pair_gives = record { whole = sequel_good step good s.whole (λ _. m.whole) h.whole; rest = resting }
    where
      resting : (z : PairState O W U) → led_valid good valid part_valid z → ReadsOnly ((pair step errors s m).rest z) (λ t. good t.0)
      resting (Separator w) d = sequel_good step good (s.rest w) (λ _. m.whole) (h.rest w d.1)
      resting (Part o c u) d = following_any (λ t. good t.0) c (put_to o) (m.rest u) (λ b. d.0)

  -- the separator of each element that a turn gives is good
  pub separated_gives : TurnsGive (separated_valid part_valid (led_valid good valid part_valid)) (first_then first_element then_element m (pair step errors s m)) (later_turn then_element (pair step errors s m)) (lead_good good)
  separated_gives = record { first = record { whole = first m.whole; rest = λ z. resting (turn_place z) }; later = later (pair step errors s m).whole pair_gives.whole }
    where
      first : (r : Reading P T V) → ReadsOnly (following false first_element r) (lead_good good)
      first r = following_any (lead_good good) false first_element r (λ a. tt)

      later : (r : Reading P T (O × V)) → ReadsOnly r (λ t. good t.0) → ReadsOnly (following false then_element r) (lead_good good)
      later r g = following_good (λ t. good t.0) (lead_good good) false then_element r (λ t x. x) g

      resting : (z : TurnPlace U (PairState O W U)) → valid_at part_valid (led_valid good valid part_valid) z → ReadsOnly (kept_reading first_element then_element m (pair step errors s m) z) (lead_good good)
      resting (First u) d = first (m.rest u)
      resting (Later z) d = later ((pair step errors s m).rest z) (pair_gives.rest z d)

-- where nothing is asked of what a separator gives
pub any_given : {P T R E O W : Type 0} {valid : W → Type 0} {s : Meaning P T R E O W} → GivesOnly valid s (λ _. Unit {0})
any_given = record { whole = record { one = λ v a n c w. tt }; rest = λ s k. record { one = λ v a n c w. tt } }
