-- a first turn, and then turns under the rule of `many`
use Rattle.std.specs.Prelude.{◌≡◌, false}
use Rattle.combine_base.specs.Stream.View.{View, advanced}
use Rattle.combine_base.specs.Parser.Outcome.{Outcome, Accepted, Refused, Undecided, after}
use Rattle.combine_base.specs.Parser.Meaning.{Reading}
use Rattle.combine_repeat.specs.Turns.Blocks.{Collecting, TurnsOutcome}
use Rattle.combine_repeat.specs.Turns.Bounds.{bounded}
use Rattle.combine_repeat.specs.Repeat.Repeated.{no_value_ends}
use Rattle.combine_repeat.specs.declared.bounds.Bounds.TheVariants.{Unbounded}

module _ {P T A V : Type 0} (step : P → T → P) (c : Collecting A V) (first later : Reading P T A) where
  -- behind an acceptance, whose value is collected, turns that each take a token, up to a peeked refusal; else there are none
  abbrev pub then_turns : View P T → Outcome A → Outcome V → Type 0
  then_turns v (Accepted a n k) o = (h : c.Held) × c.more c.none a h × (q : Outcome V) × TurnsOutcome step (bounded Unbounded no_value_ends) c (λ _. later) later (record { mark = record { number = 0; took_before = false }; held = h; committed = false }) (advanced step n v) q × (o ≡ after n k q)
  then_turns v (Refused k) o = o ≡ Refused k
  then_turns v Undecided o = o ≡ Undecided

  abbrev pub one_then_turns : Reading P T V
  one_then_turns v o = (p : Outcome A) × first v p × then_turns v p o
