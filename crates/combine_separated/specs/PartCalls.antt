-- a call of a part from a state of its own, inside a call with other states; and calls of the parts of a turn, by the stream before and after them
use Rattle.std.specs.Prelude.{◌≡◌, ◌⊎◌, false}
use Rattle.combine_base.specs.Stream.View.{View}
use Rattle.combine_base.specs.Parser.Meaning.{Meaning}
use Rattle.combine_base.specs.Parser.Answer.{World, Answers, world}
use Rattle.combine_base.specs.Parser.DriverAnswers.{NeedsMore}
use Rattle.combine_base.specs.Parser.Reasons.{Reasoned}
use Rattle.combine_base.specs.Sequence.Parts.{joined_answer}
use Rattle.combine_base.specs.declared.stream.Failures.{Failures}
use Rattle.combine_base.specs.declared.error.result.ParseResult.{ParseResult}
use Rattle.combine_base.specs.Error.Errors.{Observers}
use Rattle.combine_base.specs.declared.stream.StreamOnce as stream
use Rattle.combine_separated.specs.Pair.{pair, pair_begins}
use Rattle.combine_separated.specs.Separated.{later_kept}
use Rattle.combine_separated.specs.declared.pair.PairState.{PairState}
use Rattle.combine_separated.specs.declared.separated.SeparatedState.{SeparatedState}

module _ {P T R A B S S' E : Type 0} (w : World P T S E) (m : Meaning P T R E A S) (valid : S → Type 0) (f : A → B) (keep : S → S') where
  -- the part was run from that state; on need of more its state is kept, and else what was there at the start
  pub record RanPart (state : S) (start left : S') (old new : View P T) (before after : Failures) (result : ParseResult B E) : Type 0 where
    pub stopped : S
    pub answer : ParseResult A E
    pub answers : Answers w m (record { first = false; state = state; left = stopped; old = old; new = new; before = before; after = after }) answer
    pub refuses : Reasoned w.kind new.is_open (m.refuses_from state old new) answer
    pub is : result ≡ joined_answer false f answer
    pub leaves : (NeedsMore w.kind new.is_open answer × (left ≡ keep stopped) × valid stopped) ⊎ ((NeedsMore w.kind new.is_open answer → ⊥) × (left ≡ start))

module _ {Input P T R E : Type 0} (i : stream.Ghosts Input T R P E) (observers : Observers T R P E) where
  -- a part
  abbrev pub RanCall : {A B S S' : Type 0} (fresh : S → Type 0) (m : Meaning P T R E A S) (valid : S → Type 0) (f : A → B) (keep : S → S') (state : S) (start left : S') (input after : Input) → ParseResult B E → Type 0
  RanCall fresh m valid f keep state start left input after result = RanPart (world i.step observers i.counts_failures fresh) m valid f keep state start left (i.view input) (i.view after) (i.failures input) (i.failures after) result

  -- a separator, and a part behind it
  abbrev pub RanLaterCall : {O V B W U : Type 0} (fresh : W → Type 0) (m : Meaning P T R E O W) (n : Meaning P T R E V U) (valid : PairState O W U → Type 0) (f : O × V → B) (state : PairState O W U) (start left : SeparatedState O W U) (input after : Input) → ParseResult B E → Type 0
  RanLaterCall fresh m n valid f = RanCall (pair_begins fresh) (pair i.step observers m n) valid f later_kept
