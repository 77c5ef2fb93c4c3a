-- what a call of parts and one more promises
use Rattle.std.specs.Prelude.{false}
use Rattle.combine_base.specs.Error.Errors.{Observers}
use Rattle.combine_base.specs.Parser.Answer.{Answers, world}
use Rattle.combine_base.specs.Parser.Meaning.{Meaning, MeansSame}
use Rattle.combine_base.specs.Parser.Reasons.{ReasonedCall}
use Rattle.combine_base.specs.Sequence.Parts.{call_from}
use Rattle.combine_base.specs.Sequence.Places.{begins_sequence, valid_in}
use Rattle.combine_base.specs.Sequence.Tuples.{followed}
use Rattle.combine_base.specs.Stream.Calls.{Passes}
use Rattle.combine_base.specs.declared.error.result.ParseResult.{ParseResult}
use Rattle.combine_base.specs.declared.parser.Parser as parser
use Rattle.combine_base.specs.declared.sequence.SequencePlace.{SequencePlace}
use Rattle.combine_base.specs.declared.sequence.SequenceState.{SequenceState}
use Rattle.combine_base.specs.declared.sequence.tuple.longer.front.Front as front
use Rattle.combine_base.specs.declared.stream.StreamOnce as stream

module _ {Last Input Checkpoint T R P E A B C S U Z : Type 0} (place : Z → SequencePlace S (SequenceState A U)) (f : A → B → C) where
  -- what a call of the whole promises, but that its parts stay lawful: m and m' are what the parts before the last mean before and after it
  pub record FollowsParts (i : stream.Ghosts Input T R P E) (observers : Observers T R P E) (fresh before_valid : S → Type 0) (q : parser.Ghosts Last Input U B Checkpoint T R P E) (m m' : Meaning P T R E A S) (last last' : Last) (input left : Input) (from state : Z) (result : ParseResult C E) : Type 0 where
    pub valid : valid_in place before_valid q.valid state
    pub same : MeansSame (followed i.step observers place f m (q.meaning last)) (followed i.step observers place f m' (q.meaning last'))
    pub passes : Passes (i.marks input) (i.marks left) (i.failures input) (i.failures left)
    pub refuses : ReasonedCall observers (followed i.step observers place f m (q.meaning last)) false from (i.view input) (i.view left) result
    pub answers : Answers (world i.step observers i.counts_failures (begins_sequence place fresh)) (followed i.step observers place f m (q.meaning last)) (call_from from state (i.view input) (i.view left) (i.failures input) (i.failures left)) result

-- Parts that were lent, the front of a longer tuple, and one to four behind them.
module _ {Q Input Checkpoint T R P E A S : Type 0} (i : stream.Ghosts Input T R P E) (observers : Observers T R P E) (q : front.Ghosts Q Input A S Checkpoint T R P E) (old new : Q) where
  -- what a call of them and the first promises
  abbrev pub FollowsPartsByOne : {B C U X Z : Type 0} (at : Z → SequencePlace S (SequenceState A U)) (g : A → B → C) (r : parser.Ghosts X Input U B Checkpoint T R P E) (x x' : X) (input left : Input) (from state : Z) → ParseResult C E → Type 0
  FollowsPartsByOne at g r = FollowsParts at g i observers q.fresh q.valid r (q.meaning old) (q.meaning new)

  module _ {B C U X K : Type 0} (place : K → SequencePlace S (SequenceState A U)) (f : A → B → C) (e : parser.Ghosts X Input U B Checkpoint T R P E) (x x' : X) where
    -- which states begin these, which are valid, and what they mean before and after
    abbrev begins_one : K → Type 0
    begins_one = begins_sequence place q.fresh

    abbrev valid_one : K → Type 0
    valid_one = valid_in place q.valid e.valid

    abbrev before_one : Meaning P T R E C K
    before_one = followed i.step observers place f (q.meaning old) (e.meaning x)

    abbrev after_one : Meaning P T R E C K
    after_one = followed i.step observers place f (q.meaning new) (e.meaning x')

    -- and of a call with the second
    abbrev pub FollowsPartsByTwo : {D F V Y Z : Type 0} (at : Z → SequencePlace K (SequenceState C V)) (g : C → D → F) (r : parser.Ghosts Y Input V D Checkpoint T R P E) (y y' : Y) (input left : Input) (from state : Z) → ParseResult F E → Type 0
    FollowsPartsByTwo at g r = FollowsParts at g i observers begins_one valid_one r before_one after_one

    module _ {D F V Y L : Type 0} (place' : L → SequencePlace K (SequenceState C V)) (f' : C → D → F) (e' : parser.Ghosts Y Input V D Checkpoint T R P E) (y y' : Y) where
      abbrev begins_two : L → Type 0
      begins_two = begins_sequence place' begins_one

      abbrev valid_two : L → Type 0
      valid_two = valid_in place' valid_one e'.valid

      abbrev before_two : Meaning P T R E F L
      before_two = followed i.step observers place' f' before_one (e'.meaning y)

      abbrev after_two : Meaning P T R E F L
      after_two = followed i.step observers place' f' after_one (e'.meaning y')

      -- with the third
      abbrev pub FollowsPartsByThree : {G H W O Z : Type 0} (at : Z → SequencePlace L (SequenceState F W)) (g : F → G → H) (r : parser.Ghosts O Input W G Checkpoint T R P E) (z z' : O) (input left : Input) (from state : Z) → ParseResult H E → Type 0
      FollowsPartsByThree at g r = FollowsParts at g i observers begins_two valid_two r before_two after_two

      module _ {G H W O M : Type 0} (place'' : M → SequencePlace L (SequenceState F W)) (f'' : F → G → H) (e'' : parser.Ghosts O Input W G Checkpoint T R P E) (z z' : O) where
        -- with the fourth
        abbrev pub FollowsPartsByFour : {I J N W' Z : Type 0} (at : Z → SequencePlace M (SequenceState H W')) (g : H → J → N) (r : parser.Ghosts I Input W' J Checkpoint T R P E) (w w' : I) (input left : Input) (from state : Z) → ParseResult N E → Type 0
        FollowsPartsByFour at g r = FollowsParts at g i observers (begins_sequence place'' begins_two) (valid_in place'' valid_two e''.valid) r (followed i.step observers place'' f'' before_two (e''.meaning z)) (followed i.step observers place'' f'' after_two (e''.meaning z'))
