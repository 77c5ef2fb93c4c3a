-- what runs of the parts of a sequence need and promise
use Rattle.std.specs.Prelude.{◌≡◌, ◌⊎◌, Bool, true, false, refl}
use Rattle.std.proofs.Common.{sym, subst}
use Rattle.combine_base.specs.Stream.View.{View}
use Rattle.combine_base.specs.Stream.Calls.{Passes}
use Rattle.combine_base.specs.Error.Errors.{Observers}
use Rattle.combine_base.specs.Parser.Meaning.{Meaning, MeansSame}
use Rattle.combine_base.specs.Parser.Answer.{World, CallRecord, Answers, world}
use Rattle.combine_base.specs.Parser.Drivers.{Explained}
use Rattle.combine_base.specs.Parser.DriverAnswers.{NeedsMore}
use Rattle.combine_base.specs.declared.stream.Failures.{Failures}
use Rattle.combine_base.specs.declared.parser.Parser as parser
use Rattle.combine_base.specs.declared.stream.StreamOnce as stream
use Rattle.combine_base.specs.declared.error.tracked.Tracked.{Tracked}
use Rattle.combine_base.specs.declared.error.result.ParseResult.{ParseResult}
use Rattle.combine_base.specs.declared.error.result.ParseResult.TheVariants.{CommitOk, PeekOk, CommitErr, PeekErr}
use Rattle.combine_base.specs.declared.sequence.SequenceState.{SequenceState}
use Rattle.combine_base.specs.declared.sequence.SequencePlace.{SequencePlace}
use Rattle.combine_base.specs.declared.sequence.SequencePlace.TheVariants.{Before, Last}

-- the state that a call runs from: a default one where it begins afresh, and else the one that it was given
pub record RunsFrom {S : Type 0} (fresh : S → Type 0) (first : Bool) (given s : S) : Type 0 where
  pub afresh : first ≡ true → fresh s
  pub kept : first ≡ false → s ≡ given

-- that state is valid
pub valid_from : {S : Type 0} {fresh valid : S → Type 0} {first : Bool} {given s : S} → ((s : S) → fresh s → valid s) → RunsFrom fresh first given s → valid given → valid s
valid_from {S} {fresh} {valid} {first} {given} {s} h r v = by_mode first r
  where
    by_mode : (first : Bool) → RunsFrom fresh first given s → valid s
    by_mode true r = h s (r.afresh refl)
    by_mode false r = subst valid (sym (r.kept refl)) v

-- a call from a state, whatever the mode
abbrev pub call_from : {P T S : Type 0} → S → S → View P T → View P T → Failures → Failures → CallRecord P T S
call_from s left old new before after = record { first = false; state = s; left = left; old = old; new = new; before = before; after = after }

-- an acceptance after parts of which one was committed, or none
abbrev pub accepted_as : {V E : Type 0} → Bool → V → ParseResult V E
accepted_as true v = CommitOk v
accepted_as false v = PeekOk v

-- and a peeked refusal
abbrev pub refused_as : {V E : Type 0} → Bool → Tracked E → ParseResult V E
refused_as true t = CommitErr t.error
refused_as false t = PeekErr t

-- the answer of a part, joined to those before it
abbrev pub joined_answer : {A B E : Type 0} → Bool → (A → B) → ParseResult A E → ParseResult B E
joined_answer c f (CommitOk a) = CommitOk (f a)
joined_answer c f (PeekOk a) = accepted_as c (f a)
joined_answer c f (CommitErr e) = CommitErr e
joined_answer c f (PeekErr t) = refused_as c t

-- the last part and the states of the sequence
module _ {P T R B C S L U Z E : Type 0} (w : World P T U E) (errors : Observers T R P E) (valid : U → Type 0) (fresh : Z → Type 0) (place : Z → SequencePlace S L) (m : Meaning P T R E B U) (c : Bool) (f : B → C) (kept : U → L) (left : Z) (old new : View P T) (before after : Failures) (result : ParseResult C E) where
  -- The last part was run from a state, with c and f for what was before it: the sequence answers what it answered, joined. A peeked refusal was explained.
  pub record RunsLastPart (state : U) : Type 0 where
    pub stopped : U
    pub answer : ParseResult B E
    pub answers : Answers w m (call_from state stopped old new before after) answer
    pub explained : Explained errors m (m.refuses_from state) old new answer
    pub is : result ≡ joined_answer c f answer
    -- need of more keeps the state in which it stopped; every other answer leaves one that begins the sequence
    pub leaves : (NeedsMore w.kind new.is_open answer × (place left ≡ Last (kept stopped)) × valid stopped) ⊎ ((NeedsMore w.kind new.is_open answer → ⊥) × fresh left)

  -- from the beginning
  pub record RunsLastAfresh : Type 0 where
    pub state : U
    pub afresh : w.fresh state
    pub runs : RunsLastPart state

module _ {P T R A B C S U Z E : Type 0} (w : World P T U E) (errors : Observers T R P E) (valid : U → Type 0) (fresh : Z → Type 0) (place : Z → SequencePlace S (SequenceState A U)) (f : A → B → C) (m : Meaning P T R E B U) (kept : S) (left : Z) (old new : View P T) (before after : Failures) (result : ParseResult C E) where
  -- the last part was not run
  pub record StopsBeforeLast (same : ParseResult C E) (leaves : Type 0) : Type 0 where
    pub answer : result ≡ same
    pub state : leaves
    pub view : new ≡ old
    pub failures : after ≡ before

  abbrev pub runs_last_afresh : A → Bool → Type 0
  runs_last_afresh a c = RunsLastAfresh w errors valid fresh place m c (f a) (λ s. record { value = a; committed = c; state = s }) left old new before after result

  abbrev pub continues_sequence : ParseResult A E → Type 0
  continues_sequence (CommitOk a) = runs_last_afresh a true
  continues_sequence (PeekOk a) = runs_last_afresh a false
  continues_sequence (CommitErr e) = StopsBeforeLast (CommitErr e) (place left ≡ Before kept)
  continues_sequence (PeekErr t) = StopsBeforeLast (PeekErr t) (fresh left)

  -- what a sequence does after the parts before its last one have answered so, and left the state kept
  pub record ContinuesSequence (answer : ParseResult A E) : Type 0 where
    pub is : continues_sequence answer

-- the parser that is the last part, by its record: what its runs promise, each as one fact
module _ {Self Input A B C S U Z Checkpoint T R P E : Type 0} (p : parser.Ghosts Self Input U B Checkpoint T R P E) (i : stream.Ghosts Input T R P E) (observers : Observers T R P E) (part_fresh : U → Type 0) (fresh : Z → Type 0) (place : Z → SequencePlace S (SequenceState A U)) (f : A → B → C) (old new : Self) (input left : Input) where
  -- what a run of the last part promises
  pub record CalledLast (from : SequenceState A U) (state : Z) (result : ParseResult C E) : Type 0 where
    pub lawful : p.lawful new
    pub same : MeansSame (p.meaning old) (p.meaning new)
    pub passes : Passes (i.marks input) (i.marks left) (i.failures input) (i.failures left)
    pub runs : RunsLastPart (world i.step observers i.counts_failures part_fresh) observers p.valid fresh place (p.meaning old) from.committed (f from.value) (λ s. record { value = from.value; committed = from.committed; state = s }) state (i.view input) (i.view left) (i.failures input) (i.failures left) result from.state

  -- and the rest of a sequence, after the parts before it have answered so and left the state kept
  pub record CalledRest (kept : S) (state : Z) (result : ParseResult C E) (answer : ParseResult A E) : Type 0 where
    pub lawful : p.lawful new
    pub same : MeansSame (p.meaning old) (p.meaning new)
    pub passes : Passes (i.marks input) (i.marks left) (i.failures input) (i.failures left)
    pub goes_on : ContinuesSequence (world i.step observers i.counts_failures part_fresh) observers p.valid fresh place f (p.meaning old) kept state (i.view input) (i.view left) (i.failures input) (i.failures left) result answer
