-- what a run says of the input itself: in place of its pieces, the sizes that they are cut to
use Rattle.std.specs.Prelude.{ℕ, ◌≡◌, ◌+◌, ◌<◌, ◌≤◌, ◌⊎◌, List, length, take, sum, Bool, true, false, Option, Result, Ok, Err, ◌↔◌}
use Rattle.std.specs.Io.KnownBytes.{Appends}
use Rattle.combine_base.specs.Parser.Outcome.{Outcome, Undecided, shape}
use Rattle.combine_base.specs.Parser.Meaning.{Reading}
use Rattle.combine_session.specs.Pieces.{on}
use Rattle.feedline_core.specs.Cut.{pieces_of}
use Rattle.feedline_core.specs.Runs.{Prints, StopsShort}
use Rattle.feedline_core.specs.declared.message.Message.{Message}
use Rattle.feedline_core.specs.declared.fault.Fault.{Fault}
use Rattle.feedline_core.specs.declared.fault.Fault.TheVariants as faults

module _ {S : Type 0} (r : Reading ℕ ℕ Message) (kept : S → Reading ℕ ℕ Message) (limit : Option ℕ) (sizes input : List ℕ) where
  -- These lines: those of the pieces, where the outcome is that of the whole input, and each piece at whose end, more being open, the meaning is undecided has a line, and no other.
  pub record PrintsOn (text : List ℕ) (accepted : Bool) : Type 0 where
    pub prints : Prints r kept limit (pieces_of sizes input) text accepted
    -- an outcome on the input, ended, and none has another shape
    pub is : on r input false prints.outcome
    pub only : (o : Outcome Message) → on r input false o → shape o ≡ shape prints.outcome
    -- the piece of a size ends where the sizes so far say, or with the input
    pub each : (i : ℕ) → i < length sizes → on r (take (sum (take (i + 1) sizes)) input) true Undecided ↔ i < length prints.unread
    -- after the last size what is left is a piece, if it isn't empty
    pub rest : (sum sizes < length input) × on r input true Undecided ↔ length sizes < length prints.unread
    pub most : length prints.unread ≤ length sizes + 1

  abbrev pub ran_on : Option (List ℕ) → Option (List ℕ) → Result Bool Fault → Type 0
  ran_on old new (Ok accepted) = (text : List ℕ) × PrintsOn text accepted × Appends old new text
  ran_on old new (Err why) = (why ≡ faults.Memory) ⊎ (why ≡ faults.Write) ⊎ ((why ≡ faults.TooLong) × (text : List ℕ) × StopsShort r kept limit (pieces_of sizes input) text × Appends old new text)

  -- those lines are written, or memory or the writer failed, or a piece was too long
  pub record RunsOnInput (old new : Option (List ℕ)) (result : Result Bool Fault) : Type 0 where
    pub is : ran_on old new result
