-- what is written where an input is fed piece by piece to a parser of messages
use Rattle.std.specs.Prelude.{ℕ, ◌≡◌, ◌+◌, ◌<◌, ◌≤◌, ◌⊎◌, List, [], ◌∷◌, ◌++◌, length, drop, Bool, true, false, Option, Result, Ok, Err}
use Rattle.std.specs.Io.KnownBytes.{Appends}
use Rattle.combine_base.specs.Parser.Outcome.{Outcome, Accepted, Refused, Undecided, after}
use Rattle.combine_base.specs.Parser.Meaning.{Reading}
use Rattle.combine_session.specs.Pieces.{concatenated, on, Decides, AsksAfterFirst, undecided_at}
use Rattle.combine_session.specs.Sessions.{admits}
use Rattle.combine_base.specs.declared.parser.answer.Answer.{Answer}
use Rattle.combine_base.specs.declared.parser.answer.Answer.TheVariants as answers
use Rattle.combine_session.specs.declared.session.SessionError.{SessionError}
use Rattle.combine_session.specs.declared.session.SessionError.TheVariants as errors
use Rattle.combine_base.specs.declared.stream.Kind.TheVariants as kinds
use Rattle.feedline_core.specs.Lines.{more_line, accepted_line, refused_line, decision_line}
use Rattle.feedline_core.specs.declared.message.Message.{Message}
use Rattle.feedline_core.specs.declared.fault.Fault.{Fault}
use Rattle.feedline_core.specs.declared.fault.Fault.TheVariants as faults

abbrev pub is_accepted : {V : Type 0} → Outcome V → Bool
is_accepted (Accepted v n k) = true
is_accepted (Refused k) = false
is_accepted Undecided = false

-- the line of an answer, and whether it accepts
abbrev pub answer_line : {E : Type 0} → Answer Message E → List ℕ
answer_line answers.More = []
answer_line (answers.Accepted m taken committed) = accepted_line m taken
answer_line (answers.Refused error taken committed) = refused_line committed

abbrev pub answer_accepts : {E : Type 0} → Answer Message E → Bool
answer_accepts answers.More = false
answer_accepts (answers.Accepted m taken committed) = true
answer_accepts (answers.Refused error taken committed) = false

-- a line for each number of unread bytes
abbrev pub more_lines : List ℕ → List ℕ
more_lines [] = []
more_lines (u ∷ us) = more_line u ++ more_lines us

-- a growth was refused, of what is fed or within the parse
abbrev pub IsWantOfMemory : SessionError → Type 0
IsWantOfMemory errors.Memory = Unit {0}
IsWantOfMemory (errors.Fault why) = why ≡ kinds.Memory
IsWantOfMemory errors.TooLong = ⊥
IsWantOfMemory errors.Closed = ⊥
IsWantOfMemory errors.Failed = ⊥

module _ {S : Type 0} (r : Reading ℕ ℕ Message) (kept : S → Reading ℕ ℕ Message) where
  -- Of these bytes so many are unread, and the others taken: there is a state from which what is left means, on the unread bytes and whatever follows, what the whole does on all.
  pub record LeavesBytes (fed : List ℕ) (unread : ℕ) : Type 0 where
    pub state : S
    pub taken : ℕ
    pub split : taken + unread ≡ length fed
    pub means : (x : List ℕ) (is_open : Bool) (o : Outcome Message) → kept state (record { position = taken; unread = drop taken fed ++ x; is_open = is_open }) o → on r (fed ++ x) is_open (after taken false o)

  -- How many bytes are unread after each of the first pieces, behind those that were fed before, of which so many were unread: no more than these and the piece.
  abbrev pub leaves_bytes : List ℕ → ℕ → List (List ℕ) → List ℕ → Type 0
  leaves_bytes fed before pieces [] = Unit {0}
  leaves_bytes fed before [] (u ∷ us) = ⊥
  leaves_bytes fed before (p ∷ ps) (u ∷ us) = (u ≤ before + length p) × LeavesBytes (fed ++ p) u × leaves_bytes (fed ++ p) u ps us

-- Each piece that is fed fits, with the bytes that are unread before it: those that ask for more and leave so many unread, and the next one, if there is one.
abbrev pub pieces_fit : Option ℕ → ℕ → List (List ℕ) → List ℕ → Type 0
pieces_fit limit before [] us = Unit {0}
pieces_fit limit before (p ∷ ps) [] = admits limit (before + length p) ≡ true
pieces_fit limit before (p ∷ ps) (u ∷ us) = (admits limit (before + length p) ≡ true) × pieces_fit limit u ps us

-- those that ask for more do, and the next one doesn't
abbrev pub next_is_over : Option ℕ → ℕ → List (List ℕ) → List ℕ → Type 0
next_is_over limit before [] us = ⊥
next_is_over limit before (p ∷ ps) [] = admits limit (before + length p) ≡ false
next_is_over limit before (p ∷ ps) (u ∷ us) = (admits limit (before + length p) ≡ true) × next_is_over limit u ps us

module _ {S : Type 0} (r : Reading ℕ ℕ Message) (kept : S → Reading ℕ ℕ Message) (limit : Option ℕ) (pieces : List (List ℕ)) where
  -- These lines: one for each piece at whose end, more being open, the meaning is undecided, with a number of unread bytes; and then that of the outcome on the whole input, ended.
  pub record Prints (text : List ℕ) (accepted : Bool) : Type 0 where
    pub outcome : Outcome Message
    pub decides : Decides r (concatenated pieces) outcome
    pub unread : List ℕ
    pub asked : AsksAfterFirst r pieces (length unread)
    pub leaves : leaves_bytes r kept [] 0 pieces unread
    pub fit : pieces_fit limit 0 pieces unread
    pub lines : text ≡ more_lines unread ++ decision_line outcome
    pub accepts : accepted ≡ is_accepted outcome

  -- These lines: one for each piece before the first that doesn't fit. At the end of each of them, more being open, the meaning is undecided.
  pub record StopsShort (text : List ℕ) : Type 0 where
    pub unread : List ℕ
    pub asked : (i : ℕ) → i < length unread → undecided_at r pieces i
    pub leaves : leaves_bytes r kept [] 0 pieces unread
    pub over : next_is_over limit 0 pieces unread
    pub lines : text ≡ more_lines unread

  abbrev pub runs_pieces : Option (List ℕ) → Option (List ℕ) → Result Bool Fault → Type 0
  runs_pieces old new (Ok accepted) = (text : List ℕ) × Prints text accepted × Appends old new text
  runs_pieces old new (Err why) = (why ≡ faults.Memory) ⊎ (why ≡ faults.Write) ⊎ ((why ≡ faults.TooLong) × (text : List ℕ) × StopsShort text × Appends old new text)

  -- those lines are written, or memory or the writer failed, or a piece was too long
  pub record RunsPieces (old new : Option (List ℕ)) (result : Result Bool Fault) : Type 0 where
    pub is : runs_pieces old new result
