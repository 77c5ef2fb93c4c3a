-- what a decoder is seen as, and what its calls promise
use Rattle.std.specs.Prelude.{ℕ, ◌+◌, ◌<◌, ◌≤◌, ◌≡◌, List, ◌++◌, length, None, Result, Ok, Err}
use Rattle.combine_base.specs.Parser.Meaning.{Meaning}
use Rattle.combine_session.specs.Sessions.{Course}
use Rattle.combine_base.specs.declared.stream.Kind.TheVariants as kinds
use Rattle.combine_decode.specs.Messages.{After, GivesMessages, made_reading}
use Rattle.combine_decode.specs.declared.decode.Batch.{Batch}
use Rattle.combine_decode.specs.declared.decode.BatchEnd.{BatchEnd}
use Rattle.combine_decode.specs.declared.decode.BatchEnd.TheVariants as ends
use Rattle.combine_decode.specs.declared.decode.DecodeError.{DecodeError}
use Rattle.combine_decode.specs.declared.decode.DecodeError.TheVariants as errors
use Rattle.combine_decode.specs.declared.decode.Phase.{Phase}
use Rattle.combine_decode.specs.declared.decode.Phase.TheVariants as phases

-- how a decoder stands
pub record Decoding (Maker Parser Token State : Type 0) : Type 0 where
  pub maker : Maker
  pub course : Course Parser Token State
  pub phase : Phase
  -- how many tokens stand behind the last message, and how many may, with a piece
  pub waiting : ℕ
  pub limit : ℕ

-- how far a decoder is after such an end
abbrev pub phase_after : BatchEnd → Phase
phase_after ends.More = phases.Running
phase_after (ends.Refused taken committed) = phases.Closed
phase_after ends.EmptyMessage = phases.Closed

-- what a call answers that comes after an end or a fault
abbrev pub checked_phase : Phase → Result Unit DecodeError
checked_phase phases.Running = Ok tt
checked_phase phases.Closed = Err errors.Closed
checked_phase phases.Failed = Err errors.Failed

module _ {F P T R E V S : Type 0} (makes : F → P → Type 0) (meaning : P → Meaning ℕ T R E V S) where
  -- a decoder that may go on, with these tokens behind the messages that it gave
  pub record DecoderGoesOn (l : List T) (d : Decoding F P T S) : Type 0 where
    pub phase : d.phase ≡ phases.Running
    pub after : After (made_reading meaning (makes d.maker)) meaning l d.course
    pub waiting : d.waiting ≡ length l
    pub few : d.waiting ≤ d.limit
    pub session_limit : d.course.limit ≡ None

  module _ (old new : Decoding F P T S) (piece : List T) where
    -- all messages of the tokens behind those given before, and how the decoder then stands
    pub record Batches (l : List T) (b : Batch V) : Type 0 where
      pub gives : GivesMessages (made_reading meaning (makes old.maker)) meaning (l ++ piece) new.course new.waiting b
      pub phase : new.phase ≡ phase_after b.end
      pub few : new.waiting ≤ old.limit
      pub session_limit : new.course.limit ≡ old.course.limit

    pub record Faults : Type 0 where
      pub phase : new.phase ≡ phases.Failed
      pub waiting : new.waiting ≡ old.waiting

    -- the tokens behind those messages and the piece are within the limit, or that is too long
    abbrev pub decodes : List T → Result (Batch V) DecodeError → Type 0
    decodes l (Ok b) = (length l + length piece ≤ old.limit) × Batches l b
    decodes l (Err (errors.Fault k)) = (length l + length piece ≤ old.limit) × (k ≡ kinds.Memory) × Faults
    decodes l (Err errors.TooLong) = (old.limit < length l + length piece) × (new ≡ old)
    decodes l (Err errors.Memory) = (length l + length piece ≤ old.limit) × (new ≡ old)
    decodes l (Err errors.Closed) = ⊥
    decodes l (Err errors.Failed) = ⊥

    abbrev pub by_phase : Phase → Result (Batch V) DecodeError → Type 0
    by_phase phases.Running r = (l : List T) → DecoderGoesOn l old → decodes l r
    by_phase phases.Closed r = (r ≡ Err errors.Closed) × (new ≡ old)
    by_phase phases.Failed r = (r ≡ Err errors.Failed) × (new ≡ old)

    -- what a call that feeds a piece promises
    pub record Decodes (r : Result (Batch V) DecodeError) : Type 0 where
      pub maker : new.maker ≡ old.maker
      pub limit : new.limit ≡ old.limit
      pub is : by_phase old.phase r
