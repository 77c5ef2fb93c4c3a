-- what is written where an input is decoded, message after message
use Rattle.std.specs.Prelude.{ℕ, ◌≡◌, ◌+◌, ◌≤◌, ◌⊎◌, List, ◌++◌, length, nat_eq, Bool, Option, Result, Ok, Err}
use Rattle.std.specs.Global.{Vec}
use Rattle.std.specs.Io.KnownBytes.{Appends}
use Rattle.combine_base.specs.Parser.Meaning.{Meaning, Reading}
use Rattle.combine_base.specs.declared.stream.Kind.TheVariants as kinds
use Rattle.combine_decode.specs.Decoders.{Decodes, Decoding, DecoderGoesOn}
use Rattle.combine_decode.specs.Messages.{Messages}
use Rattle.combine_decode.specs.declared.decode.Batch.{Batch}
use Rattle.combine_decode.specs.declared.decode.BatchEnd.{BatchEnd}
use Rattle.combine_decode.specs.declared.decode.DecodeError.{DecodeError}
use Rattle.combine_decode.specs.declared.decode.DecodeError.TheVariants as errors
use Rattle.feedline_core.specs.Lines.{end_line, message_lines}
use Rattle.feedline_core.specs.declared.fault.Fault.{Fault}
use Rattle.feedline_core.specs.declared.fault.Fault.TheVariants as faults

module _ (message : Reading ℕ ℕ (Vec ℕ)) (input : List ℕ) where
  -- These lines: one for each message of the input, in order, and then one that says whether no byte stands behind the last message.
  pub record PrintsMessages (text : List ℕ) (complete : Bool) : Type 0 where
    pub messages : List (Vec ℕ)
    pub end : BatchEnd
    pub behind : ℕ
    pub divided : Messages message input messages end behind
    pub lines : text ≡ message_lines messages ++ end_line complete
    pub none_behind : complete ≡ nat_eq behind 0

  abbrev pub decoded : Option (List ℕ) → Option (List ℕ) → Result Bool Fault → Type 0
  decoded old new (Ok complete) = (text : List ℕ) × PrintsMessages text complete × Appends old new text
  decoded old new (Err why) = (why ≡ faults.Memory) ⊎ (why ≡ faults.Write)

  -- those lines are written, or memory or the writer failed
  pub record DecodesInput (old new : Option (List ℕ)) (result : Result Bool Fault) : Type 0 where
    pub is : decoded old new result

-- a growth was refused
abbrev pub IsRefusedGrowth : DecodeError → Type 0
IsRefusedGrowth errors.Memory = Unit {0}
IsRefusedGrowth (errors.Fault why) = why ≡ kinds.Memory
IsRefusedGrowth errors.TooLong = ⊥
IsRefusedGrowth errors.Closed = ⊥
IsRefusedGrowth errors.Failed = ⊥

module _ {F P R E S : Type 0} (makes : F → P → Type 0) (meaning : P → Meaning ℕ ℕ R E (Vec ℕ) S) where
  -- a decoder that may go on, for which the piece is not too long
  pub record HasRoom (d : Decoding F P ℕ S) (piece : List ℕ) : Type 0 where
    pub behind : List ℕ
    pub stands : DecoderGoesOn makes meaning behind d
    pub fits : length behind + length piece ≤ d.limit

  -- a piece is fed, and the lines of the messages that it completes are written
  pub record WritesBatch (old new : Decoding F P ℕ S) (piece : List ℕ) (before after : Option (List ℕ)) (end : BatchEnd) : Type 0 where
    pub batch : Batch (Vec ℕ)
    pub decodes : Decodes makes meaning old new piece (Ok batch)
    pub is_end : batch.end ≡ end
    pub lines : Appends before after (message_lines batch.messages.items)
