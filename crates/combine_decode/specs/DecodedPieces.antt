-- what decoding a list of pieces promises
use Rattle.std.specs.Prelude.{ℕ, ◌^◌, ◌≤◌, ◌≡◌, ◌⊎◌, List, ◌++◌, length, Result, Ok, Err}
use Rattle.combine_base.specs.Parser.Meaning.{Meaning, Reading}
use Rattle.combine_session.specs.Pieces.{concatenated}
use Rattle.combine_base.specs.declared.stream.Kind.TheVariants as kinds
use Rattle.combine_decode.specs.Decoders.{Decodes, Decoding}
use Rattle.combine_decode.specs.Messages.{Messages}
use Rattle.combine_decode.specs.declared.decode.Batch.{Batch}
use Rattle.combine_decode.specs.declared.decode.BatchEnd.{BatchEnd}
use Rattle.combine_decode.specs.declared.decode.DecodeError.{DecodeError}
use Rattle.combine_decode.specs.declared.decode.DecodeError.TheVariants as errors

module _ {T V : Type 0} (message : Reading ℕ T V) (pieces : List (List T)) where
  -- all messages of the pieces, one after another, and why no more follow; or there was no memory, or more than 2^64 - 1 tokens
  abbrev pub decodes_pieces : Result (Batch V) DecodeError → Type 0
  decodes_pieces (Ok b) = (n : ℕ) × Messages message (concatenated pieces) b.messages.items b.end n
  decodes_pieces (Err errors.Memory) = Unit {0}
  decodes_pieces (Err errors.TooLong) = 2 ^ 64 ≤ length (concatenated pieces)
  decodes_pieces (Err (errors.Fault k)) = k ≡ kinds.Memory
  decodes_pieces (Err errors.Closed) = ⊥
  decodes_pieces (Err errors.Failed) = ⊥

  pub record DecodesPieces (result : Result (Batch V) DecodeError) : Type 0 where
    pub is : decodes_pieces result

module _ {F P T R E V S : Type 0} (makes : F → P → Type 0) (meaning : P → Meaning ℕ T R E V S) (old new : Decoding F P T S) (piece : List T) (before after : List V) where
  -- a piece is fed, and its messages stand behind those before; or there was no room for them, or no messages
  abbrev pub feeds_more : Result BatchEnd DecodeError → Type 0
  feeds_more (Ok e) = (b : Batch V) × Decodes makes meaning old new piece (Ok b) × (b.end ≡ e) × (after ≡ before ++ b.messages.items)
  feeds_more (Err e) = (e ≡ errors.Fault kinds.Memory) ⊎ Decodes makes meaning old new piece (Err e)

  pub record FeedsMore (result : Result BatchEnd DecodeError) : Type 0 where
    pub is : feeds_more result
