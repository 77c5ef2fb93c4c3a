-- what messages are beside one another
use Rattle.std.specs.Prelude.{ℕ, ◌≡◌, List, ◌++◌, length, Ok}
use Rattle.combine_base.specs.Parser.Meaning.{Reading}
use Rattle.combine_session.specs.Pieces.{concatenated}
use Rattle.combine_decode.specs.Messages.{DividesMessages, Messages, SameEnd}
use Rattle.combine_decode.specs.DecodedPieces.{DecodesPieces}
use Rattle.combine_decode.specs.declared.decode.Batch.{Batch}
use Rattle.combine_decode.specs.declared.decode.BatchEnd.{BatchEnd}

module _ {T V : Type 0} (message : Reading ℕ T V) where
  -- Where tokens are these messages and then some that are left, the messages of the tokens and x are these, and then those of what is left and x.
  abbrev pub GoOn : Type 0
  GoOn = (l : List T) (vs : List V) (behind : List T) → DividesMessages message l vs behind → (x : List T) (ws : List V) (e : BatchEnd) (n : ℕ) → Messages message (behind ++ x) ws e n → Messages message (l ++ x) (vs ++ ws) e n

  -- Tokens have one division into messages, and one end. A value is any that the message may have at its place, and a refusal counts any tokens that it may.
  pub record AreOne : Type 0 where
    -- as many messages take the same tokens
    pub blocks : (l : List T) (vs ws : List V) (b c : List T) → DividesMessages message l vs b → DividesMessages message l ws c → length vs ≡ length ws → b ≡ c
    pub count : (l : List T) (vs ws : List V) (e f : BatchEnd) (n m : ℕ) → Messages message l vs e n → Messages message l ws f m → length vs ≡ length ws
    pub end : (l : List T) (vs ws : List V) (e f : BatchEnd) (n m : ℕ) → Messages message l vs e n → Messages message l ws f m → SameEnd e f
    pub number : (l : List T) (vs ws : List V) (e f : BatchEnd) (n m : ℕ) → Messages message l vs e n → Messages message l ws f m → n ≡ m

  -- two batches have as many messages, and the same end
  pub record BatchesAgree (b c : Batch V) : Type 0 where
    pub count : length b.messages.items ≡ length c.messages.items
    pub end : SameEnd b.end c.end

  -- so it is of what is decoded of two cuts of the same tokens
  abbrev pub CutsAgree : Type 0
  CutsAgree = (ps qs : List (List T)) (b c : Batch V) → concatenated ps ≡ concatenated qs → DecodesPieces message ps (Ok b) → DecodesPieces message qs (Ok c) → BatchesAgree b c
