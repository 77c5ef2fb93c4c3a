-- a message behind its length
use Rattle.std.specs.Prelude.{ℕ, ◌+◌, ◌<◌, ◌≤◌, ◌≡◌, List, Bool, true, false, nat_lt, length, take, drop}
use Rattle.std.specs.Global.{Vec}
use Rattle.std.specs.declared.alloc.Global.{Global}
use Rattle.combine_base.specs.Parser.Meaning.{Reading}
use Rattle.combine_base.specs.Parser.Outcome.{Accepted, Refused, Undecided}
use Rattle.combine_base.specs.Stream.View.{View}
use Rattle.combine_decode.specs.declared.decode.framing.Framing.{Framing}
use Rattle.combine_byte.specs.Numbers.{big_endian}
use Rattle.combine_byte.specs.WholeNumbers.{number_parser}
use Rattle.combine_byte.specs.declared.whole.WholeNumber.{WholeNumber}
use Rattle.combine_sequence.specs.Then.{answered_of}
use Rattle.combine_sequence.specs.declared.sequence.answered.Answered.{Answered}

abbrev pub framing_of : {Input : Type 0} → Global → Framing Input
framing_of alloc = record { alloc = alloc; reads = record {} }

abbrev pub allocator_of : {Input : Type 0} → Framing Input → Global
allocator_of f = f.alloc

-- `frame` with this allocator
abbrev pub frame_of : {Input O N B : Type 0} → Global → Answered (WholeNumber Input O N) (Framing Input) B
frame_of alloc = answered_of number_parser (framing_of alloc)

-- the length that stands in the first two bytes, the highest first
abbrev pub length_read : List ℕ → ℕ
length_read bytes = big_endian (take 2 bytes)

-- fewer bytes stand there than the length says, or no whole length
abbrev pub short_of : List ℕ → Type 0
short_of bytes = length bytes < 2 + length_read bytes

module _ {P : Type 0} where
  -- the message is the bytes behind the length, of which there are as many as it says
  pub record FramedMessage (v : View P ℕ) (m : Vec ℕ) (n : ℕ) (k : Bool) : Type 0 where
    pub two : 2 ≤ length v.unread
    pub enough : 2 + length_read v.unread ≤ length v.unread
    pub items : m.items ≡ take (length_read v.unread) (drop 2 v.unread)
    pub count : n ≡ 2 + length_read v.unread
    pub committed : k ≡ true

  -- A length of two bytes, and then so many bytes. Too few of them wait for more where more may follow; else they are refused, committed behind the length.
  abbrev pub framed : Reading P ℕ (Vec ℕ)
  framed v (Accepted m n k) = FramedMessage v m n k
  framed v (Refused k) = (v.is_open ≡ false) × short_of v.unread × (k ≡ nat_lt 1 (length v.unread))
  framed v Undecided = (v.is_open ≡ true) × short_of v.unread
