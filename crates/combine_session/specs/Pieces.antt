-- what feeding a list of pieces and then the end promises
use Rattle.std.specs.Prelude.{ℕ, ◌+◌, ◌^◌, ◌<◌, ◌≤◌, ◌≡◌, List, [], ◌∷◌, ◌++◌, Bool, true, false, length, take, Result, Ok, Err}
use Rattle.combine_base.specs.Parser.Outcome.{Outcome, Accepted, Refused, Undecided, IsDecided, shape}
use Rattle.combine_base.specs.Parser.Meaning.{Reading, IsSingle}
use Rattle.combine_base.specs.Parser.DriverAnswers.{IsRefusal}
use Rattle.combine_base.specs.declared.error.unexpected.UnexpectedParse.{UnexpectedParse}
use Rattle.combine_base.specs.declared.stream.Kind.TheVariants as kinds
use Rattle.combine_session.specs.declared.session.SessionError.{SessionError}
use Rattle.combine_session.specs.declared.session.SessionError.TheVariants as errors
use Rattle.combine_base.specs.declared.parser.answer.Answer.{Answer}
use Rattle.combine_base.specs.declared.parser.answer.Answer.TheVariants as answers

-- the pieces, one after another
abbrev pub concatenated : {Token : Type 0} → List (List Token) → List Token
concatenated [] = []
concatenated (x ∷ xs) = x ++ concatenated xs

module _ {Token Value : Type 0} (r : Reading ℕ Token Value) where
  -- an outcome on these tokens from the start, open or ended
  abbrev pub on : List Token → Bool → Outcome Value → Type 0
  on x is_open = r (record { position = 0; unread = x; is_open = is_open })

  -- on these tokens, ended, this is an outcome, and where there is only one, none has another shape
  pub record Decides (x : List Token) (o : Outcome Value) : Type 0 where
    pub is : on x false o
    pub only : IsSingle r → (p : Outcome Value) → on x false p → shape p ≡ shape o

  abbrev pub decides : {E : Type 0} → List Token → Answer Value E → Type 0
  decides x answers.More = ⊥
  decides x (answers.Accepted value taken committed) = Decides x (Accepted value taken committed)
  decides x (answers.Refused error taken committed) = Decides x (Refused committed)

  module _ (pieces : List (List Token)) where
    -- at the end of the piece with this index, more being open, it is undecided
    abbrev pub undecided_at : ℕ → Type 0
    undecided_at i = on (concatenated (take (i + 1) pieces)) true Undecided

    -- More is asked for after the first n pieces: it is undecided at their ends, and where there is only one outcome, at no other's. Where a piece follows them, it is decided at the end of that.
    pub record AsksAfterFirst (n : ℕ) : Type 0 where
      pub within : n ≤ length pieces
      pub here : (i : ℕ) → i < n → undecided_at i
      pub only : IsSingle r → (i : ℕ) → i < length pieces → undecided_at i → i < n
      pub stopped : n < length pieces → (o : Outcome Value) × IsDecided o × on (concatenated (take (n + 1) pieces)) true o

    -- the answer is one on all pieces, and more was asked for after the first n
    pub record Decided {E : Type 0} (n : ℕ) (a : Answer Value E) : Type 0 where
      pub answer : decides (concatenated pieces) a
      pub asked : AsksAfterFirst n

-- the error of a refusal is of kind `Refused` or `End`
abbrev pub refusal_kind : {Value : Type 0} → Answer Value UnexpectedParse → Type 0
refusal_kind answers.More = Unit {0}
refusal_kind (answers.Accepted value taken committed) = Unit {0}
refusal_kind (answers.Refused error taken committed) = IsRefusal false error.0

-- the tokens that a refusal counts are tokens of this list
abbrev pub refused_within : {Token Value E : Type 0} → List Token → Answer Value E → Type 0
refused_within x answers.More = Unit {0}
refused_within x (answers.Accepted value taken committed) = Unit {0}
refused_within x (answers.Refused error taken committed) = taken ≤ length x

-- the answer is an outcome on these tokens, ended, and says no more tokens and no other error than it may
pub record AnswersWhole {Token Value : Type 0} (r : Reading ℕ Token Value) (x : List Token) (a : Answer Value UnexpectedParse) : Type 0 where
  pub answer : decides r x a
  pub kind : refusal_kind a
  pub refused : refused_within x a

module _ {Token Value : Type 0} (r : Reading ℕ Token Value) (heapless : Type 0) (pieces : List (List Token)) where
  -- the answer is an outcome on all pieces concatenated, ended; or there was no memory, or more than 2^64 - 1 tokens
  abbrev pub parses_pieces : Result (Answer Value UnexpectedParse) SessionError → Type 0
  parses_pieces (Ok a) = AnswersWhole r (concatenated pieces) a
  parses_pieces (Err errors.Memory) = Unit {0}
  parses_pieces (Err (errors.Fault k)) = (k ≡ kinds.Memory) × (heapless → ⊥)
  parses_pieces (Err errors.TooLong) = 2 ^ 64 ≤ length (concatenated pieces)
  parses_pieces (Err errors.Closed) = ⊥
  parses_pieces (Err errors.Failed) = ⊥

  pub record ParsesPieces (result : Result (Answer Value UnexpectedParse) SessionError) : Type 0 where
    pub is : parses_pieces result
