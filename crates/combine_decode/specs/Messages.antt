-- messages, one after another, and how a decoder stands
use Rattle.std.specs.Prelude.{ℕ, ◌<◌, ◌≤◌, ◌≡◌, List, [], ◌∷◌, ◌++◌, Bool, true, length, drop, MatchResult, Result}
use Rattle.combine_base.specs.Stream.View.{View}
use Rattle.combine_base.specs.Parser.Outcome.{Outcome, Accepted, Refused, Undecided}
use Rattle.combine_base.specs.Parser.Meaning.{Meaning, Reading}
use Rattle.combine_session.specs.Sessions.{Course, left_of_session}
use Rattle.combine_base.specs.declared.error.unexpected.UnexpectedParse.{UnexpectedParse}
use Rattle.combine_base.specs.declared.parser.answer.Answer.{Answer}
use Rattle.combine_base.specs.declared.parser.answer.Answer.TheVariants as answers
use Rattle.combine_session.specs.declared.session.Stage.TheVariants as stages
use Rattle.combine_base.specs.declared.stream.Kind.{Kind}
use Rattle.combine_base.specs.declared.stream.Kind.TheVariants as kinds
use Rattle.combine_decode.specs.declared.decode.Batch.{Batch}
use Rattle.combine_decode.specs.declared.decode.BatchEnd.{BatchEnd}
use Rattle.combine_decode.specs.declared.decode.BatchEnd.TheVariants as ends

-- every parser that is answered is lawful
pub record IsMade {P : Type 0} (makes : P → Type 0) (lawful : P → Type 0) : Type 0 where
  pub every : (p : P) → makes p → lawful p

-- any parser that may be made
abbrev pub made_reading : {P T R E V S : Type 0} → (P → Meaning ℕ T R E V S) → (P → Type 0) → Reading ℕ T V
made_reading {P} meaning makes v o = (p : P) × makes p × (meaning p).whole v o

-- the parsers that may be made have the same outcomes from the start
pub record SharesMeaning {P T R E V S : Type 0} (meaning : P → Meaning ℕ T R E V S) (makes : P → Type 0) : Type 0 where
  pub every : (p q : P) → makes p → makes q → (v : View ℕ T) (o : Outcome V) → (meaning p).whole v o → (meaning q).whole v o

-- why no message follows, by the outcomes there
abbrev pub ends_messages : {V : Type 0} → (Outcome V → Type 0) → BatchEnd → Type 0
ends_messages r ends.More = r Undecided
ends_messages r (ends.Refused t k) = r (Refused k)
ends_messages {V} r ends.EmptyMessage = (v : V) × (k : Bool) × r (Accepted v 0 k)

-- an end without the number of tokens that a refusal counts
abbrev pub uncounted : BatchEnd → BatchEnd
uncounted ends.More = ends.More
uncounted (ends.Refused t k) = ends.Refused 0 k
uncounted ends.EmptyMessage = ends.EmptyMessage

-- two ends are the same but for that number, which no meaning fixes
abbrev pub SameEnd : BatchEnd → BatchEnd → Type 0
SameEnd e f = uncounted e ≡ uncounted f

-- the tokens that a refusal counts are tokens of this list
abbrev pub refused_within : {T : Type 0} → List T → BatchEnd → Type 0
refused_within l ends.More = Unit {0}
refused_within l (ends.Refused t k) = t ≤ length l
refused_within l ends.EmptyMessage = Unit {0}

-- and where a session refused, those behind them are unread
abbrev pub refused_at : {T : Type 0} → List T → List T → BatchEnd → Type 0
refused_at l unread ends.More = Unit {0}
refused_at l unread (ends.Refused t k) = (t ≤ length l) × (unread ≡ drop t l)
refused_at l unread ends.EmptyMessage = Unit {0}

module _ {T V : Type 0} (message : Reading ℕ T V) where
  -- an outcome of a message on this list, open, as at a beginning
  abbrev pub on_open : List T → Outcome V → Type 0
  on_open l o = message (record { position = 0; unread = l; is_open = true }) o

  -- the list is these messages, each exactly what a message takes at its place, and then these tokens
  abbrev pub DividesMessages : List T → List V → List T → Type 0
  DividesMessages l [] behind = l ≡ behind
  DividesMessages l (v ∷ vs) behind = (t : ℕ) × (k : Bool) × (0 < t) × on_open l (Accepted v t k) × DividesMessages (drop t l) vs behind

  -- The messages of a list: it is divided into them up to the first place where none is accepted that takes something; n tokens stand behind them.
  pub record Messages (l : List T) (vs : List V) (e : BatchEnd) (n : ℕ) : Type 0 where
    pub behind : List T
    pub divided : DividesMessages l vs behind
    pub stop : ends_messages (on_open behind) e
    pub refused : refused_within behind e
    pub number : n ≡ length behind

  module _ {P R E S : Type 0} (meaning : P → Meaning ℕ T R E V S) where
    -- a session that is fed a message, of which it has these tokens so far
    pub record After (l : List T) (c : Course P T S) : Type 0 where
      pub left : (x : List T) (o : Outcome V) → left_of_session meaning c x true o → on_open (l ++ x) o
      pub within : c.seen.position ≤ length l
      pub unread : c.seen.unread ≡ drop c.seen.position l
      pub stage : c.stage ≡ stages.Running

    -- what a session that was fed these tokens of a message answered, and how it stands
    abbrev pub answers_message : List T → Course P T S → Answer V UnexpectedParse → Type 0
    answers_message l c answers.More = on_open l Undecided × After l c
    answers_message l c (answers.Accepted v t k) = on_open l (Accepted v t k) × (t ≤ length l) × (c.seen.unread ≡ drop t l)
    answers_message l c (answers.Refused e t k) = on_open l (Refused k) × (t ≤ length l) × (c.seen.unread ≡ drop t l)

    pub record AnswersMessage (l : List T) (c : Course P T S) (a : Answer V UnexpectedParse) : Type 0 where
      pub is : answers_message l c a
      pub is_open : c.seen.is_open ≡ true

    -- All messages of these tokens, and no others; where more is needed, the session has the tokens behind them.
    pub record GivesMessages (l : List T) (c : Course P T S) (waiting : ℕ) (b : Batch V) : Type 0 where
      pub behind : List T
      pub divided : DividesMessages l b.messages.items behind
      pub stop : ends_messages (on_open behind) b.end
      pub refused : refused_at behind c.seen.unread b.end
      pub goes_on : b.end ≡ ends.More → After behind c
      pub number : waiting ≡ length behind

    -- the answer of a call that gives them, unless their list finds no memory
    abbrev pub Drains : (l : List T) (old new : Course P T S) (waiting : ℕ) → Result (Batch V) Kind → Type 0
    Drains l old new waiting result = MatchResult result (λ b. GivesMessages l new waiting b × (new.limit ≡ old.limit)) (λ k. k ≡ kinds.Memory)
