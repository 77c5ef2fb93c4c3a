-- peeked refusals of parsers of ranges
use Rattle.std.specs.Prelude.{◌≡◌, ◌⊎◌, Bool, false}
use Rattle.combine_base.specs.Error.Errors.{Observers, New, Only}
use Rattle.combine_base.specs.Error.Items.{end_of_input}
use Rattle.combine_base.specs.Refusals.{NoToken, HasItems}
use Rattle.combine_base.specs.declared.stream.Kind.{Kind}
use Rattle.combine_base.specs.declared.stream.Kind.TheVariants as kinds
use Rattle.combine_base.specs.declared.error.result.ParseResult.{ParseResult}
use Rattle.combine_base.specs.declared.error.result.ParseResult.TheVariants.{CommitOk, PeekOk, CommitErr, PeekErr}

module _ {V E : Type 0} (kind : E → Kind) (heapless : Type 0) (is_open : Bool) where
  abbrev pub refuses_peeked : ParseResult V E → Type 0
  refuses_peeked (CommitOk v) = ⊥
  refuses_peeked (PeekOk v) = ⊥
  refuses_peeked (CommitErr e) = (kind e ≡ kinds.Memory) × (heapless → ⊥)
  refuses_peeked (PeekErr t) = (kind t.error ≡ kinds.Refused) ⊎ ((kind t.error ≡ kinds.End) × (is_open ≡ false))

  -- a peeked refusal, which may say of an ended list that it ends, unless that found no memory
  pub record RefusesPeeked (result : ParseResult V E) : Type 0 where
    pub is : refuses_peeked result

  -- no range of a given length could be taken: its items are too few, or end inside a token, or a read failed
  abbrev pub answers_none : Kind → ParseResult V E → Type 0
  answers_none kinds.Refused result = RefusesPeeked result
  answers_none kinds.End result = NoToken kind heapless is_open kinds.End result
  answers_none kinds.Memory result = NoToken kind heapless is_open kinds.Memory result
  answers_none kinds.Read result = NoToken kind heapless is_open kinds.Read result
  answers_none kinds.Reset result = NoToken kind heapless is_open kinds.Reset result
  answers_none kinds.Lost result = NoToken kind heapless is_open kinds.Lost result

  pub record NoRange (why : Kind) (result : ParseResult V E) : Type 0 where
    pub is : answers_none why result

module _ {V E : Type 0} (says : E → Type 0) where
  abbrev pub peeks_saying : ParseResult V E → Type 0
  peeks_saying (CommitOk v) = Unit {0}
  peeks_saying (PeekOk v) = Unit {0}
  peeks_saying (CommitErr e) = Unit {0}
  peeks_saying (PeekErr t) = says t.error

  -- the error of a peeked refusal is such
  pub record PeeksSaying (result : ParseResult V E) : Type 0 where
    pub is : peeks_saying result

-- of too few items an error says that the input ended; of an end inside a token it says nothing
abbrev pub says_why : {T R P E : Type 0} → Observers T R P E → P → Kind → E → Type 0
says_why s place kinds.Refused e = New s kinds.Refused place e
says_why s place kinds.End e = HasItems s kinds.End place (Only end_of_input) e
says_why s place kinds.Memory e = ⊥
says_why s place kinds.Read e = ⊥
says_why s place kinds.Reset e = ⊥
says_why s place kinds.Lost e = ⊥
