-- what the errors of the refusals of these parsers are
use Rattle.std.specs.Prelude.{ℕ, ◌+◌, ◌≡◌, List, [], ◌∷◌, drop, Bool, true, false, nat_lt, Option}
use Rattle.combine_base.specs.Stream.View.{View}
use Rattle.combine_base.specs.Error.Items.{end_of_input}
use Rattle.combine_base.specs.Error.Errors.{Observers, New, Only}
use Rattle.combine_base.specs.Refusals.{HasItems}
use Rattle.combine_base.specs.declared.error.info.Info.{Info}
use Rattle.combine_base.specs.declared.stream.Kind.TheVariants as kinds
use Rattle.combine_token.specs.Token.Lists.ListAnswers.{Mismatch}
use Rattle.combine_token.specs.Token.Lists.TokenLists.{TokenList, Matched, mismatch_at}

-- peeked refusals, and no committed one
abbrev pub peeked_only : {E : Type 0} → (E → Type 0) → Bool → E → Type 0
peeked_only says true e = ⊥
peeked_only says false e = says e

module _ {T R P E : Type 0} (s : Observers T R P E) where
  -- at a token an error without items, at the end one that says so
  abbrev pub refuses_one : P → List T → E → Type 0
  refuses_one place [] e = HasItems s kinds.End place (Only end_of_input) e
  refuses_one place (t ∷ ts) e = New s kinds.Refused place e

  -- the error of a parser of one token that begins there: never committed, and the stream is left as it was
  pub record RefusesToken (v w : View P T) (committed : Bool) (e : E) : Type 0 where
    pub is : peeked_only (refuses_one v.position v.unread) committed e
    pub back : w ≡ v

  -- the input ended
  pub record SaysEnded (place : P) (after : Bool) (committed : Bool) (e : E) : Type 0 where
    pub commits : committed ≡ after
    pub says : HasItems s kinds.End place (Only end_of_input) e

  -- at a token that doesn't fit, or at the end: a committed error says which token stands there and what was expected
  abbrev pub refuses_next : P → Option (Info T R) → List T → Bool → E → Type 0
  refuses_next place expected [] committed e = HasItems s kinds.End place (Only end_of_input) e
  refuses_next place expected (t ∷ ts) true e = Mismatch s place t expected e
  refuses_next place expected (t ∷ ts) false e = New s kinds.Refused place e

  -- the error of a parser of a list that begins there at item n: so many tokens fit, and the next item finds none that does; where it is peeked the stream is left as it was
  pub record RefusesList (l : TokenList T) (expected : Option (Info T R)) (n : ℕ) (v w : View P T) (committed : Bool) (e : E) : Type 0 where
    pub count : ℕ
    pub has : l.has (n + count)
    pub matched : Matched l n count v.unread
    pub stops : mismatch_at l (n + count) v.is_open (drop count v.unread)
    pub commits : committed ≡ nat_lt 0 (n + count)
    pub back : committed ≡ false → w ≡ v
    pub says : refuses_next v.position expected (drop count v.unread) committed e

-- the item that a call begins at, in its mode
abbrev pub begins_at_item : {S : Type 0} → (S → ℕ) → Bool → S → ℕ
begins_at_item matched true s = 0
begins_at_item matched false s = matched s
