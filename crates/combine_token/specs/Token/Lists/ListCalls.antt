-- one call of a parser of a list of tokens
use denote.Ref.{Bor}
use Rattle.std.specs.Option.{option_copied}
use Rattle.std.specs.Prelude.{◌≡◌, Bool, Option}
use Rattle.std.specs.declared.clone.Clone as clone
use Rattle.std.specs.declared.iter.IntoIterator as into_iterator
use Rattle.std.specs.declared.iter.Iterator as iterator
use Rattle.combine_base.specs.Error.Errors.{Observers}
use Rattle.combine_base.specs.Parser.AnswersCalls.{AnswersCall}
use Rattle.combine_base.specs.Parser.Reasons.{Reasoned}
use Rattle.combine_base.specs.declared.error.info.Info.{Info}
use Rattle.combine_base.specs.declared.error.result.ParseResult.{ParseResult}
use Rattle.combine_base.specs.declared.stream.StreamOnce as stream
use Rattle.combine_token.specs.Token.Lists.IteratedLists.{iterated_tokens}
use Rattle.combine_token.specs.Token.Lists.ListAnswers.{expecting}
use Rattle.combine_token.specs.Token.TokenReasons.{RefusesList, begins_at_item}
use Rattle.combine_token.specs.Token.Lists.ListMeaning.{token_list}
use Rattle.combine_token.specs.Token.Lists.TokenLists.{TokenList}
use Rattle.combine_token.specs.Token.TokenParsers.{matched_before}
use Rattle.combine_token.specs.declared.token.lists.types.TokensState.{TokensState}

module _ {Input T R P E V : Type 0} (i : stream.Ghosts Input T R P E) (observers : Observers T R P E) (l : TokenList T) (expected : Option (Info T R)) where
  -- what it answers
  abbrev pub AnswersListCall : (gives : V → Type 0) (heapless : Type 0) (first : Bool) (from left : TokensState) (input after : Input) → ParseResult V E → Type 0
  AnswersListCall gives heapless first from left input after result = AnswersCall i observers (λ s. matched_before s ≡ 0) (token_list observers l expected gives matched_before heapless (λ is. is ≡ expecting expected)) first from left input after result

  -- and which errors its refusals have
  abbrev pub ReasonedListCall : (first : Bool) (from : TokensState) (input after : Input) → ParseResult V E → Type 0
  ReasonedListCall first from input after result = Reasoned observers.kind (i.view after).is_open (RefusesList observers l expected (begins_at_item matched_before first from) (i.view input) (i.view after)) result

-- a list that is copied and iterated, whose items are compared with tokens
module _ {L X It Input T R P E : Type 0} (i : stream.Ghosts Input T R P E) (observers : Observers T R P E) (copies : clone.Ghosts L) (iterates : into_iterator.Ghosts L X It) (gives : iterator.Ghosts It X) (list : L) (compares : X → T → Bool → Type 0) where
  abbrev items : TokenList T
  items = iterated_tokens copies.is_clone iterates.into_iter_gives gives.next_gives list compares

  -- what a call answers, whose value is a clone of this one
  abbrev pub MatchesCall : {V : Type 0} (clones : clone.Ghosts V) (value : V) (expected : Option (Bor (Info T R))) (first : Bool) (from left : TokensState) (input after : Input) → ParseResult V E → Type 0
  MatchesCall clones value expected = AnswersListCall i observers items (option_copied expected) (clones.is_clone value) (copies.is_infallible list × clones.is_infallible value)

  -- and which errors its refusals have
  abbrev pub MismatchesCall : {V : Type 0} (expected : Option (Bor (Info T R))) (first : Bool) (from : TokensState) (input after : Input) → ParseResult V E → Type 0
  MismatchesCall expected = ReasonedListCall i observers items (option_copied expected)
