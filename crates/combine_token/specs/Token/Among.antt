-- tokens that equal an item of a list, and tokens that equal none
use Rattle.std.specs.Prelude.{◌≡◌, List, map, Bool, true, false, if◌then◌else◌, not, Option, Some, None}
use Rattle.std.specs.List.{All}
use Rattle.std.specs.Iterator.{Yields, Count, IsFinite}
use Rattle.combine_base.specs.Error.Errors.{AddsNothing}
use Rattle.combine_base.specs.Error.Items.{ErrorItem, Expected, OfToken}
use Rattle.combine_base.specs.Predicates.{IsPredicate}

-- each of these tokens, expected
abbrev pub expected_tokens : {A R : Type 0} → List A → List (ErrorItem A R)
expected_tokens xs = map (λ x. Expected (OfToken x)) xs

module _ {I A : Type 0} (steps : I → Option A → I → Type 0) where
  -- calls gave items of which each has P
  pub record YieldsOnly (P : A → Type 0) (from now : I) : Type 0 where
    pub items : List A
    pub yields : Yields steps from items now
    pub each : All P items

  -- calls give an item that has P
  pub record GivesSome (P : A → Type 0) (from : I) : Type 0 where
    pub before : I
    pub after : I
    pub item : A
    pub passed : YieldsOnly (λ x. Unit {0}) from before
    pub gives : steps before (Some item) after
    pub is : P item

  -- calls give items of which each has P, and then no more
  pub record GivesEach (P : A → Type 0) (from : I) : Type 0 where
    pub last : I
    pub end : I
    pub passed : YieldsOnly P from last
    pub none : steps last None end

  abbrev pub finds_among : (A → Bool) → Bool → I → Type 0
  finds_among test true from = GivesSome (λ x. test x ≡ true) from
  finds_among test false from = GivesEach (λ x. test x ≡ false) from

  -- whether an item passes the test
  pub record FindsAmong (test : A → Bool) (from : I) (found : Bool) : Type 0 where
    pub is : finds_among test found from

  -- what was expected, where that is each item
  pub record ExpectsEach {R : Type 0} (from : I) (is : List (ErrorItem A R)) : Type 0 where
    pub last : I
    pub end : I
    pub items : List A
    pub yields : Yields steps from items last
    pub none : steps last None end
    pub each : is ≡ expected_tokens items

module _ {L I A : Type 0} (clones : L → L → Type 0) (makes : L → I → Type 0) (steps : I → Option A → I → Type 0) (list : L) where
  -- a clone of the list, and an iterator of it
  pub record StartsClone (start : I) : Type 0 where
    pub clone : L
    pub is_clone : clones list clone
    pub made : makes clone start

  -- what is asked of the list: an iterator of each clone may be called, and ends
  pub record EndsAlways (can_next : I → Type 0) (remaining : I → Count) : Type 0 where
    pub ready : (start : I) → StartsClone start → can_next start × IsFinite (remaining start)

  -- whether an item of the list equals the token
  abbrev pub among : {T : Type 0} → (A → T → Bool) → T → Bool → Type 0
  among equals t found = (start : I) × StartsClone start × FindsAmong steps (λ x. equals x t) start found

  -- whether an item equals the token where that is wanted, or else whether none does
  abbrev pub listed : {T : Type 0} → Bool → (A → T → Bool) → T → Bool → Type 0
  listed wanted equals t b = among equals t (if wanted then b else not b)

  -- each item of the list was expected
  abbrev pub expects_each : {R : Type 0} → List (ErrorItem A R) → Type 0
  expects_each is = (start : I) × StartsClone start × ExpectsEach steps start is

  -- the same, where one of them is wanted
  abbrev pub expects_listed : {R : Type 0} → Bool → List (ErrorItem A R) → Type 0
  expects_listed true = expects_each
  expects_listed false = AddsNothing

  pub listed_is_predicate : {T : Type 0} (wanted : Bool) (equals : A → T → Bool) → IsPredicate (among equals) → IsPredicate (listed wanted equals)
  listed_is_predicate true equals h = h
  listed_is_predicate false equals h = record { one = λ t a b. h.one t b a }
