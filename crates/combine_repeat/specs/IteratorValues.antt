-- what an iterator over a parser gives: the values of the blocks of the turns that are left, one after another
use Rattle.std.specs.Prelude.{ℕ, ◌+◌, ◌<◌, ◌≡◌, List, [], ◌∷◌, length, Bool, true, false, Option, Some, None}
use Rattle.std.specs.Iterator.{Count, at_most}
use Rattle.combine_base.specs.Stream.View.{View, Takes, MayFollow, extended}
use Rattle.combine_base.specs.Error.Errors.{Observers}
use Rattle.combine_base.specs.Parser.Outcome.{Outcome, Accepted, Refused, Undecided}
use Rattle.combine_base.specs.Parser.Meaning.{Meaning, begun}
use Rattle.combine_base.specs.Parser.ParserCalls.{Ready}
use Rattle.combine_base.specs.Sequence.Parts.{accepted_as}
use Rattle.combine_repeat.specs.Turns.Bounds.{bounded}
use Rattle.combine_repeat.specs.Repeat.Repeated.{no_value_ends}
use Rattle.combine_repeat.specs.Turns.Blocks.{Block, DividesBlocks}
use Rattle.combine_repeat.specs.declared.bounds.Bounds.TheVariants.{Unbounded}
use Rattle.combine_base.specs.declared.parser.Parser as parser
use Rattle.combine_base.specs.declared.stream.StreamOnce as stream
use Rattle.combine_base.specs.declared.stream.Kind.{Kind}
use Rattle.combine_base.specs.declared.stream.Kind.TheVariants as kinds
use Rattle.combine_base.specs.declared.error.result.ParseResult.{ParseResult}
use Rattle.combine_base.specs.declared.error.result.ParseResult.TheVariants.{CommitErr}
use Rattle.combine_repeat.specs.IteratorTurn.{TurnCalled, iter_turn_place}
use Rattle.combine_repeat.specs.declared.iter.Iter.{Iter}
use Rattle.combine_repeat.specs.declared.iter.IterStage.{IterStage}
use Rattle.combine_repeat.specs.declared.iter.IterStage.TheVariants as stages
use Rattle.combine_repeat.specs.declared.iter.IterStep.{IterStep}
use Rattle.combine_repeat.specs.declared.iter.IterStep.TheVariants.{Gives, Over, Fails}

-- The turns that are left, of which the first begins afresh or goes on from a state: these blocks, as `many` divides the list, and then a place where the turns stop so. A turn that goes on is a block also if it takes nothing more.
abbrev pub remains : {P T R E A S : Type 0} → (P → T → P) → Meaning P T R E A S → Bool → S → View P T → List (Block A) → Outcome (Unit {0}) → Type 0
remains step m first s v bs l = DividesBlocks step (bounded Unbounded no_value_ends) (λ _. m.whole) l (begun m first s) (iter_turn_place first) bs v

-- these blocks, of which the first took n tokens more before
abbrev pub longer : {A : Type 0} → ℕ → List (Block A) → List (Block A)
longer n [] = []
longer n (b ∷ bs) = record { value = b.value; count = n + b.count; committed = b.committed } ∷ bs

-- the first of them took a token, then or before
abbrev pub takes_any : {A : Type 0} → ℕ → List (Block A) → Type 0
takes_any n [] = Unit {0}
takes_any n (b ∷ bs) = 0 < n + b.count

-- A cut inside a turn, which took some tokens before it: the turns that are left behind it, of which the first goes on from the state that was kept, are those that were left, the first with the tokens from before. If it began afresh, it has to take a token in all: behind the cut such a turn counts as one that took some.
pub record Continues {P T R E A S : Type 0} (step : P → T → P) (m : Meaning P T R E A S) (first : Bool) (from kept : S) (old new : View P T) : Type 0 where
  pub count : ℕ
  pub taken : Takes step count old new
  pub goes_on : (x : List T) (i : Bool) (bs : List (Block A)) (l : Outcome (Unit {0})) → (first ≡ true → takes_any count bs) → remains step m false kept (extended x i new) bs l → remains step m first from (extended x i old) (longer count bs) l

-- what an error says of the turns that end with it: a fault says nothing
abbrev pub error_stops : Kind → Bool → Outcome (Unit {0}) → Type 0
error_stops kinds.Refused is_open l = l ≡ Refused true
error_stops kinds.End true l = l ≡ Undecided
error_stops kinds.End false l = l ≡ Refused true
error_stops kinds.Memory is_open l = ⊥
error_stops kinds.Read is_open l = ⊥
error_stops kinds.Reset is_open l = ⊥
error_stops kinds.Lost is_open l = ⊥

-- how the turns stop that end so
abbrev pub stage_stops : {E : Type 0} → (E → Kind) → Bool → IterStage E → Outcome (Unit {0}) → Type 0
stage_stops kind is_open stages.Running l = ⊥
stage_stops kind is_open stages.Over l = l ≡ Accepted tt 0 false
stage_stops kind is_open (stages.Failed e) l = error_stops (kind e) is_open l

-- another turn runs
abbrev pub runs_at : {E : Type 0} → IterStage E → Bool
runs_at stages.Running = true
runs_at stages.Over = false
runs_at (stages.Failed e) = false

-- the stage after a turn
abbrev pub iter_stage_after : {A E : Type 0} → IterStep A E → IterStage E
iter_stage_after (Gives a) = stages.Running
iter_stage_after Over = stages.Over
iter_stage_after (Fails e) = stages.Failed e

-- the turns as an answer with that value, of which one gave a value or none
abbrev pub answer_of : {V E : Type 0} → IterStage E → Bool → V → ParseResult V E
answer_of stages.Running given v = accepted_as given v
answer_of stages.Over given v = accepted_as given v
answer_of (stages.Failed e) given v = CommitErr e

-- a turn that goes on may be a block that takes no more tokens
abbrev pub gone_on : Bool → ℕ
gone_on true = 0
gone_on false = 1

-- at most so many values come from so many tokens, the first turn beginning afresh or not
abbrev pub values_left : {E : Type 0} → IterStage E → ℕ → Bool → ℕ
values_left stages.Running n first = n + gone_on first
values_left stages.Over n first = 0
values_left (stages.Failed e) n first = 0

-- how an iterator ended, and as what it answers
module _ {Self Input Mode Checkpoint Token Range Position Error Output State : Type 0} where
  abbrev pub stage_of : Iter Input Self Mode Checkpoint Token Range Position Error State Output → IterStage Error
  stage_of it = it.stage

  abbrev pub answer_with : {V : Type 0} → Iter Input Self Mode Checkpoint Token Range Position Error State Output → V → ParseResult V Error
  answer_with it v = answer_of it.stage it.given v

  -- a new iterator, which has given nothing
  pub record IsNewIter (it : Iter Input Self Mode Checkpoint Token Range Position Error State Output) (of : Self) (how : Mode) (on : Input) (from : State) : Type 0 where
    pub parser : it.parser ≡ of
    pub mode : it.mode ≡ how
    pub input : it.input.now ≡ on
    pub state : it.state.now ≡ from
    pub given : it.given ≡ false
    pub stage : it.stage ≡ stages.Running

module _ {Self Input Mode Checkpoint Token Range Position Error Output State : Type 0} (p : parser.Ghosts Self Input State Output Checkpoint Token Range Position Error) (i : stream.Ghosts Input Token Range Position Error) (first : Mode → Bool) where
  -- the parser may be called from the state
  abbrev pub may_go_on : Iter Input Self Mode Checkpoint Token Range Position Error State Output → Type 0
  may_go_on it = Ready p it.parser it.state.now

  abbrev pub at_most_left : Iter Input Self Mode Checkpoint Token Range Position Error State Output → Count
  at_most_left it = at_most (values_left it.stage (length (i.view it.input.now).unread) (first it.mode))

  -- what is left of one whose turns go on
  abbrev pub left_of : Iter Input Self Mode Checkpoint Token Range Position Error State Output → List (Block Output) → Outcome (Unit {0}) → Type 0
  left_of it bs l = remains i.step (p.meaning it.parser) (first it.mode) it.state.now (i.view it.input.now) bs l

  -- and where these tokens follow
  abbrev pub left_with : Iter Input Self Mode Checkpoint Token Range Position Error State Output → List Token → Bool → List (Block Output) → Outcome (Unit {0}) → Type 0
  left_with it x b bs l = remains i.step (p.meaning it.parser) (first it.mode) it.state.now (extended x b (i.view it.input.now)) bs l

  module _ (observers : Observers Token Range Position Error) (fresh : State → Type 0) where
    -- a call in which a turn was run
    pub record RunsIterTurn (it new : Iter Input Self Mode Checkpoint Token Range Position Error State Output) (turn : IterStep Output Error) : Type 0 where
      pub called : TurnCalled p i observers fresh it.parser new.parser it.input.now new.input.now (first it.mode) it.state.now new.state.now turn
      pub stage : new.stage ≡ iter_stage_after turn

    -- the turn is a block: its value is given, and what was left is that block and what is left now
    pub record GivesBlock (it new : Iter Input Self Mode Checkpoint Token Range Position Error State Output) (a : Output) : Type 0 where
      pub runs : RunsIterTurn it new (Gives a)
      pub mode : first new.mode ≡ true
      pub given : new.given ≡ true
      pub block : Block Output
      pub value : block.value ≡ a
      pub divided : (bs : List (Block Output)) (l : Outcome (Unit {0})) → left_of new bs l → left_of it (block ∷ bs) l
      -- and it stays one, whatever follows
      pub stays : (x : List Token) (b : Bool) → MayFollow (i.view it.input.now).is_open x b → (bs : List (Block Output)) (l : Outcome (Unit {0})) → left_with new x b bs l → left_with it x b (block ∷ bs) l

    -- no block was left, and the turns stop as the stage says
    pub record EndsTurns (it new : Iter Input Self Mode Checkpoint Token Range Position Error State Output) : Type 0 where
      pub turn : IterStep Output Error
      pub runs : RunsIterTurn it new turn
      pub ended : runs_at new.stage ≡ false
      pub given : new.given ≡ it.given
      pub divided : (l : Outcome (Unit {0})) → stage_stops observers.kind (i.view new.input.now).is_open new.stage l → left_of it [] l
      -- where they need more, they go on from the state that was lent
      pub continues : (e : Error) → new.stage ≡ stages.Failed e → observers.kind e ≡ kinds.End → (i.view it.input.now).is_open ≡ true → Continues i.step (p.meaning it.parser) (first it.mode) it.state.now new.state.now (i.view it.input.now) (i.view new.input.now)

    abbrev pub runs_next_turn : Iter Input Self Mode Checkpoint Token Range Position Error State Output → Option Output → Iter Input Self Mode Checkpoint Token Range Position Error State Output → Type 0
    runs_next_turn it (Some a) new = GivesBlock it new a
    runs_next_turn it None new = EndsTurns it new

    -- an iterator that ended gives nothing and changes nothing
    abbrev pub after_end : Iter Input Self Mode Checkpoint Token Range Position Error State Output → Option Output → Iter Input Self Mode Checkpoint Token Range Position Error State Output → Type 0
    after_end it (Some a) new = ⊥
    after_end it None new = new ≡ it

    abbrev pub next_at : IterStage Error → Iter Input Self Mode Checkpoint Token Range Position Error State Output → Option Output → Iter Input Self Mode Checkpoint Token Range Position Error State Output → Type 0
    next_at stages.Running it result new = runs_next_turn it result new
    next_at stages.Over it result new = after_end it result new
    next_at (stages.Failed e) it result new = after_end it result new

    -- what a call of `next` promises
    pub record Nexts (it : Iter Input Self Mode Checkpoint Token Range Position Error State Output) (result : Option Output) (new : Iter Input Self Mode Checkpoint Token Range Position Error State Output) : Type 0 where
      pub is : next_at it.stage it result new
      pub ready : may_go_on new
      pub input : new.input.ghost_name ≡ it.input.ghost_name
      pub state : new.state.ghost_name ≡ it.state.ghost_name
