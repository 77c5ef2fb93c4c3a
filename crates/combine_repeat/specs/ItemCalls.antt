-- what a run of one item's parser promises
use Rattle.std.specs.Prelude.{◌≡◌, ◌⊎◌, ◌||◌, Bool, true, false}
use Rattle.combine_base.specs.Error.Errors.{Observers}
use Rattle.combine_base.specs.Parser.Answer.{Answers, world}
use Rattle.combine_base.specs.Parser.DriverAnswers.{NeedsMore}
use Rattle.combine_base.specs.Parser.Meaning.{MeansSame}
use Rattle.combine_base.specs.Parser.Reasons.{Reasoned}
use Rattle.combine_base.specs.Sequence.Parts.{refused_as, call_from}
use Rattle.combine_base.specs.Stream.Calls.{Passes}
use Rattle.combine_base.specs.declared.stream.Kind.{Kind}
use Rattle.combine_base.specs.declared.stream.Kind.TheVariants as kinds
use Rattle.combine_base.specs.declared.error.result.ParseResult.{ParseResult}
use Rattle.combine_base.specs.declared.error.result.ParseResult.TheVariants.{CommitOk, PeekOk, CommitErr, PeekErr}
use Rattle.combine_base.specs.declared.parser.Parser as parser
use Rattle.combine_base.specs.declared.stream.StreamOnce as stream
use Rattle.combine_repeat.specs.ItemErrors.{item_refuses}
use Rattle.combine_repeat.specs.ItemParsers.{begins_items}
use Rattle.combine_repeat.specs.declared.iterate.items.CollectedItems.{CollectedItems}
use Rattle.combine_repeat.specs.declared.iterate.items.Item.{Item}
use Rattle.combine_repeat.specs.declared.iterate.items.Item.TheVariants as items
use Rattle.combine_repeat.specs.declared.iterate.items.RunningItem.{RunningItem}
use Rattle.combine_repeat.specs.declared.iterate.items.IterateState.{IterateState}
use Rattle.combine_repeat.specs.declared.iterate.items.IterateState.TheVariants as states

module _ {B C H It : Type 0} (held : C → H) (more : H → B → H) where
  -- one more value is collected, of an item that was committed or not
  pub record Stores (before : CollectedItems C It) (value : B) (commits : Bool) (next : CollectedItems C It) : Type 0 where
    pub values : held next.values ≡ more (held before.values) value
    pub begun : next.is_begun ≡ true
    pub committed : next.committed ≡ (before.committed || commits)
    pub items : next.items ≡ before.items

  module _ {E : Type 0} (kind : E → Kind) (heapless : Type 0) (before : CollectedItems C It) where
    -- a value finds no memory
    abbrev pub unstored : ParseResult C E → Type 0
    unstored (CommitErr e) = (kind e ≡ kinds.Memory) × (heapless → ⊥)
    unstored (CommitOk c) = ⊥
    unstored (PeekOk c) = ⊥
    unstored (PeekErr t) = ⊥

    abbrev pub stored : B → Bool → Item C It E → Type 0
    stored value committed (items.Goes next) = Stores before value committed next
    stored value committed (items.Stops answer) = unstored answer

module _ {N Input It B C H U Checkpoint T R P E : Type 0} (p : parser.Ghosts N Input U B Checkpoint T R P E) (i : stream.Ghosts Input T R P E) (observers : Observers T R P E) (fresh : U → Type 0) (held : C → H) (more : H → B → H) (heapless : Type 0) where
  -- need of more keeps the item's parser as it now is, with the state in which it stopped; every other answer leaves a state that begins
  abbrev pub keeps_item : Bool → RunningItem C It N U → N → U → IterateState C It N U → ParseResult B E → Type 0
  keeps_item is_open from parser stopped state answer = (NeedsMore observers.kind is_open answer × (state ≡ states.Running (record { before = from.before; parser = parser; state = stopped })) × p.valid stopped) ⊎ ((NeedsMore observers.kind is_open answer → ⊥) × begins_items state)

  -- the next item's turn comes where the parser was accepted and its value was collected; else this is the answer
  abbrev pub item_did : RunningItem C It N U → ParseResult B E → Item C It E → Type 0
  item_did from (CommitOk b) result = stored held more observers.kind heapless from.before b true result
  item_did from (PeekOk b) result = stored held more observers.kind heapless from.before b false result
  item_did from (CommitErr e) result = result ≡ items.Stops (CommitErr e)
  item_did from (PeekErr t) result = result ≡ items.Stops (refused_as from.before.committed t)

  pub record CalledItem (input left : Input) (from : RunningItem C It N U) (state : IterateState C It N U) (result : Item C It E) : Type 0 where
    pub parser : N
    pub lawful : p.lawful parser
    pub same : MeansSame (p.meaning from.parser) (p.meaning parser)
    pub passes : Passes (i.marks input) (i.marks left) (i.failures input) (i.failures left)
    pub stopped : U
    pub answer : ParseResult B E
    pub answers : Answers (world i.step observers i.counts_failures fresh) (p.meaning from.parser) (call_from from.state stopped (i.view input) (i.view left) (i.failures input) (i.failures left)) answer
    pub refuses : Reasoned observers.kind (i.view left).is_open (item_refuses observers (p.meaning from.parser) ((p.meaning from.parser).refuses_from from.state) (i.view input) (i.view left) from.before.is_begun) answer
    pub did : item_did from answer result
    pub keeps : keeps_item (i.view left).is_open from parser stopped state answer
