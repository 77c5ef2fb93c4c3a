-- the parsers that the constructors build, and their parts; and repetitions up to a place beside one another
use Rattle.std.specs.declared.alloc.Global.{Global}
use Rattle.combine_base.specs.Error.Errors.{Observers}
use Rattle.combine_base.specs.Parser.Meaning.{Meaning}
use Rattle.combine_combinator.specs.CombinatorParsers.{picked_of, picked_part}
use Rattle.combine_combinator.specs.declared.combinator.values.Nothing.{Nothing}
use Rattle.combine_combinator.specs.declared.combinator.values.Picked.{Picked}
use Rattle.combine_token.specs.Token.TokenParsers.{any_parser}
use Rattle.combine_choice.specs.declared.or.OrState.{OrState}
use Rattle.combine_token.specs.declared.token.types.Any.{Any}
use Rattle.std.specs.Prelude.{Option}
use Rattle.combine_repeat.specs.Turns.Blocks.{Collecting}
use Rattle.combine_until.specs.Next.{next}
use Rattle.combine_until.specs.Until.{until, some_dropped}
use Rattle.combine_until.specs.declared.mute.Mute.{Mute}
use Rattle.combine_until.specs.declared.next.Next.{Next}
use Rattle.combine_until.specs.declared.repeat.types.BlocksUntil.{BlocksUntil}
use Rattle.combine_until.specs.declared.repeat.types.SkipBlocksUntil.{SkipBlocksUntil}
use Rattle.combine_until.specs.declared.until.UntilState.{UntilState}
use Rattle.combine_base.specs.Parser.ValueMap.{mapped}
use Rattle.combine_base.specs.declared.repeat.Sink.{Sink}
use Rattle.combine_combinator.specs.ValueParts.{Picks}
use Rattle.combine_repeat.specs.Repeat.Counts.{DropsValues}

abbrev pub next_of : {A X Y : Type 0} → X → Y → Next A X Y
next_of part end = record { end = picked_of end; part = picked_of part }

abbrev pub next_end : {A X Y : Type 0} → Next A X Y → Y
next_end p = picked_part p.end

abbrev pub next_part : {A X Y : Type 0} → Next A X Y → X
next_part p = picked_part p.part

abbrev pub mute_of : {Y : Type 0} → Y → Mute Y
mute_of part = record { part = part }

abbrev pub muted_part : {Y : Type 0} → Mute Y → Y
muted_part p = p.part

abbrev pub blocks_of : {F A X Y : Type 0} → Global → X → Y → BlocksUntil F A X Y
blocks_of alloc part end = record { alloc = alloc; turn = next_of part end; collects = record {} }

-- the block's parser alone says what it expects
abbrev pub repeat_until_of : {F A X Y : Type 0} → Global → X → Y → BlocksUntil F A X (Mute Y)
repeat_until_of alloc part end = blocks_of alloc part (mute_of end)

abbrev pub take_until_of : {F I A Y : Type 0} → Global → Y → BlocksUntil F A (Any I) Y
take_until_of alloc end = blocks_of alloc any_parser end

abbrev pub skips_of : {A X Y : Type 0} → X → Y → Picked (SkipBlocksUntil A X Y) Nothing (Unit {0})
skips_of part end = picked_of (record { turn = next_of part end })

abbrev pub repeat_skip_until_of : {A X Y : Type 0} → X → Y → Picked (SkipBlocksUntil A X (Mute Y)) Nothing (Unit {0})
repeat_skip_until_of part end = skips_of part (mute_of end)

abbrev pub skip_until_of : {I A Y : Type 0} → Y → Picked (SkipBlocksUntil A (Any I) Y) Nothing (Unit {0})
skip_until_of end = skips_of any_parser end

abbrev pub skipped_end : {A X Y : Type 0} → SkipBlocksUntil A X Y → Y
skipped_end p = next_end p.turn

abbrev pub skipped_part : {A X Y : Type 0} → SkipBlocksUntil A X Y → X
skipped_part p = next_part p.turn

abbrev pub blocks_end : {F A X Y : Type 0} → BlocksUntil F A X Y → Y
blocks_end p = next_end p.turn

abbrev pub blocks_part : {F A X Y : Type 0} → BlocksUntil F A X Y → X
blocks_part p = next_part p.turn

module _ {P T R E A B V S U : Type 0} (step : P → T → P) (errors : Observers T R P E) (c : Collecting (Option A) V) where
  -- blocks of a parser, up to the first place where the other one isn't refused peeked
  abbrev pub repeat_until : Meaning P T R E A S → Meaning P T R E B U → Meaning P T R E V (UntilState V (OrState U S))
  repeat_until part end = until step errors c (next end part)

-- no value
abbrev pub drops_value : {A : Type 0} → A → Unit {0}
drops_value a = tt

module _ {P T R E A B S U : Type 0} (step : P → T → P) (errors : Observers T R P E) where
  -- the blocks, their values dropped
  abbrev pub repeat_skip_until : Meaning P T R E A S → Meaning P T R E B U → Meaning P T R E Unit (UntilState Sink (OrState U S))
  repeat_skip_until part end = mapped (repeat_until step errors (some_dropped {V = Sink}) part end) (Picks drops_value)

  -- they take the same tokens, accepted or refused alike, and the first collects what the second drops
  abbrev pub RepeatOrSkip : {V : Type 0} → Collecting (Option A) V → Meaning P T R E A S → Meaning P T R E B U → Type 0
  RepeatOrSkip c part end = DropsValues c (repeat_until step errors c part end).whole (repeat_skip_until part end).whole
