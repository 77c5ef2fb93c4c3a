-- a text with escapes: blocks, each what one parser takes, or an escape and what another takes behind it
use Rattle.std.specs.Prelude.{◌≡◌, List, [], ◌∷◌, Bool, true, false}
use Rattle.combine_base.specs.Stream.View.{View, advanced}
use Rattle.combine_base.specs.Parser.Outcome.{Outcome, Accepted, Refused, Undecided, after, shape}
use Rattle.combine_base.specs.Parser.Meaning.{Reading}
use Rattle.combine_repeat.specs.Turns.Blocks.{TurnsOutcome}
use Rattle.combine_repeat.specs.Turns.Bounds.{bounded, none_yet}
use Rattle.combine_repeat.specs.Repeat.Repeated.{dropped, no_value_ends}
use Rattle.combine_repeat.specs.declared.bounds.Bounds.TheVariants.{Unbounded}

-- at the end of an open list an escape may still follow, at that of an ended one there is no block
abbrev pub block_at_end : Bool → Outcome (Unit {0})
block_at_end true = Undecided
block_at_end false = Refused false

module _ {P T A B : Type 0} (step : P → T → P) (is_escape : T → Bool) (plain : Reading P T A) (escaped : Reading P T B) where
  -- behind an escape the outcome is that of the second parser, and a refusal is committed; another token begins no block
  abbrev pub block_at_token : View P T → Bool → Outcome (Unit {0}) → Type 0
  block_at_token v true o = (p : Outcome B) × escaped (advanced step 1 v) p × (o ≡ after 1 true (shape p))
  block_at_token v false o = o ≡ Refused false

  abbrev pub escape_at : View P T → List T → Outcome (Unit {0}) → Type 0
  escape_at v [] o = o ≡ block_at_end v.is_open
  escape_at v (t ∷ ts) o = block_at_token v (is_escape t) o

  -- where the first parser is refused peeked there is an escape, or no block; else its outcome is that of the block
  abbrev pub block_by : View P T → Outcome A → Outcome (Unit {0}) → Type 0
  block_by v (Accepted a n k) o = o ≡ Accepted tt n k
  block_by v (Refused true) o = o ≡ Refused true
  block_by v (Refused false) o = escape_at v v.unread o
  block_by v Undecided o = o ≡ Undecided

  abbrev pub escaped_block : Reading P T (Unit {0})
  escaped_block v o = (p : Outcome A) × plain v p × block_by v p o

  -- blocks, as many as there are: each takes a token
  abbrev pub escaped_blocks : Reading P T Unit
  escaped_blocks = TurnsOutcome step (bounded Unbounded no_value_ends) dropped (λ _. escaped_block) escaped_block (none_yet tt)
