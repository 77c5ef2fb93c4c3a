-- a parser that is run once: from what it leaves on need of more nothing goes on
use Rattle.std.specs.Prelude.{◌≡◌, Bool, true, false}
use Rattle.combine_base.specs.Error.Errors.{Observers}
use Rattle.combine_base.specs.Parser.Answer.{World, world}
use Rattle.combine_base.specs.Parser.Meaning.{IsReading, Reading}

-- what is left, unless more was asked for
abbrev pub unless_stopped : {P T V : Type 0} → Reading P T V → Bool → Reading P T V
unless_stopped read true v o = ⊥
unless_stopped read false v o = read v o

pub unless_stopped_is_reading : {P T V : Type 0} (read : Reading P T V) → IsReading read → (s : Bool) → IsReading (unless_stopped read s)
unless_stopped_is_reading read h true = record { ended = λ v e p. p; stays = λ v x m o e d p. p; peeked = λ v a n p. absurd p; within = λ v a n k p. absurd p }
unless_stopped_is_reading read h false = record { ended = h.ended; stays = h.stays; peeked = h.peeked; within = h.within }

-- its kept state says whether more was asked for
abbrev pub once_world : {P T R E : Type 0} → (P → T → P) → Observers T R P E → Type 0 → World P T Bool E
once_world step errors counts_failures = world step errors counts_failures (λ s. s ≡ false)
