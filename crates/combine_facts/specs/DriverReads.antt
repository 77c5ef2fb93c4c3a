-- what is said of an answer from pieces, and of what a session was fed
use Rattle.std.specs.Prelude.{ℕ, List, ◌++◌, Bool, Result, Ok, Err}
use Rattle.combine_base.specs.Parser.Meaning.{Reading}
use Rattle.combine_base.specs.Parser.Outcome.{Outcome}
use Rattle.combine_base.specs.declared.parser.answer.Answer.{Answer}
use Rattle.combine_base.specs.declared.parser.answer.Answer.TheVariants.{More, Accepted, Refused}

-- P of the value and of how many tokens were taken, if it is accepted
abbrev pub IfAccepted : {A E F : Type 0} → Result (Answer A E) F → (A → ℕ → Type 0) → Type 0
IfAccepted (Ok More) P = Unit {0}
IfAccepted (Ok (Accepted value taken committed)) P = P value taken
IfAccepted (Ok (Refused error taken committed)) P = Unit {0}
IfAccepted (Err e) P = Unit {0}

-- with these tokens before them, what is left on further ones is an outcome of the reading on all
pub record Fed {T A : Type 0} (r : Reading ℕ T A) (left : List T → Bool → Outcome A → Type 0) (fed : List T) : Type 0 where
  pub within : (x : List T) (m : Bool) (o : Outcome A) → left x m o → r (record { position = 0; unread = fed ++ x; is_open = m }) o
