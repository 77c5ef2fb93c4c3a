-- what the parsers of classes mean, each by its set and its text
use Rattle.std.specs.Prelude.{ℕ, Bool, List, codes}
use Rattle.combine_base.specs.Error.Errors.{Observers, Only}
use Rattle.combine_base.specs.Error.Items.{Expected, Fixed}
use Rattle.combine_base.specs.Parser.Meaning.{Meaning}
use Rattle.combine_base.specs.Sequence.Tuples.{tuple_2}
use Rattle.combine_char.specs.NamedParser.{named}
use Rattle.combine_char.specs.Restart.{whole_pair}
use Rattle.combine_token.specs.Token.OneToken.{of_function, satisfied, takes_one}

-- a token of the set, of which errors say the text
abbrev pub takes_member : {P T R E S : Type 0} → Observers T R P E → (T → Bool) → List ℕ → Meaning P T R E T S
takes_member errors members text = takes_one errors (satisfied (of_function members)) (Unit {0}) (Only (Expected (Fixed text)))

-- a carriage return and then a line feed, both or neither
abbrev pub takes_crlf : {P R E : Type 0} → (P → ℕ → P) → Observers ℕ R P E → (ℕ → Bool) → (ℕ → Bool) → Meaning P ℕ R E ℕ (Unit {0})
takes_crlf step errors is_return is_newline = named (codes "crlf newline") (whole_pair (tuple_2 {U = Unit {0}} {V = Unit {0}} step errors (takes_member errors is_return (codes "carriage return")) (takes_member errors is_newline (codes "lf newline"))))
