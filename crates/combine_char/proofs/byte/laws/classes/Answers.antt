use Rattle.combine_base.proofs.Parsers.SameMeanings.{same_none}
use Rattle.combine_char.proofs.byte.laws.classes.Goals as goal

pub returns : goal.returns
returns g c = record { digit = same_none _; oct_digit = same_none _; hex_digit = same_none _; space = same_none _; newline = same_none _; tab = same_none _; upper = same_none _; lower = same_none _; letter = same_none _; alpha_num = same_none _; crlf = same_none _; spaces = same_none _ }
