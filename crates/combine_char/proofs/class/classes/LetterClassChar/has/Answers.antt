use Rattle.std.proofs.Common.{sym}
use Rattle.combine_char.proofs.Letters.{ascii_letters}
use Rattle.combine_char.proofs.class.classes.LetterClassChar.has.Goals as goal

pub returns-then-is_ascii_alphabetic : goal.returns-then-is_ascii_alphabetic
returns-then-is_ascii_alphabetic c = ascii_letters c.args.token (sym c.if-is_ascii_alphabetic.ensures.value)
