use Rattle.std.proofs.Common.{arith}
use Rattle.combine_base.proofs.Streams.FirstCharacter.{few_chars}
use Rattle.combine_stream.proofs.position.text.here.Goals as goal

pub returns-clause-short : goal.returns-clause-short
returns-clause-short c = let a = few_chars _ c.utf8.rest in let b = c.requires.0 in omega arith
