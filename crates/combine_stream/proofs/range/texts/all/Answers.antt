use Rattle.std.proofs.Common.{sym}
use Rattle.std.proofs.lemmas.Str.{encodes-chars}
use Rattle.combine_stream.proofs.range.texts.all.Goals as goal

pub returns : goal.returns
returns c = sym (encodes-chars _ c.utf8.text)
