use Rattle.std.proofs.Common.{take, arith}
use Rattle.std.proofs.lemmas.List.{length-take-le}
use Rattle.std.proofs.lemmas.Str.{IsCharBoundary-start, IsUtf8-take}
use Rattle.combine_base.proofs.Streams.FirstCharacter.{few_chars}
use Rattle.combine_stream.proofs.position.text.text_start.Goals as goal

pub returns-clause-place : goal.returns-clause-place
returns-clause-place c = (c.utf8.text, IsCharBoundary-start _ c.utf8.text)

pub returns-clause-none : goal.returns-clause-none
returns-clause-none c =
    let k = few_chars (take 0 c.args.text.now) (IsUtf8-take _ _ c.utf8.text (IsCharBoundary-start _ c.utf8.text)) in
    let s = length-take-le 0 c.args.text.now (omega arith) in
    omega arith
