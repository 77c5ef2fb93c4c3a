use Rattle.std.proofs.Common.{arith, ap, length, drop, take, ◌∙◌}
use Rattle.std.proofs.lemmas.List.{length-take-le}
use Rattle.std.proofs.lemmas.Str.{IsUtf8-take}
use Rattle.std.specs.Str.{chars}
use Rattle.combine_base.proofs.Streams.FirstCharacter.{few_chars}
use Rattle.combine_stream.proofs.TextParts.{count_between}
use Rattle.combine_stream.proofs.position.text.count_chars_to.Goals as goal

pub overflow_add-result : goal.overflow_add-result
overflow_add-result c =
    let a = count_between _ _ _ c.utf8.text c.requires.from c.requires.order in
    let b = c.count_characters.ensures ∙ ap (λ bs. length (chars bs)) (c.split_at-2.ensures.back ∙ ap (drop c.args.from) c.split_at.ensures.front) in
    let d = c.requires.before in
    let k = few_chars (take c.args.to c.args.text.now) (IsUtf8-take _ _ c.utf8.text c.requires.to) in
    let s = length-take-le c.args.to c.args.text.now c.requires.to.0 in
    let r = c.ranges.to.fits in
    omega arith

pub returns : goal.returns
returns c =
    let a = count_between _ _ _ c.utf8.text c.requires.from c.requires.order in
    let b = c.count_characters.ensures ∙ ap (λ bs. length (chars bs)) (c.split_at-2.ensures.back ∙ ap (drop c.args.from) c.split_at.ensures.front) in
    let d = c.requires.before in
    omega arith
