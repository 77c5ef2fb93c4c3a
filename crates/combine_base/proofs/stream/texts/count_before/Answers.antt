use Rattle.std.proofs.Common.{◌∙◌, ap, sym, drop, length, length-drop, arith}
use Rattle.std.proofs.lemmas.List.{drop-drop}
use Rattle.std.proofs.lemmas.Str.{len_utf8_bounds}
use Rattle.std.specs.Str.{chars}
use Rattle.combine_base.proofs.Streams.FirstCharacter.{not_there, there}
use Rattle.combine_base.proofs.stream.texts.count_before.Goals as goal

pub characters-preserved : goal.characters-preserved
characters-preserved c =
    let i = c.characters.invariant in
    let f = c.in-Some.ensures in
    let cs = chars c.args.text.now in
    record {
      text = f.text;
      bound = let b = i.bound in let s = f.size in let l = (len_utf8_bounds c.in-Some._first).0 in omega arith;
      at = ap (drop 1) (sym f.characters ∙ i.at) ∙ drop-drop 1 c.characters.count cs;
      before = λ n h e. let l = not_there cs c.characters.left.now c.args.end.now c.characters.count n i.text c.utf8.end (i.before n h e) i.at e c.characters-test.true in omega arith;
    }

pub returns-in-None : goal.returns-in-None
returns-in-None c n h e =
    let i = c.characters.invariant in
    let z = ap length (sym i.at ∙ c.in-None.ensures) in
    let l = length-drop c.characters.count (chars c.args.text.now) in
    let b = i.before n h e in
    omega arith

pub returns : goal.returns
returns c n h e =
    let i = c.characters.invariant in
    there (chars c.args.text.now) c.characters.left.now c.args.end.now c.characters.count n i.text c.utf8.end (i.before n h e) i.at e h (let t = c.characters-test.false in omega arith)
