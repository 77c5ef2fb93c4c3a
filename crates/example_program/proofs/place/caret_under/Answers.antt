use Rattle.std.proofs.Common.{rules, arith, string_bytes, ◌-◌, ◌++◌, ◌∷◌, [], Ok, ap, ◌∙◌}
use Rattle.std.proofs.lemmas.Iterator.{YieldsList-from_chars, YieldsList-from_map, YieldsList-from_take, text_from_collect}
use Rattle.std.proofs.lemmas.Str.{encode_ascii}
use Rattle.example_program.specs.Carets.{mark}
use Rattle.example_program.proofs.place.caret_under.Goals as goal

pub returns : goal.returns
returns c =
    let before = c.saturating_sub-before.ensures in
    let line = c.chars.ensures.rest in
    let taken = c.take.ensures.source in
    let count = c.take.ensures.count in
    let mapped = c.map.ensures.source in
    let function = c.map.ensures.closure in
    let text = text_from_collect {E = Unit {0}} (Ok c.in_ok-caret.caret) c.in_ok-caret.ensures.ran (YieldsList-from_map _ mark (YieldsList-from_take (c.args.column - 1) (YieldsList-from_chars c.args.line.now c.utf8.line cc) cc) function (λ x r q k. search rules)) in
    c.in_ok-push.ensures.bytes ∙ ap (λ e. string_bytes c.in_ok-caret.caret ++ e) (encode_ascii 94 (omega arith)) ∙ ap (λ l. l ++ 94 ∷ []) text
