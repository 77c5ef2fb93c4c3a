use Rattle.std.proofs.Common.{refl, arith}
use Rattle.std.proofs.lemmas.Bool.{false≢true}
use Rattle.combine_stream.proofs.TextCuts.{text_size, text_count, text_place, text_spelled, text_takes, text_inside}
use Rattle.combine_stream.proofs.range.texts.cut.Goals as goal

pub returns-then-n-text : goal.returns-then-n-text
returns-then-n-text c = let e = text_size _ c.utf8.text in omega arith

pub returns-in-Some : goal.returns-in-Some
returns-in-Some c =
    let b = c.in-Some.ensures.variant.0 refl in
    (text_count _ _ c.utf8.text b, record { place = text_place _ _ c.utf8.text b; spelled = text_spelled _ _ c.utf8.text b _ c.in-Some.ensures.front; taken = text_takes _ _ c.utf8.text b _ c.in-Some.ensures.back })

pub returns-in-None : goal.returns-in-None
returns-in-None c = text_inside _ _ c.utf8.text (omega arith) (λ b. false≢true (c.in-None.ensures.variant.1 b))
