use Rattle.std.proofs.Common.{arith, ap, sym, subst, length, ◌∙◌}
use Rattle.combine_base.specs.Stream.View.{after_all}
use Rattle.combine_stream.specs.Range.TextRanges.{Cut}
use Rattle.combine_stream.specs.Position.Lines.{CountsFit, next_place}
use Rattle.combine_stream.proofs.PlacedTexts.{front_size, front_within, front_chars, back_fits}
use Rattle.combine_stream.proofs.position.text.take_range.Goals as goal

pub place_after-requires : goal.place_after-requires
place_after-requires c =
    let h = c.in-Ok.ensures in
    let a = front_size _ _ _ _ _ h.1 in
    let b = front_within _ _ _ _ _ h.1 c.utf8.rest in
    let x = c.requires.0 in
    let y = c.requires.1 in
    (omega arith, omega arith)

pub here-requires : goal.here-requires
here-requires c =
    let h = c.in-Ok.ensures in
    subst (λ p. CountsFit p (length c.in-Ok.back.now)) (sym c.place_after.ensures.place) (back_fits _ _ _ _ _ h.1 c.args.place c.requires c.utf8.rest c.place_after.ensures.text)

pub returns-in-Ok : goal.returns-in-Ok
returns-in-Ok c =
    let h = c.in-Ok.ensures in
    (h.0, subst (λ b. Cut c.args.rest.now c.args.n h.0 c.in-Ok.front.now b) (sym c.here.ensures.rest) h.1, c.here.ensures.place ∙ c.place_after.ensures.place ∙ ap (after_all next_place c.args.place) (front_chars _ _ _ _ _ h.1 c.place_after.ensures.text))
