use Rattle.std.proofs.Common.{◌<◌, not, inr, refl, sym, ap, ◌∙◌, map, length}
use Rattle.std.proofs.lemmas.List.{length-map, get_or-map}
use Rattle.feedline_core.proofs.Sizes.{one_more_size, no_size, no_sizes}
use Rattle.feedline_core.proofs.args.read_sizes.Goals as goal

pub returns-in_default : goal.returns-in_default
returns-in_default c =
    let h = c.loop-word-test.true in
    let words = map (λ w. w.now) c.args.words.now in
    let within : c.loop-word.word-index < length words = rw length-map h in
    let e = get_or-map (λ w. w.now) c.args.words.now c.loop-word.word-index _ c.as_bytes.result.now h ∙ sym c.as_bytes.ensures.value in
    inr (refl, no_sizes words (no_size words c.loop-word.word-index c.loop-word.sizes.items c.as_bytes.result.now within e c.loop-word.invariant (sym c.read_size.ensures ∙ c.in_default.is)))

pub loop-word-preserved : goal.loop-word-preserved
loop-word-preserved c =
    let h = c.loop-word-test.true in
    let words = map (λ w. w.now) c.args.words.now in
    let within : c.loop-word.word-index < length words = rw length-map h in
    let e = get_or-map (λ w. w.now) c.args.words.now c.loop-word.word-index _ c.as_bytes.result.now h ∙ sym c.as_bytes.ensures.value in
    let p = one_more_size words c.loop-word.word-index c.loop-word.sizes.items c.as_bytes.result.now within e c.loop-word.invariant c.in-Some.size (sym c.read_size.ensures ∙ c.in-Some.is) in
    let items = rw (c.is_err.ensures.negation ∙ ap not c.if-is_err.false) at c.push.ensures.items in
    rw items p
