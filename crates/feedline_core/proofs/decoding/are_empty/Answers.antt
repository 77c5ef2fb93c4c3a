use Rattle.std.proofs.Common.{◌<◌, ◌∙◌, map, length, sym}
use Rattle.std.proofs.lemmas.List.{length-map, get_or-map}
use Rattle.feedline_core.proofs.Batches.{empty_more, not_empty}
use Rattle.feedline_core.proofs.decoding.are_empty.Goals as goal

pub returns-then-not-is_empty : goal.returns-then-not-is_empty
returns-then-not-is_empty c =
    let pieces = map (λ p. p.now) c.args.pieces.now in
    let within : c.pieces.piece-index < length pieces = rw length-map c.pieces-test.true in
    let at = get_or-map (λ p. p.now) c.args.pieces.now c.pieces.piece-index _ _ c.pieces-test.true in
    not_empty pieces c.pieces.piece-index c.pieces.invariant _ within at (sym c.is_empty.ensures ∙ c.if-not-is_empty.true)

pub pieces-preserved : goal.pieces-preserved
pieces-preserved c =
    let pieces = map (λ p. p.now) c.args.pieces.now in
    let within : c.pieces.piece-index < length pieces = rw length-map c.pieces-test.true in
    let at = get_or-map (λ p. p.now) c.args.pieces.now c.pieces.piece-index _ _ c.pieces-test.true in
    empty_more pieces c.pieces.piece-index c.pieces.invariant _ within at (sym c.is_empty.ensures ∙ c.if-not-is_empty.false)
