use Rattle.std.proofs.Common.{◌≡◌, ◌<◌, ◌∙◌, ap, get_or, map, length, arith, sym}
use Rattle.std.proofs.lemmas.List.{length-map, get_or-map}
use Rattle.combine_session.proofs.Pieces.{answers_at_end, decides_at, fails_at_piece, further_at, limit_stays}
use Rattle.combine_session.proofs.session.parse_pieces.Goals as goal

pub returns-in_default : goal.returns-in_default
returns-in_default g c =
    let pieces = map (λ p. p.now) c.args.pieces.now in
    let within : c.pieces.piece-index < length pieces = rw length-map c.pieces-test.true in
    let item = c.piece-item.result in
    let at : get_or pieces c.pieces.piece-index item.now ≡ item.now = get_or-map (λ p. p.now) c.args.pieces.now c.pieces.piece-index item item.now c.pieces-test.true ∙ ap (λ p. p.now) (sym c.piece-item.is) in
    decides_at _ _ _ pieces _ _ c.pieces.invariant.far _ within at _ (g.met.P.Parser.laws _ c.requires).whole _ c.in_default.not-More c.in-Ok.ensures

pub returns-in-Err : goal.returns-in-Err
returns-in-Err g c =
    let pieces = map (λ p. p.now) c.args.pieces.now in
    let within : c.pieces.piece-index < length pieces = rw length-map c.pieces-test.true in
    let item = c.piece-item.result in
    let at : get_or pieces c.pieces.piece-index item.now ≡ item.now = get_or-map (λ p. p.now) c.args.pieces.now c.pieces.piece-index item item.now c.pieces-test.true ∙ ap (λ p. p.now) (sym c.piece-item.is) in
    fails_at_piece _ _ _ pieces _ _ c.pieces.invariant.far _ within at _ c.pieces.invariant.limit _ c.in-Err.ensures

pub pieces-preserved : goal.pieces-preserved
pieces-preserved g c =
    let pieces = map (λ p. p.now) c.args.pieces.now in
    let within : c.pieces.piece-index < length pieces = rw length-map c.pieces-test.true in
    let item = c.piece-item.result in
    let at : get_or pieces c.pieces.piece-index item.now ≡ item.now = get_or-map (λ p. p.now) c.args.pieces.now c.pieces.piece-index item item.now c.pieces-test.true ∙ ap (λ p. p.now) (sym c.piece-item.is) in
    let fed = rw c.in-More.is at c.in-Ok.ensures in
    record {
      far = further_at _ _ _ pieces _ _ c.pieces.invariant.far _ within at _ fed;
      limit = limit_stays _ _ _ _ _ c.pieces.invariant.far _ _ fed ∙ c.pieces.invariant.limit;
    }

pub returns : goal.returns
returns g c =
    let pieces = map (λ p. p.now) c.args.pieces.now in
    let all : c.pieces.piece-index ≡ length pieces = rw length-map (omega arith) in
    answers_at_end _ _ _ pieces _ _ c.pieces.invariant.far all _ _ c.end.ensures
