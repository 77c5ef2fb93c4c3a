use Rattle.std.proofs.Common.{◌≡◌, ◌<◌, ◌≤◌, ◌∙◌, map, length, arith}
use Rattle.std.proofs.lemmas.List.{length-map, get_or-map}
use Rattle.std.proofs.lemmas.Result.{err_from_is_err_and}
use Rattle.combine_session.proofs.Pieces.{further_at, limit_stays, stops_at, decided_after_pieces}
use Rattle.feedline_core.proofs.RunLines.{one_more_at, lines_decided, fits_all, fits_at, gives_up}
use Rattle.feedline_core.proofs.SessionRoom.{asked_so_far, feeds_end, feeds_within, has_room, leaves_unread}
use Rattle.feedline_core.proofs.feeding.drive.Goals as goal

pub feed-requires-clause-fits : goal.feed-requires-clause-fits
feed-requires-clause-fits g c =
    let pieces = map (λ p. p.now) c.args.pieces.now in
    let within : c.pieces.piece-index < length pieces = rw length-map c.pieces-test.true in
    let at = get_or-map (λ p. p.now) c.args.pieces.now c.pieces.piece-index _ _ c.pieces-test.true in
    has_room _ _ g.P.Parser.valid pieces _ _ c.pieces.invariant.far _ within at c.requires.fits

pub returns-in_err-answer : goal.returns-in_err-answer
returns-in_err-answer g c =
    let pieces = map (λ p. p.now) c.args.pieces.now in
    let within : c.pieces.piece-index < length pieces = rw length-map c.pieces-test.true in
    let most : c.pieces.piece-index ≤ length pieces = omega arith in
    let at = get_or-map (λ p. p.now) c.args.pieces.now c.pieces.piece-index _ _ c.pieces-test.true in
    let i = c.pieces.invariant in
    let asked = asked_so_far _ _ pieces _ _ i.far most in
    let p = err_from_is_err_and c.from_residual.result c.from_residual.ensures.1 in
    rw (p.1, p.2) (gives_up _ _ _ pieces _ _ _ _ i.written most _ within at asked _ (rw i.limit at c.in_err-answer.ensures))

pub returns-in_default : goal.returns-in_default
returns-in_default g c =
    let pieces = map (λ p. p.now) c.args.pieces.now in
    let within : c.pieces.piece-index < length pieces = rw length-map c.pieces-test.true in
    let most : c.pieces.piece-index ≤ length pieces = omega arith in
    let at = get_or-map (λ p. p.now) c.args.pieces.now c.pieces.piece-index _ _ c.pieces-test.true in
    let i = c.pieces.invariant in
    let fit = rw i.limit at (feeds_within _ _ _ _ i.far.stage _ _ c.in_ok-answer.ensures) in
    lines_decided _ _ _ pieces _ _ _ _ i.written most _ (fits_at _ _ _ pieces _ _ _ _ i.written most _ within at fit) _ (stops_at _ _ _ pieces _ _ i.far _ within at _ (g.met.P.Parser.laws _ c.requires.lawful).whole _ c.in_default.not-More c.in_ok-answer.ensures) _ c.write_decision.ensures

pub pieces-preserved : goal.pieces-preserved
pieces-preserved g c =
    let pieces = map (λ p. p.now) c.args.pieces.now in
    let within : c.pieces.piece-index < length pieces = rw length-map c.pieces-test.true in
    let at = get_or-map (λ p. p.now) c.args.pieces.now c.pieces.piece-index _ _ c.pieces-test.true in
    let fed = rw c.in-More.is at c.in_ok-answer.ensures in
    let line = rw c.unread.ensures.unread at c.in_ok-write_more-in-More.ensures in
    let i = c.pieces.invariant in
    let far = further_at _ _ _ pieces _ _ i.far _ within at _ fed in
    let fit = rw i.limit at (feeds_within _ _ _ _ i.far.stage _ _ fed) in
    record {
      far = far;
      limit = limit_stays _ _ _ _ _ i.far _ _ fed ∙ i.limit;
      written = one_more_at _ _ _ _ _ _ pieces _ _ i.written _ within at _ (feeds_end _ _ _ _ i.far.stage _ fed) fit (leaves_unread _ _ _ _ far) line;
    }

pub returns : goal.returns
returns g c =
    let pieces = map (λ p. p.now) c.args.pieces.now in
    let all : c.pieces.piece-index ≡ length pieces = rw length-map (omega arith) in
    let most : c.pieces.piece-index ≤ length pieces = omega arith in
    let i = c.pieces.invariant in
    lines_decided _ _ _ pieces _ _ _ _ i.written most _ (fits_all _ _ _ pieces _ _ _ _ i.written most all) _ (decided_after_pieces _ _ _ pieces _ _ i.far all _ _ c.in_ok-answer-2.ensures) _ c.write_decision-2.ensures
