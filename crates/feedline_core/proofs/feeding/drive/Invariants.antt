use Rattle.std.proofs.Common.{◌≡◌, take, map, length}
use Rattle.combine_session.proofs.Pieces.{AskedAfterPieces}
use Rattle.feedline_core.proofs.RunLines.{WrittenPieces}
use Rattle.feedline_core.proofs.feeding.drive.Given as goal

-- more was asked for after each piece so far, and a line written
abbrev pub invariant-pieces : goal.invariant-pieces
invariant-pieces g l = record {
  far : AskedAfterPieces g.P.Parser.meaning (g.P.Parser.meaning l.fn.parser) (take l.piece-index (map (λ p. p.now) l.pieces)) l.session;
  limit : l.session.limit ≡ l.fn.limit;
  written : WrittenPieces (g.P.Parser.meaning l.fn.parser).whole (g.P.Parser.meaning l.fn.parser).rest l.fn.limit (g.W.Write.contents l.fn.out) (g.W.Write.contents l.out) (take l.piece-index (map (λ p. p.now) l.pieces)) (length l.session.seen.unread);
}
