use Rattle.std.proofs.Common.{◌≡◌, None, take, map}
use Rattle.combine_session.proofs.Pieces.{AskedAfterPieces}
use Rattle.combine_session.proofs.session.parse_pieces.Given as goal

-- more was asked for after each piece so far, of a session without a limit
abbrev pub invariant-pieces : goal.invariant-pieces
invariant-pieces g l = record {
  far : AskedAfterPieces g.P.Parser.meaning (g.P.Parser.meaning l.fn.parser) (take l.piece-index (map (λ p. p.now) l.pieces)) l.session;
  limit : l.session.limit ≡ None;
}
