use Rattle.std.proofs.Common.{◌≡◌, ◌+◌, ◌^◌, take, map}
use Rattle.combine_session.specs.Pieces.{concatenated}
use Rattle.combine_decode.proofs.DecodedPieces.{DecoderWasFed}
use Rattle.combine_decode.proofs.decode.pieces.decode_pieces.Given as goal

-- the messages so far are those of the pieces so far, behind which the decoder goes on
abbrev pub invariant-pieces : goal.invariant-pieces
invariant-pieces g l = record {
  maker : l.decoder.maker ≡ l.fn.maker;
  limit : l.decoder.limit + 1 ≡ 2 ^ 64;
  far : DecoderWasFed g.F.Maker.returns g.P.Parser.meaning l.fn.maker (concatenated (take l.piece-index (map (λ p. p.now) l.pieces))) l.messages.items l.decoder;
}
