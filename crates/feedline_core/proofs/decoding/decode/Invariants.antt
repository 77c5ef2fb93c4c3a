use Rattle.std.proofs.Common.{◌≡◌, take, map}
use Rattle.combine_session.specs.Pieces.{concatenated}
use Rattle.feedline_core.proofs.Batches.{WrittenMessages}
use Rattle.feedline_core.proofs.decoding.decode.Given as goal

-- the lines of the messages so far are written, and the decoder goes on behind them
abbrev pub invariant-pieces : goal.invariant-pieces
invariant-pieces g l = record {
  maker : l.decoder.maker ≡ l.fn.maker;
  written : WrittenMessages g.F.Maker.returns g.P.Parser.meaning l.fn.maker (g.W.Write.contents l.fn.out) (g.W.Write.contents l.out) (concatenated (take l.index (map (λ p. p.now) l.pieces))) l.decoder;
}
