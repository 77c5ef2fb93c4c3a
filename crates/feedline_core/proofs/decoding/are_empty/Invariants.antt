use Rattle.std.proofs.Common.{◌≡◌, length, drop, map}
use Rattle.combine_session.specs.Pieces.{concatenated}
use Rattle.feedline_core.proofs.decoding.are_empty.Given as goal

-- all bytes are those of the pieces to come
abbrev pub invariant-pieces : goal.invariant-pieces
invariant-pieces l = length (concatenated (map (λ p. p.now) l.pieces)) ≡ length (concatenated (drop l.piece-index (map (λ p. p.now) l.pieces)))
